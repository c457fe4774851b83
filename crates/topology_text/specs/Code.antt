-- Inside this crate alone: what the code's walk stands for.
use Rattle.std.specs.Prelude.{Bool, false, List, map, option_map, slice_index_or}
use Rattle.toml.specs.View.{table_view, view}
use Rattle.topology_text.specs.declared.names.Entries.{Entries as CodeEntries}
use Rattle.topology_text.specs.Names.{Entries}
use Rattle.topology_text.specs.declared.visited.TableAt.{TableAt}
use Rattle.topology_text.specs.declared.schema.Spot.{Spot}
use Rattle.topology_text.specs.declared.schema.Spot.TheVariants.{ClassTable}
use Rattle.topology_text.specs.Walk.{Visit}

-- a table on the walk
abbrev pub visit : TableAt → Visit
visit t = record { spot = t.spot; members = table_view t.table.now }

-- the flag of the class at a place of the walk
abbrev pub flag_at : List Bool → Spot → Bool
flag_at flags (ClassTable i) = slice_index_or flags i false
flag_at flags _ = false

-- the entries, and not their index
abbrev pub entries : CodeEntries → Entries
entries e = record { nodes = map view e.nodes.now; groups = map view e.groups.now; classes = map view e.classes.now; zone = option_map (λ t. table_view t.now) e.zone }
