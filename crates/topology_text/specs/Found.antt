-- Inside this crate alone: what the map of a table finds at a key.
use Rattle.std.specs.Prelude.{List, Option, String, string_bytes}
use Rattle.std.specs.Global.{Global}
use Rattle.std.specs.Ordering.{nat_cmp}
use Rattle.std.specs.BTreeMap.{is_at}
use Rattle.std.specs.Cmp.Lexicographic.{slice_cmp}
use Rattle.std.specs.Map.{lookup}
use Rattle.toml.specs.declared.value.Value.{Value}
use Rattle.topology_text.specs.Schema.{key_text}
use Rattle.topology_text.specs.declared.schema.Key.{Key}

-- the value among a map's entries at a key
abbrev pub found_at : List (String Global × Value) → Key → Option Value
found_at es k = lookup (is_at (λ x. slice_cmp nat_cmp (key_text k) (string_bytes x))) es
