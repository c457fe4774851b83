-- Inside this crate alone: what a lookup holds.
use Rattle.std.specs.Prelude.{List}
use Rattle.addr_text.specs.declared.address.Prefix.{Prefix}
use Rattle.map_model.specs.declared.instance.GroupId.{GroupId}
use Rattle.prefix_lookup.specs.declared.family.Family.TheVariants as family
use Rattle.prefix_lookup.specs.declared.ranges.RangesV4.{RangesV4}
use Rattle.prefix_lookup.specs.declared.ranges.RangesV6.{RangesV6}
use Rattle.prefix_lookup.specs.Ranges.{AreRanges}
use Rattle.prefix_lookup.specs.Table.{IsTable}

-- the ranges of a table's prefixes
pub record IsHeld (table : List (Prefix × GroupId)) (held_v4 : RangesV4) (held_v6 : RangesV6) : Type 0 where
  pub prefixes : IsTable table
  pub v4 : AreRanges family.V4 table held_v4.starts.items held_v4.groups.items
  pub v6 : AreRanges family.V6 table held_v6.starts.items held_v6.groups.items
