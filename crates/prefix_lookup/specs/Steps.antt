-- Inside this crate alone: the longest prefix, found by one entry after the other.
use Rattle.std.specs.Prelude.{true, ◌&&◌, nat_lt, if◌then◌else◌, List, Option, None, Some, fold}
use Rattle.std.specs.Option.{option_map_or}
use Rattle.addr_text.specs.declared.address.Addr.{Addr}
use Rattle.addr_text.specs.declared.address.Prefix.{Prefix}
use Rattle.map_model.specs.declared.instance.GroupId.{GroupId}
use Rattle.prefix_lookup.specs.Longest.{holds}

-- the longer of the best entry so far and one more, if that holds the address
abbrev pub longer : Addr → Option (Prefix × GroupId) → Prefix × GroupId → Option (Prefix × GroupId)
longer a best e = if holds e.0 a && option_map_or (λ b. nat_lt b.0.len e.0.len) best true then Some e else best

-- the best after all of these
abbrev pub best_of : List (Prefix × GroupId) → Addr → Option (Prefix × GroupId)
best_of table a = fold (longer a) None table
