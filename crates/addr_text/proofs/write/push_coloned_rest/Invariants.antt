use Rattle.std.proofs.Common.{◌≡◌, ◌≤◌, ◌+◌, ◌*◌, ◌++◌, take, length}
use Rattle.std.specs.List.{flat_map}
use Rattle.addr_text.specs.Written.{colon_text}
use Rattle.addr_text.proofs.write.push_coloned_rest.Given as goal

abbrev pub invariant-loop-group : goal.invariant-loop-group
invariant-loop-group l =
    (l.out.items ≡ l.initial.out.items ++ flat_map colon_text (take l.group-index l.groups)) × (length l.out.items ≤ length l.initial.out.items + 5 * l.group-index)
