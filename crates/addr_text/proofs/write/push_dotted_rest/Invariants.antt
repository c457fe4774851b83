use Rattle.std.proofs.Common.{◌≡◌, ◌≤◌, ◌+◌, ◌*◌, ◌++◌, take, length}
use Rattle.std.specs.List.{flat_map}
use Rattle.addr_text.specs.Written.{dot_text}
use Rattle.addr_text.proofs.write.push_dotted_rest.Given as goal

abbrev pub invariant-loop-number : goal.invariant-loop-number
invariant-loop-number l =
    (l.out.items ≡ l.initial.out.items ++ flat_map dot_text (take l.number-index l.numbers)) × (length l.out.items ≤ length l.initial.out.items + 4 * l.number-index)
