use Rattle.std.proofs.Common.{◌≡◌, ◌++◌, take}
use Rattle.addr_text.proofs.groups.push_all.Given as goal

abbrev pub invariant-loop-value : goal.invariant-loop-value
invariant-loop-value l = l.groups.items ≡ l.initial.groups.items ++ take l.value-index l.values
