use Rattle.std.proofs.Common.{◌≡◌, ◌++◌, replicate}
use Rattle.addr_text.proofs.groups.push_zeros.Given as goal

abbrev pub invariant-loop-zero : goal.invariant-loop-zero
invariant-loop-zero l = l.groups.items ≡ l.initial.groups.items ++ replicate l._zero 0
