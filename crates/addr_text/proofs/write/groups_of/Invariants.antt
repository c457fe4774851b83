use Rattle.std.proofs.Common.{◌≡◌, ◌≤◌, ◌-◌, ◌++◌, length}
use Rattle.addr_text.specs.Numbers.{digits_in}
use Rattle.addr_text.proofs.write.groups_of.Given as goal

abbrev pub invariant-loop-groups : goal.invariant-loop-groups
invariant-loop-groups l =
    record {
      few : length l.groups.items ≤ 8;
      so_far : digits_in 65536 (8 - length l.groups.items) l.rest ++ l.groups.items ≡ digits_in 65536 8 l.n;
    }

abbrev pub decreases-loop-groups : goal.decreases-loop-groups
decreases-loop-groups l = 8 - length l.groups.items
