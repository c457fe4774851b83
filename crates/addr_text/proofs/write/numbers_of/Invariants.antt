use Rattle.std.proofs.Common.{◌≡◌, ◌≤◌, ◌-◌, ◌++◌, length}
use Rattle.addr_text.specs.Numbers.{digits_in}
use Rattle.addr_text.proofs.write.numbers_of.Given as goal

abbrev pub invariant-loop-numbers : goal.invariant-loop-numbers
invariant-loop-numbers l =
    record {
      few : length l.numbers.items ≤ 4;
      so_far : digits_in 256 (4 - length l.numbers.items) l.rest ++ l.numbers.items ≡ digits_in 256 4 l.n;
    }

abbrev pub decreases-loop-numbers : goal.decreases-loop-numbers
decreases-loop-numbers l = 4 - length l.numbers.items
