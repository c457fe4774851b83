use Rattle.std.proofs.Common.{◌<◌, ◌-◌, suc, length, sym, arith}
use Rattle.addr_text.proofs.Bases.{all_moved, digit_moved, is_full, not_full}
use Rattle.addr_text.proofs.write.numbers_of.Goals as goal

pub loop-numbers-preserved : goal.loop-numbers-preserved
loop-numbers-preserved c =
    let room : length c.loop-numbers.numbers.items < 4 = not_full 4 (length c.loop-numbers.numbers.items) (sym c.loop-numbers-test.ensures.value) c.loop-numbers.invariant.few in record {
      few = omega (arith, c.insert.ensures.len);
      so_far = rw c.insert.ensures.items (digit_moved 256 (4 - suc (length c.loop-numbers.numbers.items)) (4 - length c.loop-numbers.numbers.items) c.loop-numbers.rest c.loop-numbers.numbers.items _ (omega arith) c.loop-numbers.invariant.so_far);
    }

pub returns-clause-numbers : goal.returns-clause-numbers
returns-clause-numbers c = all_moved 256 (4 - length c.loop-numbers.numbers.items) c.loop-numbers.rest c.loop-numbers.numbers.items _ (is_full 4 (length c.loop-numbers.numbers.items) (sym c.loop-numbers-test.ensures.value)) c.loop-numbers.invariant.so_far
