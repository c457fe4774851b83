use Rattle.std.proofs.Common.{◌≡◌, ◌<◌, ◌*◌, take}
use Rattle.addr_text.specs.Numbers.{in_base}
use Rattle.addr_text.proofs.read.v4_value.Given as goal

abbrev pub invariant-loop-number : goal.invariant-loop-number
invariant-loop-number l =
    record {
      so_far : l.value ≡ in_base 256 (take l.number-index l.numbers);
      none : l.number-index ≡ 0 → l.value < 1;
      one : l.number-index ≡ 1 → l.value < 256;
      two : l.number-index ≡ 2 → l.value < 256 * 256;
      three : l.number-index ≡ 3 → l.value < 256 * 256 * 256;
    }
