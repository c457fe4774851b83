use Rattle.std.proofs.Common.{◌≡◌, ◌<◌, drop}
use Rattle.addr_text.specs.Numbers.{hex_digit}
use Rattle.addr_text.proofs.Counted.{value_from}
use Rattle.addr_text.proofs.digits.hex_value.Given as goal

abbrev pub invariant-loop-b : goal.invariant-loop-b
invariant-loop-b l =
    record {
      so_far : value_from hex_digit 16 l.value (drop l.b-index l.text) ≡ value_from hex_digit 16 0 l.text;
      none : l.b-index ≡ 0 → l.value < 1;
      one : l.b-index ≡ 1 → l.value < 16;
      two : l.b-index ≡ 2 → l.value < 256;
      three : l.b-index ≡ 3 → l.value < 4096;
    }
