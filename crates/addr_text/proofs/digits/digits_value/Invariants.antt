use Rattle.std.proofs.Common.{◌≡◌, ◌≤◌, drop}
use Rattle.addr_text.specs.Numbers.{decimal_digit}
use Rattle.addr_text.proofs.Counted.{value_from}
use Rattle.addr_text.proofs.digits.digits_value.Given as goal

abbrev pub invariant-loop-b : goal.invariant-loop-b
invariant-loop-b l =
    record {
      so_far : value_from decimal_digit 10 l.value (drop l.b-index l.text) ≡ value_from decimal_digit 10 0 l.text;
      within : l.value ≤ l.limit;
    }
