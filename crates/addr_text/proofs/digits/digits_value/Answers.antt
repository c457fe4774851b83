use Rattle.std.proofs.Common.{sym, ap, ◌∙◌, ◌+◌, ◌*◌, drop, nat_le, arith}
use Rattle.addr_text.specs.Numbers.{all_of, decimal_digit, only_if}
use Rattle.addr_text.proofs.Counted.{digit_step, past_limit}
use Rattle.addr_text.proofs.digits.digits_value.Goals as goal

pub returns-then-value-limit : goal.returns-then-value-limit
returns-then-value-limit c =
    sym
    (ap (only_if (λ n. nat_le n c.args.limit)) (sym c.loop-b.invariant.so_far ∙ sym (digit_step decimal_digit 10 c.loop-b.value c.in_ok-value.field-0 c.args.text.now c.loop-b.b-index c.loop-b-test.true (sym c.in_ok-value.ensures.value)))
    ∙ past_limit 10 (10 * c.loop-b.value + c.in_ok-value.field-0) c.args.limit (all_of decimal_digit (drop (c.loop-b.b-index + 1) c.args.text.now)) (omega arith) c.if-value-limit.true)
