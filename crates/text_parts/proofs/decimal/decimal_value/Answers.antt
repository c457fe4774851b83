use Rattle.std.proofs.Common.{◌+◌, ◌*◌, drop, get_or, ap, sym, ◌∙◌, arith}
use Rattle.std.proofs.lemmas.List.{drop_more}
use Rattle.std.specs.Char.{digit_value}
use Rattle.std.specs.Str.Parse.{digits_value_after}
use Rattle.text_parts.proofs.Digits.{digit_here, digits_more}
use Rattle.text_parts.proofs.decimal.decimal_value.Goals as goal

pub returns-then-longer-from : goal.returns-then-longer-from
returns-then-longer-from c =
    let ds = c.args.digits.now in
    let i = c.loop-digit.digit-index in
    let longer = c.loop-digit.value * 10 + digit_value (get_or ds i 0) in
    let step = ap (λ xs. digits_value_after 10 c.loop-digit.value xs) (sym (drop_more ds i 0 c.loop-digit-test.true)) ∙ c.loop-digit.invariant.0 in
    omega (arith, digits_more longer (drop (i + 1) ds), step, digit_here ds i c.loop-digit-test.true c.requires)
