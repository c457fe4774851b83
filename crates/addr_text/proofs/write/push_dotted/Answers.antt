use Rattle.std.proofs.Common.{ap, ◌∙◌, ◌++◌, ℕ}
use Rattle.addr_text.specs.Written.{decimal_text}
use Rattle.addr_text.proofs.Again.{joined_pushed}
use Rattle.addr_text.proofs.write.push_dotted.Goals as goal

pub returns-in-Some : goal.returns-in-Some
returns-in-Some c =
    joined_pushed 46 decimal_text c.in-Some.first.now c.in-Some.rest.now c.args.numbers.now c.args.out.now.items c.push_decimal.new.out.items c.push_dotted_rest.new.out.items c.in-Some.ensures.cases.0
    (c.push_decimal.ensures.text ∙ ap (λ (n : ℕ). c.args.out.now.items ++ decimal_text n) c.from.ensures) c.push_dotted_rest.ensures.text
