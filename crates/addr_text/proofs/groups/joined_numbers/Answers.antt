use Rattle.std.proofs.Common.{sym, ap, ◌∙◌, ◌==◌, refl}
use Rattle.addr_text.specs.Numbers.{number_of}
use Rattle.addr_text.proofs.Joined.{refused, refused_last, values_end, values_step}
use Rattle.addr_text.proofs.groups.joined_numbers.Goals as goal

pub returns-then-not-push_number : goal.returns-then-not-push_number
returns-then-not-push_number c =
    refused 4 (number_of 255) (λ b. b == 46) c.loop-dot.rest.now c.in-Some.dot c.loop-dot.numbers.items _ (sym c.position_of.ensures.first ∙ c.in-Some.is)
    (rw (← c.before-in-Some.ensures) (c.if-not-push_number.ensures.not refl)) c.loop-dot.invariant

pub loop-dot-preserved : goal.loop-dot-preserved
loop-dot-preserved c =
    let (v, is, pushed) = c.if-not-push_number.ensures.pushed refl in
    rw c.after-rest.ensures
    (values_step (number_of 255) (λ b. b == 46) c.loop-dot.rest.now c.in-Some.dot v c.loop-dot.numbers.items c.push_number.new.numbers.items _ (sym c.position_of.ensures.first ∙ c.in-Some.is)
    (ap (number_of 255) (sym c.before-in-Some.ensures) ∙ is) pushed c.loop-dot.invariant)

pub returns-then-push_number : goal.returns-then-push_number
returns-then-push_number c =
    let (v, is, pushed) = c.if-push_number.ensures.pushed refl in
    values_end 4 (number_of 255) (λ b. b == 46) c.loop-dot.rest.now v c.loop-dot.numbers.items c.push_number-2.new.numbers.items _ (sym c.position_of.ensures.first ∙ c.in_default.is) is pushed
    (c.if-push_number.ensures.fits refl) c.loop-dot.invariant

pub returns-else-push_number : goal.returns-else-push_number
returns-else-push_number c =
    refused_last 4 (number_of 255) (λ b. b == 46) c.loop-dot.rest.now c.loop-dot.numbers.items _ (sym c.position_of.ensures.first ∙ c.in_default.is) (c.if-push_number.ensures.not refl) c.loop-dot.invariant
