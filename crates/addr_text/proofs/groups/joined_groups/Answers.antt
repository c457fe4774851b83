use Rattle.std.proofs.Common.{sym, ap, ◌∙◌, ◌==◌, refl}
use Rattle.addr_text.specs.Groups.{group_of}
use Rattle.addr_text.proofs.Joined.{refused, refused_last, values_end, values_step}
use Rattle.addr_text.proofs.groups.joined_groups.Goals as goal

pub returns-then-not-push_group : goal.returns-then-not-push_group
returns-then-not-push_group c =
    refused 8 group_of (λ b. b == 58) c.loop-colon.rest.now c.in-Some.colon c.loop-colon.groups.items _ (sym c.position_of.ensures.first ∙ c.in-Some.is)
    (rw (← c.before-in-Some.ensures) (c.if-not-push_group.ensures.not refl)) c.loop-colon.invariant

pub loop-colon-preserved : goal.loop-colon-preserved
loop-colon-preserved c =
    let (v, is, pushed) = c.if-not-push_group.ensures.pushed refl in
    rw c.after-rest.ensures
    (values_step group_of (λ b. b == 58) c.loop-colon.rest.now c.in-Some.colon v c.loop-colon.groups.items c.push_group.new.groups.items _ (sym c.position_of.ensures.first ∙ c.in-Some.is)
    (ap group_of (sym c.before-in-Some.ensures) ∙ is) pushed c.loop-colon.invariant)

pub returns-then-push_group : goal.returns-then-push_group
returns-then-push_group c =
    let (v, is, pushed) = c.if-push_group.ensures.pushed refl in
    values_end 8 group_of (λ b. b == 58) c.loop-colon.rest.now v c.loop-colon.groups.items c.push_group-2.new.groups.items _ (sym c.position_of.ensures.first ∙ c.in_default.is) is pushed
    (c.if-push_group.ensures.fits refl) c.loop-colon.invariant

pub returns-else-push_group : goal.returns-else-push_group
returns-else-push_group c =
    refused_last 8 group_of (λ b. b == 58) c.loop-colon.rest.now c.loop-colon.groups.items _ (sym c.position_of.ensures.first ∙ c.in_default.is) (c.if-push_group.ensures.not refl) c.loop-colon.invariant
