use Rattle.std.proofs.Common.{sym, ◌∙◌, ◌==◌, refl, arith}
use Rattle.std.specs.List.{slice_split}
use Rattle.name_text.proofs.Labels.{full_at, full_last, no_room_at_end, room_at_end, short_enough, wire_end, wire_step}
use Rattle.name_text.proofs.read.wire_of.Goals as goal
use Rattle.name_text.proofs.read.wire_of.Goals.{then-not-push_label-2-via-then-not-push_label-2, then-not-push_label-2-via-else-not-push_label-2+then-is_full}

pub returns-then-not-push_label : goal.returns-then-not-push_label
returns-then-not-push_label c =
    full_at (λ b. b == 46) c.loop-dot.rest.now c.in-Some.dot c.loop-dot.octets.items (slice_split (λ b. b == 46) c.args.text.now) (sym c.position_of.ensures.first ∙ c.in-Some.is)
    (rw (← c.before-in-Some.ensures) (c.if-not-push_label.ensures.full refl)) c.loop-dot.invariant

pub loop-dot-preserved : goal.loop-dot-preserved
loop-dot-preserved c =
    rw c.after-rest.ensures
    (wire_step (λ b. b == 46) c.loop-dot.rest.now c.in-Some.dot c.loop-dot.octets.items c.push_label.new.octets.items _ (sym c.position_of.ensures.first ∙ c.in-Some.is)
    (rw (← c.before-in-Some.ensures) (c.if-not-push_label.ensures.pushed refl)) c.loop-dot.invariant)

pub returns-then-not-push_label-2 : goal.returns-then-not-push_label-2
returns-then-not-push_label-2 c =
    elim c.then-not-push_label-2.branch [
      | then-not-push_label-2-via-then-not-push_label-2 w ↦
          full_last (λ b. b == 46) c.loop-dot.rest.now c.loop-dot.octets.items (slice_split (λ b. b == 46) c.args.text.now) (sym c.position_of.ensures.first ∙ c.in_default.is) (let f = w.if-not-push_label-2.ensures.full refl in omega arith) c.loop-dot.invariant
      | then-not-push_label-2-via-else-not-push_label-2+then-is_full w ↦
          full_last (λ b. b == 46) c.loop-dot.rest.now c.loop-dot.octets.items (slice_split (λ b. b == 46) c.args.text.now) (sym c.position_of.ensures.first ∙ c.in_default.is) (no_room_at_end c.loop-dot.rest.now c.loop-dot.octets.items c.push_label-2.new.octets.items (w.if-not-push_label-2.ensures.pushed refl) (sym w.is_full.ensures.value ∙ w.if-is_full.true)) c.loop-dot.invariant
    ]

pub returns : goal.returns
returns c =
    short_enough (slice_split (λ b. b == 46) c.args.text.now) c.push.new.self.items
    (c.push.ensures.items ∙ wire_end (λ b. b == 46) c.loop-dot.rest.now c.loop-dot.octets.items c.push_label-2.new.octets.items _ (sym c.position_of.ensures.first ∙ c.in_default.is) (c.if-not-push_label-2.ensures.pushed refl) c.loop-dot.invariant)
    (room_at_end _ _ (sym c.is_full.ensures.value ∙ c.if-is_full.false) c.is_full.ensures.fits c.push.ensures.len)
