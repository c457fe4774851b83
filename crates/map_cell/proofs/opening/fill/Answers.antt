use Rattle.std.proofs.Common.{rules, ◌≡◌, ◌+◌, ℕ, arith, refl, ap, ◌∙◌}
use Rattle.std.proofs.lemmas.List.Elements.{All-push}
use Rattle.outside.specs.Faults.{raised}
use Rattle.map_cell.proofs.Counts.{raised_more, raised_none}
use Rattle.map_cell.proofs.opening.fill.Goals as goal

pub loop-init : goal.loop-init
loop-init g c = record { same = refl; size = c.requires.0; room = refl; seen = search rules; faults = refl; asked = raised_none (g.D.Door.told c.args.door.now).asked; looks = refl; greatest = refl }

pub loop-preserved : goal.loop-preserved
loop-preserved g c = record {
  same = c.admit.ensures.same ∙ c.loop.invariant.same;
  size = omega (arith, c.push_reserved.ensures.len, c.loop.invariant.size);
  room = c.push_reserved.ensures.capacity ∙ c.loop.invariant.room;
  seen = let one : (c.in_ok-viewer.viewer.seen ≡ c.args.publisher.now.history) × (c.in_ok-viewer.viewer.heard ≡ c.args.publisher.now.history) = rw (← c.loop.invariant.same) c.in_ok-viewer.ensures.seen in
      rw c.push_reserved.ensures.items (All-push (λ v. (v.seen ≡ c.args.publisher.now.history) × (v.heard ≡ c.args.publisher.now.history)) c.loop.made.items c.in_ok-viewer.viewer c.loop.invariant.seen one);
  faults = c.admit.ensures.stays (λ h. cc (h, c.in_ok-viewer.is)) ∙ c.loop.invariant.faults;
  asked = c.admit.ensures.counts.0 ∙ (ap (λ (n : ℕ). raised n 1) c.loop.invariant.asked ∙ raised_more (g.D.Door.told c.args.door.now).asked c.loop.counter 1);
  looks = c.admit.ensures.counts.1 ∙ c.loop.invariant.looks;
  greatest = c.admit.ensures.counts.2 ∙ c.loop.invariant.greatest;
}

pub returns-in_err-viewer-clause-asked : goal.returns-in_err-viewer-clause-asked
returns-in_err-viewer-clause-asked g c =
    (c.loop.counter + 1, omega (arith, c.loop-test.true), c.admit.ensures.counts.0 ∙ (ap (λ (n : ℕ). raised n 1) c.loop.invariant.asked ∙ raised_more (g.D.Door.told c.args.door.now).asked c.loop.counter 1))

pub returns-clause-asked : goal.returns-clause-asked
returns-clause-asked g c = (c.loop.counter, omega (arith, c.loop.auto.counter-end), c.loop.invariant.asked)

pub returns-clause-asked_all : goal.returns-clause-asked_all
returns-clause-asked_all g c =
    let end : c.loop.counter ≡ c.args.viewers = omega (arith, c.loop.auto.counter-end, c.loop-test.false) in
    c.loop.invariant.asked ∙ ap (λ (n : ℕ). raised (g.D.Door.told c.args.door.now).asked n) end
