use Rattle.std.proofs.Common.{◌-◌, ◌<◌, ◌≤◌, length, inl, inr, sym, ◌∙◌, subst, arith}
use Rattle.std.specs.Option.{IfSome}
use Rattle.std.proofs.lemmas.Bool.{cases_eq}
use Rattle.map_model.specs.Market.{capacity_of}
use Rattle.map_model.specs.Allocation.{load}
use Rattle.map_model.proofs.Paths.{walk_there}
use Rattle.evict.proofs.Shaped.{load-shape}
use Rattle.move_up.proofs.Above.{any_done, any_on, any_over}
use Rattle.move_up.proofs.moves.room_at.Goals as goal
use Rattle.move_up.proofs.moves.room_at.Goals.{in-Some, in_default}

pub loop-step-preserved : goal.loop-step-preserved
loop-step-preserved c =
    let m = c.args.instance.now in
    let lines = c.args.state.now.lines in
    elim c.match-at.branch [
      | in-Some w ↦
          let same = load-shape c.args.state.now.market m c.requires.shape lines w.in-Some.node.0 in
          let here : c.match-at.room ≤ capacity_of m w.in-Some.node.0 - load m lines w.in-Some.node.0 = omega (arith, w.room-is, w.min-room.ensures, w.saturating_sub.ensures, w.capacity.ensures, w.load.ensures, same) in
          let less : c.match-at.room ≤ c.loop-step.room = omega (arith, w.room-is, w.min-room.ensures) in
          record {
            there = walk_there m c.requires.market w.in-Some.node c.loop-step.at c.match-at.at w.in-Some.is (w.at-is ∙ w.parent-at.ensures) c.loop-step.invariant.there;
            few = omega (arith, less, c.loop-step.invariant.few);
            passed = λ n on out. elim (cases_eq w.in-Some.node.0 n) [
              | inl e ↦ subst (λ x. c.match-at.room ≤ capacity_of m x - load m lines x) e here
              | inr ne ↦ omega (arith, less, c.loop-step.invariant.passed n on (sym (any_on m c.loop-step._step n w.in-Some.node c.loop-step.at c.match-at.at c.loop-step-test.true w.in-Some.is ne (w.at-is ∙ w.parent-at.ensures)) ∙ out))
            ];
          }
      | in_default w ↦ record {
        there = subst (λ x. IfSome x (λ p. p.0 < length m.nodes)) (sym w.at-is) c.loop-step.invariant.there;
        few = omega (arith, w.room-is, c.loop-step.invariant.few);
        passed = λ n on out. omega (arith, w.room-is, c.loop-step.invariant.passed n on (sym (any_over m c.loop-step._step n c.loop-step.at c.match-at.at w.in_default.is w.at-is) ∙ out));
      }
    ]

pub returns-clause-room : goal.returns-clause-room
returns-clause-room c = λ n on. c.loop-step.invariant.passed n on (any_done c.args.instance.now c.loop-step._step n c.loop-step.at c.loop-step-test.false)
