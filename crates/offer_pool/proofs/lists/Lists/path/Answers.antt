use Rattle.std.proofs.Common.{◌+◌, ◌<◌, length, sym, ◌∙◌, subst, arith, rules}
use Rattle.std.specs.Option.{IfSome}
use Rattle.map_model.specs.Market.{Market}
use Rattle.map_model.proofs.Paths.{walk_there}
use Rattle.map_model.proofs.Turns.{path_turn, path_over, path_done}
use Rattle.offer_pool.proofs.lists.Lists.path.Goals as goal
use Rattle.offer_pool.proofs.lists.Lists.path.Goals.{in-Some, in_default}

pub loop-step-preserved : goal.loop-step-preserved
loop-step-preserved c =
    let m : Market = c.args.self.now in
    elim c.match-at.branch [
      | in-Some w ↦ record {
        there = walk_there m w.parent-at.ensures.market w.in-Some.node c.loop-step.at c.match-at.at w.in-Some.is (w.at-is ∙ w.parent-at.ensures.parent) c.loop-step.invariant.there;
        few = rw w.path-is (omega (arith, w.push.ensures.len));
        so_far = rw (w.path-is, w.push.ensures.items) (path_turn m c.loop-step._step w.in-Some.node c.loop-step.at c.match-at.at c.loop-step.path.items _ c.loop-step-test.true w.in-Some.is (w.at-is ∙ w.parent-at.ensures.parent) c.loop-step.invariant.so_far);
      }
      | in_default w ↦ record {
        there = subst (λ x. IfSome x (λ p. p.0 < length c.args.self.now.nodes)) (sym w.at-is) c.loop-step.invariant.there;
        few = rw w.path-is (omega arith);
        so_far = rw w.path-is (path_over m c.loop-step._step (c.loop-step._step + 1) c.loop-step.at c.match-at.at _ _ (grind rules) w.at-is c.loop-step.invariant.so_far);
      }
    ]

pub returns : goal.returns
returns c = path_done c.args.self.now c.loop-step._step c.loop-step.at _ _ c.loop-step-test.false c.loop-step.invariant.so_far
