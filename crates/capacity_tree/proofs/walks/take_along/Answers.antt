use Rattle.std.proofs.Common.{◌+◌, ◌<◌, length, slice_index, sym, ap, ◌∙◌, subst, arith, rules}
use Rattle.std.specs.Option.{IfSome}
use Rattle.map_model.specs.Market.{Market}
use Rattle.map_model.proofs.Paths.{touched_done, walk_there}
use Rattle.capacity_tree.specs.Loads.{trees_of}
use Rattle.capacity_tree.proofs.Trees.{length-trees, parent_of-trees}
use Rattle.capacity_tree.proofs.Turns.{taken_here, taken_turn, taken_over, taken_start}
use Rattle.capacity_tree.proofs.walks.take_along.Goals as goal
use Rattle.capacity_tree.proofs.walks.take_along.Goals.{in-Some, in_default}

pub bounds-loads-node : goal.bounds-loads-node
bounds-loads-node c =
    let here : c.in-Some.node.0 < length (trees_of c.args.parents.now).nodes = subst (λ x. IfSome x (λ p. p.0 < length (trees_of c.args.parents.now).nodes)) c.in-Some.is c.loop-step.invariant.there in
    omega (arith, length-trees c.args.parents.now, c.requires.size)

pub overflow_sub-loads : goal.overflow_sub-loads
overflow_sub-loads c = taken_here (trees_of c.args.parents.now) c.loop-step._step c.in-Some.node c.loop-step.at c.args.units _ _ c.loop-step-test.true c.in-Some.is (c.loop-step.invariant.to_come c.in-Some.node.0)

pub loop-step-init : goal.loop-step-init
loop-step-init c =
    let within : c.args.pool.0 < length (trees_of c.args.parents.now).nodes = omega (arith, length-trees c.args.parents.now, c.requires.pool) in
    record {
      there = within;
      to_come = taken_start (trees_of c.args.parents.now) c.requires.market c.args.pool within c.args.loads.now c.args.units (λ n l e. c.requires.held n (omega (arith, length-trees c.args.parents.now, c.requires.size)) e);
    }

pub loop-step-preserved : goal.loop-step-preserved
loop-step-preserved c =
    let m : Market = trees_of c.args.parents.now in
    elim c.match-at.branch [
      | in-Some w ↦
          let up = w.at-is ∙ sym (parent_of-trees c.args.parents.now w.in-Some.node.0) in
          let here : w.in-Some.node.0 < length m.nodes = subst (λ x. IfSome x (λ p. p.0 < length m.nodes)) w.in-Some.is c.loop-step.invariant.there in
          record {
            there = walk_there m c.requires.market w.in-Some.node c.loop-step.at c.match-at.at w.in-Some.is up c.loop-step.invariant.there;
            to_come = λ n. taken_turn m c.requires.market c.loop-step._step w.in-Some.node c.loop-step.at c.match-at.at c.loop-step.loads c.match-at.loads c.args.units _ c.loop-step-test.true w.in-Some.is up here
                (omega (arith, length-trees c.args.parents.now, c.requires.size)) w.loads-is n c.loop-step.invariant.to_come;
          }
      | in_default w ↦ record {
        there = subst (λ x. IfSome x (λ p. p.0 < length m.nodes)) (sym w.at-is) c.loop-step.invariant.there;
        to_come = λ n. taken_over m c.loop-step._step (c.loop-step._step + 1) c.loop-step.at c.match-at.at n _ _ _ c.args.units (grind rules) w.at-is (ap (λ xs. slice_index xs n) w.loads-is) (c.loop-step.invariant.to_come n);
      }
    ]

pub returns : goal.returns
returns c = λ n h. c.loop-step.invariant.to_come n ∙ touched_done _ (trees_of c.args.parents.now) c.loop-step._step n c.loop-step.at _ c.loop-step-test.false
