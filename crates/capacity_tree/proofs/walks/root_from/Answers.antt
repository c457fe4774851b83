use Rattle.std.proofs.Common.{◌<◌, length, ◌∙◌, subst, rules}
use Rattle.std.specs.Option.{IfSome}
use Rattle.map_model.specs.Market.{Market}
use Rattle.capacity_tree.specs.Loads.{trees_of}
use Rattle.capacity_tree.proofs.Trees.{parent_of-trees, there_up}
use Rattle.capacity_tree.proofs.Turns.{root_turn, root_over, root_done}
use Rattle.capacity_tree.proofs.walks.root_from.Goals as goal
use Rattle.capacity_tree.proofs.walks.root_from.Goals.{in-Some, in_default}

pub loop-step-preserved : goal.loop-step-preserved
loop-step-preserved c =
    let m : Market = trees_of c.args.parents.now in
    elim c.match-parents-root.branch [
      | in-Some w ↦ record {
        there = rw w.root-is (subst (λ x. IfSome x (λ q. q.0 < length c.args.parents.now)) (parent_of-trees c.args.parents.now c.loop-step.root.0 ∙ w.in-Some.is)
            (there_up c.args.parents.now c.requires.market c.loop-step.root.0 c.loop-step.invariant.there));
        so_far = rw w.root-is (root_turn m c.loop-step._step c.loop-step.root.0 w.in-Some.parent _ c.loop-step-test.true (parent_of-trees c.args.parents.now c.loop-step.root.0 ∙ w.in-Some.is) c.loop-step.invariant.so_far);
      }
      | in_default w ↦ record {
        there = rw w.root-is c.loop-step.invariant.there;
        so_far = rw w.root-is (root_over m c.loop-step._step c.loop-step.root.0 _ c.loop-step-test.true (parent_of-trees c.args.parents.now c.loop-step.root.0 ∙ grind rules) c.loop-step.invariant.so_far);
      }
    ]

pub returns : goal.returns
returns c = root_done (trees_of c.args.parents.now) c.loop-step._step c.loop-step.root.0 _ c.loop-step-test.false c.loop-step.auto._step-end c.loop-step.invariant.so_far
