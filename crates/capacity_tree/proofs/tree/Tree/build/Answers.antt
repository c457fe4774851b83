use Rattle.std.proofs.Common.{arith}
use Rattle.std.proofs.lemmas.Grind.{common_steps}
use Rattle.capacity_tree.specs.Loads.{AreTreesOf, trees_of}
use Rattle.capacity_tree.proofs.Trees.{AreTreesOf-made, IsMarket-trees}
use Rattle.capacity_tree.proofs.tree.Tree.build.Goals as goal

pub invariant_of-result : goal.invariant_of-result
invariant_of-result c =
    let are : AreTreesOf c.args.instance.now (trees_of c.loop-n.parents.items) = AreTreesOf-made c.args.instance.now c.loop-n.parents.items (omega arith) (λ n l. c.loop-n.invariant.so_far n (omega arith)) in
    (IsMarket-trees c.args.instance.now c.loop-n.parents.items c.nodes-n-end.ensures.market are, grind (arith, common_steps, c.in_ok-loads.ensures.len))

pub returns-clause-trees : goal.returns-clause-trees
returns-clause-trees c = AreTreesOf-made c.args.instance.now c.loop-n.parents.items (omega arith) (λ n l. c.loop-n.invariant.so_far n (omega arith))
