use Rattle.std.proofs.Common.{arith, map, ◌∙◌}
use Rattle.toml.specs.View.{view}
use Rattle.topology_text.proofs.Depths.{deep_step, deep_top, deep_end}
use Rattle.topology_text.proofs.links.is_deep.Goals as goal

pub returns-in-None : goal.returns-in-None
returns-in-None c = deep_top (map view c.args.index.now.nodes.now) c.args.node c.loop-step._step c.loop-step.at c.loop-step-test.true c.in-None.is c.loop-step.invariant

pub loop-step-preserved : goal.loop-step-preserved
loop-step-preserved c =
    let nodes = map view c.args.index.now.nodes.now in
    rw c.parent-at.ensures (deep_step nodes c.args.node c.loop-step._step c.in-Some.n c.loop-step.at c.loop-step-test.true c.in-Some.is c.loop-step.invariant)

pub returns : goal.returns
returns c = c.is_some.ensures ∙ deep_end (map view c.args.index.now.nodes.now) c.args.node c.loop-step._step c.loop-step.at (omega arith) c.loop-step.invariant
