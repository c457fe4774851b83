use Rattle.std.proofs.Common.{◌∙◌}
use Rattle.evict.proofs.Climbing.{climbing_turn}
use Rattle.evict.proofs.relief.relieve_path.Goals as goal

pub loop-at-preserved : goal.loop-at-preserved
loop-at-preserved g c = record {
  climbing = climbing_turn c.args.instance.now g.origin c.args.put.group.0 c.args.put.place c.in-Some.node _ _ _ _ _ c.parent-at.ensures c.in_ok-left.ensures.relieving c.in_ok-left.ensures.fits;
  market = c.in_ok-left.ensures.market ∙ c.loop-at.invariant.market;
}
