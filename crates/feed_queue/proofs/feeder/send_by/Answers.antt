use Rattle.feed_queue.proofs.Rules.{sends}
use Rattle.feed_queue.proofs.feeder.send_by.Goals as goal

pub push_as-requires-clause-rule : goal.push_as-requires-clause-rule
push_as-requires-clause-rule g c =
    let is = c.loop.invariant.0 in
    let knows = c.loop.invariant.2 in
    let r = c.requires in
    (rw (is, knows) (sends g.N.Numbers.groups g.N.Numbers.nodes _ _ _ c.args.item r.pass.1 r.feeder r.number r.fits r.few), λ items views h here. tt)
