use Rattle.std.proofs.Common.{ap, ◌∙◌}
use Rattle.feed_queue.proofs.Rules.{takes, took_fits}
use Rattle.feed_queue.proofs.taker.Taker.next.Goals as goal

pub pop_as-taken-requires-clause-rule : goal.pop_as-taken-requires-clause-rule
pop_as-taken-requires-clause-rule g c = (takes g.N.Numbers.groups g.N.Numbers.nodes _ _ c.self.invariant.1, λ items views h at. tt)

pub returns-clause-fits : goal.returns-clause-fits
returns-clause-fits g c = took_fits _ g.N.Numbers.groups g.N.Numbers.nodes c.args.self.now.feeders _ _ c.pop_as-taken.result (c.self.invariant.2 ∙ ap (λ t. t.feeders) c.self.view_is) c.pop_as-taken.ensures.rule
