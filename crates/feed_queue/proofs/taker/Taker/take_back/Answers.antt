use Rattle.std.proofs.Common.{◌++◌, ap, sym, subst, ◌∙◌}
use Rattle.crossbeam_queue.specs.Passes.{view}
use Rattle.feed_queue.specs.Items.{sent_by}
use Rattle.feed_queue.specs.Rule.{Accounts, came_back}
use Rattle.feed_queue.proofs.Rules.{compares, merges}
use Rattle.feed_queue.proofs.taker.Taker.take_back.Goals as goal

pub absorb-requires-clause-rule : goal.absorb-requires-clause-rule
absorb-requires-clause-rule g c = merges g.N.Numbers.groups g.N.Numbers.nodes _ _ _ _ c.self.invariant.1 c.feeder.invariant.1

pub learn_as-requires-clause-rule : goal.learn_as-requires-clause-rule
learn_as-requires-clause-rule g c = compares g.N.Numbers.groups g.N.Numbers.nodes _ _ (ap (λ v. v.takes) c.absorb.ensures.rule ∙ c.self.invariant.1) (ap (λ v. v.feeds) c.absorb.ensures.rule ∙ c.feeder.invariant.1)

pub returns-clause-begins : goal.returns-clause-begins
returns-clause-begins g c =
    let r = c.learn_as.ensures.rule in
    let a : Accounts (came_back (view c.self.inside.pass) (view c.feeder.inside.pass)) r.0 = subst (λ v. Accounts v r.0) c.absorb.ensures.rule r.1 in
    let number = c.feeder.invariant.2 ∙ ap (λ f. f.feeder) c.feeder.view_is in
    let taken = ap (λ t. t.taken) c.self.view_is in
    let sent = ap (λ f. f.sent) c.feeder.view_is in
    (sent_by c.args.feeder.feeder r.0, sym (sym sent ∙ a ∙ ap (λ k. sent_by k (view c.self.inside.pass).got ++ sent_by k r.0) number ∙ ap (λ l. sent_by c.args.feeder.feeder l ++ sent_by c.args.feeder.feeder r.0) taken))
