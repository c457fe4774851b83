use Rattle.std.proofs.Common.{rules, ◌≡◌, ◌++◌, ◌∷◌, [], List, All, ◌∙◌, subst}
use mathlib.Core.List.{IsPrefix}
use Rattle.feed_queue.specs.Ends.{FeederState, TakerState}
use Rattle.feed_queue.specs.Items.{sent_by}
use Rattle.drive.proofs.Holding.{all_front}
use Rattle.drive.proofs.Several.{back_all, back_more}
use Rattle.drive.proofs.queue.all_back.Goals as goal

pub loop-feeder-preserved : goal.loop-feeder-preserved
loop-feeder-preserved g c =
    let i = c.loop-feeder.invariant in
    let whole : c.loop-feeder.left.items ≡ c.pop.new.self.items ++ c.in-Some.feeder ∷ [] = search rules in
    let q = all_front (λ (f : FeederState). f.queue ≡ c.args.taker.now.queue) c.pop.new.self.items c.in-Some.feeder (subst (λ (l : List FeederState). All (λ (f : FeederState). f.queue ≡ c.args.taker.now.queue) l) whole i.1) in
    let begins = subst (λ (t : TakerState). IsPrefix (sent_by c.in-Some.feeder.feeder t.taken) c.in-Some.feeder.sent) i.0 c.take_back-in-Some.ensures.begins in
    (c.take_back-in-Some.ensures.same ∙ i.0, q.0, back_more c.args.taker.now.taken c.args.feeders.items c.loop-feeder.left.items c.pop.new.self.items i.2.0 c.in-Some.feeder i.2.1 whole begins i.2.2)

pub returns-clause-begins : goal.returns-clause-begins
returns-clause-begins g c =
    let i = c.loop-feeder.invariant in
    let none : c.loop-feeder.left.items ≡ [] = search rules in
    back_all c.args.taker.now.taken c.args.feeders.items c.loop-feeder.left.items i.2.0 i.2.1 none i.2.2
