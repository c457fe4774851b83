use Rattle.std.proofs.Common.{◌≡◌, inr}
use Rattle.mapper.specs.Items.{CommitWorks, with_marked}
use Rattle.mapper.specs.Texts.{marked}
use Rattle.mapper.specs.Texts as text
use Rattle.mapper.proofs.Courses.{came_map, published_at, said_at}
use Rattle.mapper.proofs.Nexts.{one_longer}
use Rattle.mapper.proofs.desk.Desk.publish.Goals as goal

pub returns-in-Ok-clause-came : goal.returns-in-Ok-clause-came
returns-in-Ok-clause-came g c = λ before base k eo em at.
    rw (c.announce.ensures.same.0, c.announce.ensures.same.1) (published_at c.args.mark c.announce.result before base k c.args.batch.now _ _ _ _ _ _ _ _ _ eo em at c.in-Ok.ensures.next.0.next c.in-Ok.ensures.next.0.history
    (rw c.in-Ok.ensures.next.1 at c.announce.ensures.put))

pub returns-in-Ok-clause-stays : goal.returns-in-Ok-clause-stays
returns-in-Ok-clause-stays g c = λ whole. (
  c.announce.ensures.stays whole,
  λ all. rw c.announce.ensures.same.0 (c.announce.ensures.told whole c.args.self.now.published.now.history (one_longer _ _ _ c.in-Ok.ensures.next.0.history) all),
)

pub returns-in-Err-clause-came : goal.returns-in-Err-clause-came
returns-in-Err-clause-came g c = λ before base k eo em at.
    rw (c.say.ensures.alone.0, c.in-Err.ensures.same, c.say.ensures.alone.1, c.say.ensures.alone.2) (came_map c.say.result before base (λ d. d ≡ with_marked c.args.mark k text.memory) (CommitWorks c.args.mark c.args.batch.now k) _ (λ d e. inr e)
    (said_at c.say.result before base k _ _ _ _ _ _ (marked c.args.mark text.memory) eo em at c.say.ensures.put))

pub returns-in-Err-clause-stays : goal.returns-in-Err-clause-stays
returns-in-Err-clause-stays g c = λ whole. (c.say.ensures.stays whole, λ all. rw (c.say.ensures.alone.0, c.in-Err.ensures.same, c.say.ensures.alone.3) all)
