use Rattle.std.proofs.Common.{refl}
use Rattle.mapper.specs.Control.{before_commit}
use Rattle.mapper.specs.Sayings.{text_of}
use Rattle.mapper.specs.Texts.{marked}
use Rattle.mapper.proofs.Courses.{said_at}
use Rattle.mapper.proofs.desk.Desk.work.Goals as goal

pub returns-in-Say-clause-came : goal.returns-in-Say-clause-came
returns-in-Say-clause-came g c = λ before k at.
    let said = c.say.ensures in
    rw (c.in-Say.is, said.alone.0, said.alone.1, said.alone.2) (said_at c.say.result before k k _ _ _ _ _ _ (marked c.args.mark (text_of c.in-Say.saying)) refl refl at said.put)

pub returns-in-Say-clause-stays : goal.returns-in-Say-clause-stays
returns-in-Say-clause-stays g c = λ whole. let said = c.say.ensures in (said.stays whole, λ all. rw (said.alone.0, said.alone.3) all)

pub returns-in-SayOfBatch-clause-came : goal.returns-in-SayOfBatch-clause-came
returns-in-SayOfBatch-clause-came g c = λ before k at.
    let said = c.say-in-SayOfBatch.ensures in
    let ahead = c.call_pace.ensures.paced before k at in
    rw (c.in-SayOfBatch.is, said.alone.0, said.alone.1, said.alone.2) (said_at c.say-in-SayOfBatch.result before k (before_commit k) _ _ _ _ _ _ (marked c.args.mark (text_of c.in-SayOfBatch.saying)) refl refl ahead said.put)

pub returns-in-SayOfBatch-clause-stays : goal.returns-in-SayOfBatch-clause-stays
returns-in-SayOfBatch-clause-stays g c = λ whole.
    let said = c.say-in-SayOfBatch.ensures in
    let called = c.call_pace.ensures.alone in
    (rw (called.1, called.2) at (said.stays whole), λ all. rw (said.alone.0, said.alone.3, called.0, called.3) all)

pub returns-in-Publish-clause-came : goal.returns-in-Publish-clause-came
returns-in-Publish-clause-came g c = λ before k at.
    rw c.in-Publish.is (c.publish.ensures.came before k (before_commit k) refl refl (c.call_pace-in-Publish.ensures.paced before k at))

pub returns-in-Publish-clause-stays : goal.returns-in-Publish-clause-stays
returns-in-Publish-clause-stays g c = λ whole.
    let put = c.publish.ensures.stays whole in
    let called = c.call_pace-in-Publish.ensures.alone in
    (rw (called.1, called.2) at put.0, λ all. put.1 (rw (called.0, called.3) all))
