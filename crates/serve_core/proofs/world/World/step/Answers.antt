use Rattle.serve_core.proofs.Moved.{did_commit, did_take, did_tell}
use Rattle.serve_core.proofs.world.World.step.Goals as goal

pub returns-in-Commit-clause-ok : goal.returns-in-Commit-clause-ok
returns-in-Commit-clause-ok c = rw c.in-Commit.is (did_commit c.args.self.now c.commit.new.self c.in-Commit.batch c.in-Commit.map c.commit.result c.commit.ensures.ok)

pub returns-in-Tell-clause-ok : goal.returns-in-Tell-clause-ok
returns-in-Tell-clause-ok c = rw c.in-Tell.is (did_tell c.args.self.now c.tell.new.self c.in-Tell.lane c.in-Tell.serial c.tell.result c.tell.ensures.ok)

pub returns-in-Take-clause-ok : goal.returns-in-Take-clause-ok
returns-in-Take-clause-ok c = rw c.in-Take.is (did_take c.args.self.now c.take.new.self c.in-Take.lane c.in-Take.octets c.in-Take.from c.in-Take.serial c.in-Take.way c.take.result c.take.ensures.ok)
