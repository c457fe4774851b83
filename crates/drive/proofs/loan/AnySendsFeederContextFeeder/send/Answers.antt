use Rattle.std.specs.Arc.{arc_value}
use Rattle.drive.proofs.Several.{given_up}
use Rattle.drive.proofs.loan.AnySendsFeederContextFeeder.send.Goals as goal

pub returns-else-may_read : goal.returns-else-may_read
returns-else-may_read g c = given_up (arc_value c.args.context.now.topology) c.args.context.now.turns (g.S.Source.told c.args.self.now) c.args.feeder.now c.give_up.new.self c.requires.feeder c.give_up.ensures
