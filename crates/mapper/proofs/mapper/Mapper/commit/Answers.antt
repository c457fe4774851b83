use Rattle.std.proofs.Common.{OnOk, subst}
use Rattle.map_repair.specs.Repaired.{IsWithinTwiceSpread}
use Rattle.map_cell.specs.Ends.{PublisherState}
use Rattle.mapper.specs.Mappers.{IsRepairing}
use Rattle.mapper.proofs.mapper.Mapper.commit.Goals as goal

pub returns-clause-counted : goal.returns-clause-counted
returns-clause-counted g c = λ _. subst (λ (p : PublisherState). OnOk c.commit.result (IsRepairing p.newest c.commit.new.self.newest c.args.steps.now c.commit.new.steps)) c.self.view_is c.commit.ensures.counted

pub returns-clause-steps : goal.returns-clause-steps
returns-clause-steps g c = subst (λ (p : PublisherState). OnOk c.commit.result (IsWithinTwiceSpread p.newest.market p.newest.lines c.commit.new.self.newest.market c.args.steps.now c.commit.new.steps)) c.self.view_is c.commit.ensures.steps
