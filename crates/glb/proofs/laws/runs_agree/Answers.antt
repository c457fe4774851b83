use Rattle.glb.proofs.Agree.{map_one, repair_one, serves_agree, serves_come, serves_publish, serves_repeat}
use Rattle.glb.proofs.Summaries.{summaries_agree}
use Rattle.glb.proofs.laws.runs_agree.Goals as goal

pub returns-clause-maps : goal.returns-clause-maps
returns-clause-maps c = map_one

pub returns-clause-repairs : goal.returns-clause-repairs
returns-clause-repairs c = repair_one

pub returns-clause-comes : goal.returns-clause-comes
returns-clause-comes c = serves_come

pub returns-clause-serves : goal.returns-clause-serves
returns-clause-serves c = serves_agree

pub returns-clause-publish : goal.returns-clause-publish
returns-clause-publish c = serves_publish

pub returns-clause-repeat : goal.returns-clause-repeat
returns-clause-repeat c = serves_repeat

pub returns-clause-summaries : goal.returns-clause-summaries
returns-clause-summaries c = summaries_agree
