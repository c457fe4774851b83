use Rattle.demand_feed.proofs.Octets.{came_of_octets, runs_one}
use Rattle.demand_feed.proofs.laws.runs_agree.Goals as goal

pub returns-clause-octets : goal.returns-clause-octets
returns-clause-octets c = came_of_octets

pub returns-clause-agree : goal.returns-clause-agree
returns-clause-agree c = runs_one
