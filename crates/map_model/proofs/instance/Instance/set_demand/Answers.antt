use Rattle.std.proofs.Common.{◌<◌, length, arith}
use Rattle.std.proofs.lemmas.Grind.{common_steps}
use Rattle.map_model.specs.Market.{Market}
use Rattle.map_model.proofs.Markets.{IsMarket-set_group}
use Rattle.map_model.proofs.instance.Instance.set_demand.Goals as goal

pub invariant_of-self : goal.invariant_of-self
invariant_of-self c =
    let m : Market = record { groups = c.self.inside.groups.items; nodes = c.self.inside.nodes.items } in
    let within : c.args.group.0 < length m.groups = grind arith in
    IsMarket-set_group m c.args.group.0 c.set_demand.new.self c.self.invariant within (grind (arith, common_steps)) (rw c.set_demand.ensures c.requires.range) (rw c.set_demand.ensures c.ranges.demand.fits)

pub returns-clause-market : goal.returns-clause-market
returns-clause-market c =
    let m : Market = record { groups = c.self.inside.groups.items; nodes = c.self.inside.nodes.items } in
    let within : c.args.group.0 < length m.groups = grind arith in
    IsMarket-set_group m c.args.group.0 c.set_demand.new.self c.self.invariant within (grind (arith, common_steps)) (rw c.set_demand.ensures c.requires.range) (rw c.set_demand.ensures c.ranges.demand.fits)
