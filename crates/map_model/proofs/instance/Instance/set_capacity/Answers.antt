use Rattle.std.proofs.Common.{◌<◌, length, arith}
use Rattle.std.proofs.lemmas.Grind.{common_steps}
use Rattle.map_model.specs.Market.{Market}
use Rattle.map_model.proofs.Markets.{IsMarket-set_node}
use Rattle.map_model.proofs.instance.Instance.set_capacity.Goals as goal

pub invariant_of-self : goal.invariant_of-self
invariant_of-self c =
    let m : Market = record { groups = c.self.inside.groups.items; nodes = c.self.inside.nodes.items } in
    let within : c.args.node.0 < length m.nodes = grind arith in
    IsMarket-set_node m c.args.node.0 _ c.self.invariant within (grind (arith, common_steps)) (grind (arith, common_steps)) c.requires.range

pub returns-clause-market : goal.returns-clause-market
returns-clause-market c =
    let m : Market = record { groups = c.self.inside.groups.items; nodes = c.self.inside.nodes.items } in
    let within : c.args.node.0 < length m.nodes = grind arith in
    IsMarket-set_node m c.args.node.0 _ c.self.invariant within (grind (arith, common_steps)) (grind (arith, common_steps)) c.requires.range
