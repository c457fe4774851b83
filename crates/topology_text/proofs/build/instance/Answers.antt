use Rattle.std.proofs.Common.{subst, sym, ◌≡◌, refl}
use Rattle.map_model.specs.Market.{Market, IsMarket}
use Rattle.topology_text.specs.Code.{entries}
use Rattle.topology_text.specs.Topology.{market_of}
use Rattle.topology_text.proofs.Distinct.{market_good}
use Rattle.topology_text.proofs.build.instance.Goals as goal

pub from_rows-requires : goal.from_rows-requires
from_rows-requires c =
    let market : Market = record { groups = c.in_ok-groups.groups.items; nodes = c.in_ok-nodes.nodes.items } in
    let same : market ≡ market_of (entries c.args.index.now) = rw (c.in_ok-groups.ensures, c.in_ok-nodes.ensures) refl in
    subst IsMarket (sym same) (market_good (entries c.args.index.now) c.requires)
