-- The group of a prefix is there.
use Rattle.std.proofs.Common.{◌<◌, List, length, arith}
use Rattle.std.proofs.lemmas.List.Elements.{All-contains}
use Rattle.addr_text.specs.declared.address.Addr.{Addr}
use Rattle.addr_text.specs.declared.address.Prefix.{Prefix}
use Rattle.map_model.specs.declared.instance.GroupId.{GroupId}
use Rattle.prefix_lookup.specs.Longest.{HasLongest}
use Rattle.topology_text.specs.Plan.{Plan, IsPlan}
use Rattle.published_map.specs.declared.row.GroupRow.{GroupRow}
use Rattle.published_map.specs.Rows.{with_demands}
use Rattle.published_map.proofs.Rows.{length-demands}

pub owned : (p : Plan) (rows : List GroupRow) (a : Addr) (g : GroupId) → IsPlan p → HasLongest p.prefixes a g → g.0 < length (with_demands p.market.groups rows)
owned p rows a g plan has =
    let own : g.0 < p.classes.groups = All-contains (λ (e : Prefix × GroupId). e.1.0 < p.classes.groups) p.prefixes (has.0, g) plan.prefixes.owned has.1.among in
    omega (arith, own, plan.classes.whole, length-demands p.market.groups rows)
