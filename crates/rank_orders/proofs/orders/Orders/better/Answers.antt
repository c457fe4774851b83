use Rattle.std.proofs.Common.{◌≡◌, sym, ◌∙◌, rules}
use Rattle.map_model.specs.Market.{IsMarket}
use Rattle.rank_orders.specs.Ranks.{is_better}
use Rattle.rank_orders.proofs.Offers.{better_total}
use Rattle.rank_orders.proofs.orders.Orders.better.Goals as goal

pub returns-clause-total : goal.returns-clause-total
returns-clause-total c = λ ne no.
    let value : c.lt.result ≡ is_better c.args.self.now c.args.a c.args.b = search rules in
    let market : IsMarket c.args.self.now = rw (← c.self.view_is) c.groups-groups.ensures.market in
    better_total c.args.self.now market c.args.a c.args.b c.requires.a c.requires.b ne (sym value ∙ no)
