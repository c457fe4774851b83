use Rattle.std.proofs.Common.{◌<◌, ◌≤◌, arith}
use Rattle.map_model.specs.Market.{Market, demand_of}
use Rattle.map_model.specs.Allocation.{amount_at, placed}
use Rattle.reopen.proofs.Lessening.{less_released, too_much}
use Rattle.reopen.proofs.cutting.trim_place.Goals as goal

pub returns-then-placed-demand-clause-less : goal.returns-then-placed-demand-clause-less
returns-then-placed-demand-clause-less c =
    let m : Market = c.args.instance.now in
    let s = c.args.state.now in
    let o = c.args.offer in
    let over : demand_of m o.group.0 < placed s.lines o.group.0 = omega arith in
    let held : c.min-units.result ≤ amount_at s.lines o.group.0 o.place = omega arith in
    less_released m s c.release.new.self o.group.0 o.place c.min-units.result c.requires.can c.release.ensures c.requires.offer (too_much m s.lines o.group.0 o.place c.min-units.result c.requires.offer held over)
