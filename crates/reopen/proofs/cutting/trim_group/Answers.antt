use Rattle.std.proofs.Common.{◌≡◌, ◌-◌, slice_index, slice_set, get_or-set_other, ap, sym, subst, ◌∙◌, arith}
use Rattle.std.proofs.Math.ListN.{length-set}
use Rattle.map_model.specs.Market.{Market}
use Rattle.map_model.specs.Allocation.{placed}
use Rattle.evict.specs.Standing.{Standing}
use Rattle.reopen.specs.Cutting.{IsLess}
use Rattle.reopen.proofs.cutting.trim_group.Goals as goal

pub returns-clause-less : goal.returns-clause-less
returns-clause-less c =
    let m : Market = c.args.instance.now in
    let e = c.trim_places.ensures in
    let s = c.trim_places.new.state in
    let made : IsLess m c.args.state.now (record s { free = slice_set s.free c.args.group.0 (c.demand.result - placed s.lines c.args.group.0) }) = record {
      whole = e.less.whole;
      market = e.less.market;
      form = e.less.form;
      pointers = e.less.pointers;
      count = length-set s.free c.args.group.0 _ ∙ e.less.count;
      fewer = e.less.fewer;
      still = e.less.still;
    } in
    subst (λ (x : Standing). IsLess m c.args.state.now x) (sym c.set_total.ensures) made

pub returns-clause-others : goal.returns-clause-others
returns-clause-others c = λ h l ne.
    let e = c.trim_places.ensures in
    let s = c.trim_places.new.state in
    let lines : placed c.set_total.new.self.lines h ≡ placed s.lines h = ap (λ (x : Standing). placed x.lines h) c.set_total.ensures in
    let free : slice_index c.set_total.new.self.free h ≡ slice_index s.free h = ap (λ (x : Standing). slice_index x.free h) c.set_total.ensures ∙ get_or-set_other s.free c.args.group.0 h _ 0 ne in
    omega (arith, lines, free, e.sums h l)
