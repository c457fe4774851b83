use Rattle.std.proofs.Common.{ap, ◌==◌, ◌&&◌, ◌≡◌, ◌+◌, slice_index, inl, inr, arith, subst, sym, ◌∙◌}
use Rattle.std.proofs.lemmas.Bool.{cases_eq, ne_eqb}
use Rattle.map_model.specs.Market.{Market, demand_of}
use Rattle.map_model.specs.Allocation.{placed}
use Rattle.reopen.specs.Cutting.{CanCut, IsGroupTrimmed}
use Rattle.reopen.proofs.Lessening.{can_less, less_trans, trimmed_from, trimmed_on}
use Rattle.reopen.proofs.cutting.trim.Goals as goal

pub loop-g-preserved : goal.loop-g-preserved
loop-g-preserved c =
    let m : Market = c.args.instance.now in
    let s = c.loop-g.state in
    let i = c.loop-g.invariant in
    let e = c.trim_group.ensures in
    let g = c.loop-g.g in
    let can : CanCut m s = can_less m c.args.state.now s c.requires i.less in
    record {
      less = less_trans m c.args.state.now s c.trim_group.new.state i.less e.less;
      trimmed = λ h low. elim (cases_eq h g) [
        | inl is ↦ subst (λ x. IsGroupTrimmed m x c.args.state.now.lines c.trim_group.new.state.lines) (sym is) (trimmed_from m g c.args.state.now.lines s.lines c.trim_group.new.state.lines (λ k. i.rest (λ x j. (x == g) && (j == k)) (λ x j l. ap (λ b. b && (j == k)) (ne_eqb x g (λ y. absurd (omega (arith, y, l)))))) e.trimmed)
        | inr ne ↦ trimmed_on m h c.args.state.now.lines s.lines c.trim_group.new.state.lines
            (λ k. e.elsewhere (λ x j. (x == h) && (j == k)) (λ j. ap (λ b. b && (j == k)) (ne_eqb g h (λ y. ne (sym y))))) (e.elsewhere (λ x _. x == h) (λ j. ne_eqb g h (λ y. ne (sym y)))) (i.trimmed h (omega (arith, ne, low)))
      ];
      rest = λ test none. e.elsewhere test (λ k. none g k (omega arith)) ∙ i.rest test (λ h k l. none h k (omega (arith, l)));
      totals = λ h low. elim (cases_eq h c.loop-g.g) [
        | inl is ↦ subst (λ x. placed c.trim_group.new.state.lines x + slice_index c.trim_group.new.state.free x ≡ demand_of m x) (sym is) e.total
        | inr ne ↦ e.others h (omega (arith, can.count, c.groups-g-end.ensures.count, c.loop-g-test.true)) ne ∙ i.totals h (omega (arith, ne))
      ];
    }

pub returns-clause-trimmed : goal.returns-clause-trimmed
returns-clause-trimmed c = record {
  form = c.loop-g.invariant.less.form;
  fewer = c.loop-g.invariant.less.fewer;
  fits = λ g l. let total = c.loop-g.invariant.totals g (omega (arith, l, c.loop-g-test.false, c.groups-g-end.ensures.count)) in omega (arith, total);
  last = λ g j k o. (c.loop-g.invariant.trimmed g (omega (arith, o.group, c.loop-g-test.false, c.groups-g-end.ensures.count))).last j k o;
  enough = λ g k o. (c.loop-g.invariant.trimmed g (omega (arith, o.group, c.loop-g-test.false, c.groups-g-end.ensures.count))).enough k o;
}
