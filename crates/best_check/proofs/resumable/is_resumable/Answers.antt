use Rattle.std.proofs.Common.{sym, subst, inl, inr, arith}
use Rattle.std.proofs.lemmas.Bool.{cases_eq}
use Rattle.map_model.specs.Market.{Market}
use Rattle.best_check.specs.Open.{AreRefused, AreWanted}
use Rattle.best_check.proofs.resumable.is_resumable.Goals as goal

pub loop-g-preserved : goal.loop-g-preserved
loop-g-preserved c =
    let m : Market = c.args.instance.now in
    let i = c.loop-g.invariant in
    record {
      wanted = λ h l. elim (cases_eq h c.loop-g.g) [
        | inl e ↦ subst (AreWanted m c.args.state.now) (sym e) c.if-not-is_group_resumable.ensures.wanted
        | inr apart ↦ i.wanted h (omega (arith, l, apart))
      ];
      refused = λ h l. elim (cases_eq h c.loop-g.g) [
        | inl e ↦ subst (AreRefused m c.args.state.now) (sym e) c.if-not-is_group_resumable.ensures.refused
        | inr apart ↦ i.refused h (omega (arith, l, apart))
      ];
    }

pub returns-clause-wanted : goal.returns-clause-wanted
returns-clause-wanted c = λ yes g k o before. c.loop-g.invariant.wanted g (omega (arith, o.group, c.loop-g-test.false, c.groups-g-end.ensures.count)) k before
