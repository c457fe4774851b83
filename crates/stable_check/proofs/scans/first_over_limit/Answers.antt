use Rattle.std.proofs.Common.{inl, inr, subst, sym, ◌≤◌, arith}
use Rattle.std.proofs.lemmas.Bool.{cases_eq}
use Rattle.map_model.specs.Market.{limit_of}
use Rattle.map_model.specs.Allocation.{IsOffer, amount_at}
use Rattle.stable_check.proofs.scans.first_over_limit.Goals as goal

pub loop-g-preserved : goal.loop-g-preserved
loop-g-preserved g c = λ h j l o. elim (cases_eq h c.loop-g.g) [
  | inl e ↦ subst (λ x. amount_at g.lines x j ≤ limit_of c.args.instance.now x j) (sym e) (c.in_default.ensures j (let here : IsOffer c.args.instance.now c.loop-g.g j = subst (λ x. IsOffer c.args.instance.now x j) e o in here.place))
  | inr ne ↦ c.loop-g.invariant h j (omega arith) o
]
