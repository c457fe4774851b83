use Rattle.std.proofs.Common.{◌≡◌, sym, subst, inl, inr, arith}
use Rattle.std.proofs.lemmas.Bool.{cases_eq}
use Rattle.map_model.specs.Allocation.{amount_at}
use Rattle.move_up.proofs.moves.last_held.Goals as goal
use Rattle.move_up.proofs.moves.last_held.Goals.{then-units-gt0, else-units-gt0}

pub loop-place-preserved : goal.loop-place-preserved
loop-place-preserved c = λ k o l past. elim c.if-units-gt0.branch [
  | then-units-gt0 w ↦ absurd (omega (arith, w.last-is, l, past))
  | else-units-gt0 w ↦ elim (cases_eq k c.loop-place.place) [
    | inl e ↦ subst (λ x. amount_at c.args.state.now.lines c.args.group.0 x ≡ 0) (sym e) (omega (arith, c.units.ensures, w.if-units-gt0.false))
    | inr ne ↦ c.loop-place.invariant k o (omega (arith, l, ne)) (omega (arith, w.last-is, past))
  ]
]
