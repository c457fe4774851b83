use Rattle.std.proofs.Common.{◌<◌, ℕ, Some, IfSome, inl, inr, sym, ap, ◌∙◌, subst, arith}
use Rattle.std.proofs.lemmas.Bool.{cases_eq}
use Rattle.map_model.specs.Market.{Market}
use Rattle.map_model.specs.Allocation.{IsOffer, amount_at}
use Rattle.map_model.proofs.MapForm.{offers-AreLines}
use Rattle.best_laws.proofs.Offers.{held_offer}
use Rattle.best_check.proofs.leads.last_place.Goals as goal
use Rattle.best_check.proofs.leads.last_place.Goals.{then-units-gt0, else-units-gt0}

pub loop-place-preserved : goal.loop-place-preserved
loop-place-preserved c =
    let g : ℕ = c.args.group.0 in
    let p : ℕ = c.loop-place.place in
    let i = c.loop-place.invariant in
    elim c.if-units-gt0.branch [
      | then-units-gt0 w ↦
          let some : 0 < amount_at c.args.state.now.lines g p = omega (arith, w.if-units-gt0.true, c.units.ensures) in
          record {
            offer = subst (λ x. IfSome x (λ k. IsOffer c.args.instance.now g k)) (sym w.last-is) (record { group = c.requires.group; place = omega (arith, c.loop-place-test.true, c.list_len-place-end.ensures) });
            last = λ k last l. w.last-is ∙ elim (cases_eq k p) [
              | inl e ↦ ap Some (sym e)
              | inr apart ↦ absurd (omega (arith, some, last.last p (omega (arith, l, apart))))
            ];
          }
      | else-units-gt0 w ↦ record {
        offer = subst (λ x. IfSome x (λ k. IsOffer c.args.instance.now g k)) (sym w.last-is) i.offer;
        last = λ k last l. w.last-is ∙ elim (cases_eq k p) [
          | inl e ↦ absurd (omega (arith, w.if-units-gt0.false, c.units.ensures, ap (amount_at c.args.state.now.lines g) e, last.some))
          | inr apart ↦ i.last k last (omega (arith, l, apart))
        ];
      }
    ]

pub returns-clause-last : goal.returns-clause-last
returns-clause-last c = λ k last.
    let m : Market = c.args.instance.now in
    let o : IsOffer m c.args.group.0 k = held_offer m c.args.state.now.lines c.args.group.0 k (offers-AreLines m c.args.state.now.lines c.requires.ready.resumable.form) last.some in
    c.loop-place.invariant.last k last (omega (arith, o.place, c.loop-place-test.false, c.list_len-place-end.ensures))
