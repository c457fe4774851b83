-- A map that a try comes to is within what the rolled-back state leaves.
use Rattle.std.proofs.Common.{◌≡◌, ℕ, ◌<◌, ◌==◌, Bool, true, false, ◌&&◌, nat_le, List, slice_index, refl, sym, ap, ◌∙◌, inl, inr, arith}
use Rattle.std.proofs.lemmas.Bool.{and_parts, cases_Bool, eqb-true, le-leb}
use Rattle.map_model.specs.Market.{Market}
use Rattle.map_model.specs.Allocation.{IsOffer, amount_at}
use Rattle.evict.specs.Standing.{IsReady, Standing}
use Rattle.evict.proofs.Shaped.{units_of-same}
use Rattle.best_laws.specs.Ahead.{IsWithin}
use Rattle.reopen.specs.Rolling.{IsRolledBack, is_marked}
use Rattle.deferred_accept.specs.Runs.{HasProposed}
use Rattle.map_laws.proofs.Within.{later_many}
use Rattle.move_up.specs.Moved.{IsMoved}

module _ (m : Market) (marks : List Bool) (mid moved back : Standing) (move : IsMoved m marks mid moved) (rolled : IsRolledBack m marks mid back) where
  -- before the pointers of the rolled-back state nothing was moved
  same_before : (g k : ℕ) → IsOffer m g k → k < slice_index back.pointers g → amount_at moved.lines g k ≡ amount_at back.lines g k
  same_before g k o before =
      move.units (λ h j. (h == g) && (j == k)) off
      ∙ sym (rolled.units (λ h j. (h == g) && (j == k)) ∙ units_of-same (λ h j. ((h == g) && (j == k)) && nat_le j (slice_index back.pointers h)) (λ h j. (h == g) && (j == k)) (λ h j. low h j) mid.lines)
    where
      off : (h j : ℕ) → IsOffer m h j → ((h == g) && (j == k)) ≡ true → is_marked m marks h j ≡ false
      off h j oh t =
          let p = and_parts (h == g) (j == k) t in
          ap (λ x. is_marked m marks x j) (eqb-true h g p.0) ∙ ap (is_marked m marks g) (eqb-true j k p.1) ∙ (rolled.pointers g o.group).before k before

      low : (h j : ℕ) → (((h == g) && (j == k)) && nat_le j (slice_index back.pointers h)) ≡ ((h == g) && (j == k))
      low h j = elim (cases_Bool ((h == g) && (j == k))) [
        | inr n ↦ rw n refl
        | inl y ↦
            let p = and_parts (h == g) (j == k) y in
            let at : slice_index back.pointers h ≡ slice_index back.pointers g = ap (slice_index back.pointers) (eqb-true h g p.0) in
            let le : nat_le j (slice_index back.pointers h) ≡ true = le-leb j (slice_index back.pointers h) (omega (arith, at, eqb-true j k p.1, before)) in
            rw (y, le) refl
      ]

  -- nor did a pointer fall to one of these places
  past_before : (g k : ℕ) → IsOffer m g k → k < slice_index back.pointers g → k < slice_index moved.pointers g
  past_before g k o before =
      let b = rolled.pointers g o.group in
      move.back g k o.group (omega (arith, before, b.within)) (λ j low. b.before j (omega (arith, low, before)))

  -- The end of a run from there is within the rolled-back state.
  pub within_back : (final : Standing) (before after : ℕ) → IsReady m moved → HasProposed m moved final before after → IsWithin m final.lines back.lines back.pointers
  within_back final before after ready run g k o low =
      omega (arith, (later_many m run.count moved final ready run.proposals).within g k o (past_before g k o low), same_before g k o low)
