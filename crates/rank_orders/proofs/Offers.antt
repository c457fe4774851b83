-- Keys that compare as equal, and the offers that have them.
use Rattle.std.proofs.Common.{◌≡◌, ℕ, ◌<◌, ◌≤◌, Bool, true, false, IsTrue, IsFalse, [], nat_lt, if◌then◌else◌, refl, sym, ap, ◌∙◌, subst, inl, inr, arith}
use Rattle.std.specs.declared.cmp.Ordering.{Ordering}
use Rattle.std.specs.declared.cmp.Ordering.TheVariants.{Less, Equal, Greater}
use Rattle.std.specs.Ordering.{is_lt, nat_cmp, ordering_reverse}
use Rattle.std.proofs.lemmas.Bool.{true≢false, cases_eq, cases_Bool, ne_eqb, ltb-true, ltb-false}
use Rattle.map_model.specs.declared.instance.Key.{Key}
use Rattle.map_model.specs.declared.instance.Offer.{Offer}
use Rattle.map_model.specs.Market.{Market, IsMarket, choice_at, key_of}
use Rattle.map_model.specs.Allocation.{IsOffer, key_cmp}
use Rattle.map_model.proofs.Keys.{keys_total, then_tie}
use Rattle.rank_orders.specs.Ranks.{is_better}

nat_tie : (x y : ℕ) → nat_cmp x y ≡ Equal → x ≡ y
nat_tie x y h = elim (cases_eq x y) [
  | inl e ↦ e
  | inr ne ↦ absurd (apart (nat_lt x y) (rw (ne_eqb x y ne) at h))
]
  where
    apart : (b : Bool) → (if b then Less else Greater) ≡ Equal → ⊥
    apart true h = cc
    apart false h = cc

-- keys that compare as equal are equal
pub key_tie : (a b : Key) → key_cmp a b ≡ Equal → (a.group.0 ≡ b.group.0) × (a.pool.0 ≡ b.pool.0)
key_tie a b h =
    let p = then_tie (nat_cmp a.score b.score) _ h in
    let q = then_tie (nat_cmp a.group.0 b.group.0) (nat_cmp a.pool.0 b.pool.0) p.1 in
    (nat_tie a.group.0 b.group.0 q.0, nat_tie a.pool.0 b.pool.0 q.1)

-- offers of one group with the same pool are at the same place
pub place_from_pool : (m : Market) → IsMarket m → (g k j : ℕ) → IsOffer m g k → IsOffer m g j → (choice_at m g k).pool.0 ≡ (choice_at m g j).pool.0 → k ≡ j
place_from_pool m market g k j a b same =
    let distinct = (market.groups g (record { demand = 0; choices = [] }) a.group).distinct in
    let below : k < j → ⊥ = λ l. distinct k j (record { pool = record { 0 = 0 }; score = 0; limit = 0 }) l b.place same in
    let above : j < k → ⊥ = λ l. distinct j k (record { pool = record { 0 = 0 }; score = 0; limit = 0 }) l a.place (sym same) in
    elim (cases_eq k j) [
      | inl e ↦ e
      | inr ne ↦ absurd (apart k j ne below above)
    ]
  where
    apart : (k j : ℕ) → (k ≡ j → ⊥) → (k < j → ⊥) → (j < k → ⊥) → ⊥
    apart k j ne below above = elim (cases_Bool (nat_lt k j)) [
      | inl e ↦ below (ltb-true k j e)
      | inr e ↦ above (let f : j ≤ k = ltb-false k j e in omega arith)
    ]

-- offers whose keys compare as equal are the same
pub offer_tie : (m : Market) → IsMarket m → (a b : Offer) → IsOffer m a.group.0 a.place → IsOffer m b.group.0 b.place → key_cmp (key_of m a.group.0 a.place) (key_of m b.group.0 b.place) ≡ Equal → a ≡ b
offer_tie m market a b at bt h =
    let p = key_tie (key_of m a.group.0 a.place) (key_of m b.group.0 b.place) h in
    let here : IsOffer m a.group.0 b.place = subst (λ g. IsOffer m g b.place) (sym p.0) bt in
    let pools : (choice_at m a.group.0 a.place).pool.0 ≡ (choice_at m a.group.0 b.place).pool.0 = p.1 ∙ ap (λ g. (choice_at m g b.place).pool.0) (sym p.0) in
    let places : a.place ≡ b.place = place_from_pool m market a.group.0 a.place b.place at here pools in
    ap (λ g. record { group = record { 0 = g }; place = a.place }) p.0 ∙ ap (λ k. record { group = b.group; place = k }) places

-- of two different offers one is better
pub better_total : (m : Market) → IsMarket m → (a b : Offer) → IsOffer m a.group.0 a.place → IsOffer m b.group.0 b.place → ¬ (a ≡ b) → IsFalse (is_better m a b) → IsTrue (is_better m b a)
better_total m market a b at bt ne h =
    let x : Key = key_of m a.group.0 a.place in
    let y : Key = key_of m b.group.0 b.place in
    ap is_lt (keys_total.antisymm y x) ∙ turned (key_cmp x y) (λ e. ne (offer_tie m market a b at bt e)) h
  where
    turned : (o : Ordering) → (o ≡ Equal → ⊥) → is_lt o ≡ false → is_lt (ordering_reverse o) ≡ true
    turned Less ne h = absurd (true≢false h)
    turned Equal ne h = absurd (ne refl)
    turned Greater ne h = refl
