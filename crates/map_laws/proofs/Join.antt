-- Of two right maps one that has the other's units wherever a group gains by it, and fits each node.
use Rattle.std.proofs.Common.{◌≡◌, ℕ, zero, suc, ◌+◌, ◌<◌, ◌≤◌, true, ◌&&◌, ◌||◌, nat_le, nat_lt, if◌then◌else◌, List, length, ◌⊎◌, refl, sym, ap, ◌∙◌, inl, inr, arith}
use Rattle.std.proofs.lemmas.Bool.{and_parts, and_from, cases_Bool, cases_lt, false≢true, le-leb, leb-true, lt-ltb, ltb-true}
use Rattle.map_model.specs.declared.lines.MapLine.{MapLine}
use Rattle.map_model.specs.Market.{Market, IsMarket, capacity_of, demand_of, pool_of}
use Rattle.map_model.specs.Allocation.{amount_at, counts_at, is_under, placed_through}
use Rattle.map_model.proofs.Trees.{under_trans}
use Rattle.best_laws.specs.Ahead.{IsRightMap}
use Rattle.best_laws.proofs.Offers.{offer_one}
use Rattle.map_laws.proofs.Totals.{total}
use Rattle.map_laws.proofs.Full.{IsBelow-from, IsHung, IsRefusedAt, above_or_below, held_by, is_below, offer_of, ranked, refused_at, size_of, units_all}

-- the other map has more of an offer that is wanted in ours
pub record IsGain (m : Market) (ours theirs : List MapLine) (g k : ℕ) : Type 0 where
  pub more : amount_at ours g k < amount_at theirs g k
  pub wanted : placed_through ours g k < demand_of m g

-- it has less of one that is not wanted in it
pub record IsLoss (m : Market) (ours theirs : List MapLine) (g k : ℕ) : Type 0 where
  pub less : amount_at theirs g k < amount_at ours g k
  pub unwanted : demand_of m g ≤ placed_through theirs g k

-- of both kinds of offers what the other map has, of all others what ours has
pub joined : Market → List MapLine → List MapLine → ℕ → ℕ → ℕ
joined m ours theirs g k =
    if (nat_lt (amount_at ours g k) (amount_at theirs g k) && nat_lt (placed_through ours g k) (demand_of m g)) || (nat_lt (amount_at theirs g k) (amount_at ours g k) && nat_le (demand_of m g) (placed_through theirs g k))
    then amount_at theirs g k
    else amount_at ours g k

pub joined_is : (m : Market) (ours theirs : List MapLine) (g k : ℕ)
    → (IsGain m ours theirs g k × (joined m ours theirs g k ≡ amount_at theirs g k))
    ⊎ ((IsLoss m ours theirs g k × (joined m ours theirs g k ≡ amount_at theirs g k)) ⊎ ((IsGain m ours theirs g k → ⊥) × (IsLoss m ours theirs g k → ⊥) × (joined m ours theirs g k ≡ amount_at ours g k)))
unfolding joined
joined_is m ours theirs g k = elim (cases_Bool (nat_lt (amount_at ours g k) (amount_at theirs g k) && nat_lt (placed_through ours g k) (demand_of m g))) [
  | inl e ↦
      let p = and_parts (nat_lt (amount_at ours g k) (amount_at theirs g k)) (nat_lt (placed_through ours g k) (demand_of m g)) e in
      inl (record { more = ltb-true (amount_at ours g k) (amount_at theirs g k) p.0; wanted = ltb-true (placed_through ours g k) (demand_of m g) p.1 }, rw e refl)
  | inr e ↦ elim (cases_Bool (nat_lt (amount_at theirs g k) (amount_at ours g k) && nat_le (demand_of m g) (placed_through theirs g k))) [
    | inl f ↦
        let p = and_parts (nat_lt (amount_at theirs g k) (amount_at ours g k)) (nat_le (demand_of m g) (placed_through theirs g k)) f in
        inr (inl (record { less = ltb-true (amount_at theirs g k) (amount_at ours g k) p.0; unwanted = leb-true (demand_of m g) (placed_through theirs g k) p.1 }, rw (e, f) refl))
    | inr f ↦
        inr (inr (
          λ gain. false≢true (sym e ∙ and_from (nat_lt (amount_at ours g k) (amount_at theirs g k)) (nat_lt (placed_through ours g k) (demand_of m g)) (lt-ltb (amount_at ours g k) (amount_at theirs g k) gain.more) (lt-ltb (placed_through ours g k) (demand_of m g) gain.wanted)),
          λ loss. false≢true (sym f ∙ and_from (nat_lt (amount_at theirs g k) (amount_at ours g k)) (nat_le (demand_of m g) (placed_through theirs g k)) (lt-ltb (amount_at theirs g k) (amount_at ours g k) loss.less) (le-leb (demand_of m g) (placed_through theirs g k) loss.unwanted)),
          rw (e, f) refl,
        ))
  ]
]

-- the join has more than ours only where there is a gain
pub gained : (m : Market) (ours theirs : List MapLine) (g k : ℕ) → amount_at ours g k < joined m ours theirs g k → IsGain m ours theirs g k
gained m ours theirs g k more = elim (joined_is m ours theirs g k) [
  | inl x ↦ x.0
  | inr (inl x) ↦ absurd (omega (arith, more, x.0.less, x.1))
  | inr (inr x) ↦ absurd (omega (arith, more, x.2))
]

pub gain_is : (m : Market) (ours theirs : List MapLine) (g k : ℕ) → IsGain m ours theirs g k → joined m ours theirs g k ≡ amount_at theirs g k
gain_is m ours theirs g k gain = elim (joined_is m ours theirs g k) [
  | inl x ↦ x.1
  | inr (inl x) ↦ x.1
  | inr (inr x) ↦ absurd (x.0 gain)
]

pub loss_is : (m : Market) (ours theirs : List MapLine) (g k : ℕ) → IsLoss m ours theirs g k → joined m ours theirs g k ≡ amount_at theirs g k
loss_is m ours theirs g k loss = elim (joined_is m ours theirs g k) [
  | inl x ↦ x.1
  | inr (inl x) ↦ x.1
  | inr (inr x) ↦ absurd (x.1 loss)
]

-- where the join has more than the other map, ours has as much, and the other one wants it
pub over : (m : Market) (ours theirs : List MapLine) (g k : ℕ) → amount_at theirs g k < joined m ours theirs g k → (joined m ours theirs g k ≡ amount_at ours g k) × (placed_through theirs g k < demand_of m g)
over m ours theirs g k more = elim (joined_is m ours theirs g k) [
  | inl x ↦ absurd (omega (arith, more, x.1))
  | inr (inl x) ↦ absurd (omega (arith, more, x.1))
  | inr (inr x) ↦ (x.2, elim (cases_lt (placed_through theirs g k) (demand_of m g)) [ inl l ↦ l | inr le ↦ absurd (x.1 (record { less = omega (arith, more, x.2); unwanted = le })) ])
]

-- what a right map has less of than another, and wants, a node refuses
pub refused_more : (m : Market) → IsMarket m → (lines other : List MapLine) → IsRightMap m lines → IsRightMap m other → (g k : ℕ) → placed_through lines g k < demand_of m g → amount_at lines g k < amount_at other g k → (n : ℕ) × IsRefusedAt m lines n g k
refused_more m market lines other right also g k wanted more =
    let o = offer_of m other also.form g k (omega (arith, more)) in
    refused_at m market lines right g k o wanted (omega (arith, more, also.feasible.limits g k o))

module _ (m : Market) (market : IsMarket m) (pools : (g k : ℕ) → pool_of m g k < length m.nodes) (ours theirs : List MapLine) (right : IsRightMap m ours) (other : IsRightMap m theirs) where
  abbrev both : ℕ → ℕ → ℕ
  both g k = joined m ours theirs g k

  pub refused_ours : (g k : ℕ) → IsGain m ours theirs g k → (n : ℕ) × IsRefusedAt m ours n g k
  refused_ours g k gain = refused_more m market ours theirs right other g k gain.wanted gain.more

  pub refused_theirs : (g k : ℕ) → amount_at theirs g k < both g k → (n : ℕ) × IsRefusedAt m theirs n g k
  refused_theirs g k more = let x = over m ours theirs g k more in refused_more m market theirs ours other right g k x.1 (omega (arith, more, x.0))

  -- no node over both refuses a gain in ours, and one over both what the join has more of in the other
  clash : (n g k c h j : ℕ) → IsGain m ours theirs g k → IsRefusedAt m ours n g k → amount_at theirs h j < both h j → IsRefusedAt m theirs c h j → counts_at m n h j ≡ true → counts_at m c g k ≡ true → ⊥
  clash n g k c h j gain at_n more at_c on_n on_c =
      let x = over m ours theirs h j more in
      let o = offer_of m theirs other.form g k (omega (arith, gain.more)) in
      let p = offer_of m ours right.form h j (omega (arith, more, x.0)) in
      let one = offer_one m market g k h j o p (ranked m theirs c h j at_c g k on_c (omega (arith, gain.more))) (ranked m ours n g k at_n h j on_n (omega (arith, more, x.0))) in
      let same_ours : amount_at ours g k ≡ amount_at ours h j = ap (λ x. amount_at ours x k) one.0 ∙ ap (amount_at ours h) one.1 in
      let same_theirs : amount_at theirs g k ≡ amount_at theirs h j = ap (λ x. amount_at theirs x k) one.0 ∙ ap (amount_at theirs h) one.1 in
      omega (arith, gain.more, more, x.0, same_ours, same_theirs)

  -- the join fits a node if it fits those below
  fits_step : (n : ℕ) → n < length m.nodes → ((c : ℕ) → is_below m n c ≡ true → c < length m.nodes → total (size_of m) (counts_at m c) both ≤ capacity_of m c) → total (size_of m) (counts_at m n) both ≤ capacity_of m n
  fits_step n there below = elim (cases_lt (capacity_of m n) (total (size_of m) (counts_at m n) both)) [
    | inr le ↦ le
    | inl more ↦
        let le = held_by m market pools ours right.form (counts_at m n) (is_below m n) both hold (λ g k on gain. of_ours more g k on (gained m ours theirs g k gain)) in
        absurd (omega (arith, more, le, units_all m market ours right.form (counts_at m n), right.feasible.capacities n there))
  ]
    where
      hold : (c : ℕ) → is_below m n c ≡ true → c < length m.nodes → ((g k : ℕ) → counts_at m c g k ≡ true → counts_at m n g k ≡ true) × (total (size_of m) (counts_at m c) both ≤ capacity_of m c)
      hold c b l = (λ g k on. under_trans m market n c (pool_of m g k) (pools g k) (IsBelow-from m market n c b).under on, below c b l)

      of_theirs : (g k : ℕ) → IsGain m ours theirs g k → (c : ℕ) → IsRefusedAt m ours c g k → counts_at m n g k ≡ true → is_under m c n ≡ true → (h j : ℕ) → counts_at m n h j ≡ true → amount_at theirs h j < both h j → IsHung m theirs (is_below m n) h j
      of_theirs g k gain c at_c on above h j on' more =
          let r = refused_theirs h j more in
          elim (above_or_below m (pool_of m h j) n r.0 on' r.1.on) [
            | inl up ↦ absurd (clash c g k r.0 h j gain at_c more r.1 (under_trans m market c n (pool_of m h j) (pools h j) above on') (under_trans m market r.0 n (pool_of m g k) (pools g k) up on))
            | inr down ↦ record { node = r.0; is = down; there = r.1.there; full = r.1.full; on = r.1.on }
          ]

      of_ours : capacity_of m n < total (size_of m) (counts_at m n) both → (g k : ℕ) → counts_at m n g k ≡ true → IsGain m ours theirs g k → IsHung m ours (is_below m n) g k
      of_ours more g k on gain =
          let r = refused_ours g k gain in
          elim (above_or_below m (pool_of m g k) n r.0 on r.1.on) [
            | inr down ↦ record { node = r.0; is = down; there = r.1.there; full = r.1.full; on = r.1.on }
            | inl up ↦
                let le = held_by m market pools theirs other.form (counts_at m n) (is_below m n) both hold (of_theirs g k gain r.0 r.1 on up) in
                absurd (omega (arith, more, le, units_all m market theirs other.form (counts_at m n), other.feasible.capacities n there))
          ]

  fits_from : (fuel n : ℕ) → n < length m.nodes → length m.nodes ≤ n + fuel → total (size_of m) (counts_at m n) both ≤ capacity_of m n
  fits_from zero n there l = absurd (omega arith)
  fits_from (suc fuel) n there l = fits_step n there (λ c b in_c. fits_from fuel c in_c (omega (arith, (IsBelow-from m market n c b).after in_c, l)))

  -- the join fits each node
  pub fits : (n : ℕ) → n < length m.nodes → total (size_of m) (counts_at m n) both ≤ capacity_of m n
  fits n there = fits_from (length m.nodes) n there (omega arith)
