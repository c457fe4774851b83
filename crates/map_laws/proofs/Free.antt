-- A right map without a circle is the best.
use Rattle.std.proofs.Common.{◌≡◌, ℕ, zero, suc, ◌<◌, ◌≤◌, ◌==◌, List, length, IsTrue, slice_index, sym, ap, subst, inl, inr, arith}
use Rattle.std.proofs.lemmas.Bool.{cases_eq, cases_lt, eqb-true, not-false}
use Rattle.map_model.specs.declared.lines.MapLine.{MapLine}
use Rattle.map_model.specs.Market.{Market, IsMarket, is_pool_at, key_of, limit_of, pool_of}
use Rattle.map_model.specs.Allocation.{AreLines, IsOffer, amount_at, key_le, placed, placed_through}
use Rattle.map_model.proofs.MapForm.{few_places}
use Rattle.map_model.proofs.Paths.{pool_there}
use Rattle.best_laws.specs.Ahead.{IsRightMap}
use Rattle.best_laws.proofs.Offers.{pool_in}
use Rattle.map_laws.specs.Circles.{IsCircleFree, IsInLine, IsLastPlace, IsNextInLine, MakesRoom}
use Rattle.map_laws.proofs.Totals.{total-none}
use Rattle.map_laws.proofs.Full.{counted, offer_of, size_of, units_all}
use Rattle.map_laws.proofs.Join.{IsGain}
use Rattle.map_laws.proofs.Groups.{first_gain, last_is_loss, whole_ours}
use Rattle.map_laws.proofs.First.{higher_order, is_higher, no_first}
use Rattle.map_laws.proofs.Next.{next_gains, somebody}

-- a group with units has a last place
last_from : (m : Market) → IsMarket m → (lines : List MapLine) → AreLines m lines → (g : ℕ) → 0 < placed lines g → (n : ℕ) → ((j : ℕ) → n ≤ j → amount_at lines g j ≡ 0) → (k : ℕ) × IsLastPlace lines g k
last_from m market lines form g some zero none =
    let nothing = total-none (size_of m) (λ h _. h == g) (amount_at lines) (λ h j e. subst (λ x. amount_at lines x j ≡ 0) (sym (eqb-true h g e)) (none j (omega arith))) in
    absurd (omega (arith, some, nothing, units_all m market lines form (λ h _. h == g)))
last_from m market lines form g some (suc n) none = elim (cases_lt 0 (amount_at lines g n)) [
  | inl l ↦ (n, record { some = l; last = λ j past. none j (omega (arith, past)) })
  | inr none_there ↦ last_from m market lines form g some n (λ j le. elim (cases_eq n j) [
    | inl e ↦ let same : amount_at lines g n ≡ amount_at lines g j = ap (amount_at lines g) e in omega (arith, none_there, same)
    | inr ne ↦ none j (omega (arith, le, ne))
  ])
]

last_place : (m : Market) → IsMarket m → (lines : List MapLine) → AreLines m lines → (g : ℕ) → 0 < placed lines g → (k : ℕ) × IsLastPlace lines g k
last_place m market lines form g some = last_from m market lines form g some 16 (λ j past. elim (cases_lt 0 (amount_at lines g j)) [
  | inl l ↦ absurd (omega (arith, past, few_places m market g j (offer_of m lines form g j l)))
  | inr none_there ↦ omega (arith, none_there)
])

-- the pool of an offer is one
pool_is : (m : Market) → IsMarket m → (g k : ℕ) → IsOffer m g k → IsTrue (is_pool_at m (pool_of m g k))
pool_is m market g k o = (market.groups g _ o.group).pools k _ o.place

module _ (m : Market) (market : IsMarket m) (pools : (g k : ℕ) → pool_of m g k < length m.nodes) (ours theirs : List MapLine) (right : IsRightMap m ours) (other : IsRightMap m theirs)
    (limits : ℕ → ℕ → ℕ) (limited : (g k : ℕ) → IsOffer m g k → limits g k ≤ limit_of m g k) (within : (g k : ℕ) → IsOffer m g k → amount_at theirs g k ≤ limits g k) (free : IsCircleFree m limits ours) where
  -- where room is made for somebody, somebody is next in line
  somebody_next : (pool : ℕ) → ((g k : ℕ) → IsNextInLine m limits ours pool g k → ⊥) → (h j : ℕ) → IsInLine m limits ours h j × MakesRoom m ours pool h j → ⊥
  somebody_next pool nobody = no_first (size_of m) (is_higher m) (higher_order m) (λ h j. IsInLine m limits ours h j × MakesRoom m ours pool h j) (λ h j x. counted m market h j x.0.offer) (λ h j x first. nobody h j (record {
    in_line = x.0;
    room = x.1;
    best = λ i o line room. not-false (key_le (key_of m h j) (key_of m i o)) (first i o (line, room));
  }))

  -- the last place of a group that gains
  last_of : (g i : ℕ) → IsGain m ours theirs g i → (k : ℕ) × IsLastPlace ours g k
  last_of g i gain = last_place m market ours right.form g (omega (arith, gain.wanted, whole_ours m market pools ours theirs right other g i gain))

  -- from there numbers fall for ever
  no_gain_from : (n g i k : ℕ) → IsGain m ours theirs g i → IsLastPlace ours g k → slice_index free.numbers (pool_of m g k) < n → ⊥
  no_gain_from zero g i k gain last l = omega (arith, l)
  no_gain_from (suc n) g i k gain last l =
      let loss = last_is_loss m market pools ours theirs right other g i k gain last in
      somebody m market pools ours theirs right other g k loss (λ h j also room.
      let o = offer_of m theirs other.form h j (omega (arith, also.more)) in
      somebody_next (pool_of m g k) (λ e f next. next_gains m market pools ours theirs right other g k loss limits limited within e f next (λ o gains.
      let end = last_of e o gains in
      no_gain_from n e o end.0 gains end.1 (omega (arith, l, free.falls (pool_of m g k) e f end.0 (pool_is m market g k (offer_of m ours right.form g k last.some)) next (whole_ours m market pools ours theirs right other e o gains) end.1))))
      h j (record { offer = o; wanted = also.wanted; room = omega (arith, also.more, within h j o) }, room))

  no_gain : (g i : ℕ) → IsGain m ours theirs g i → ⊥
  no_gain g i gain = let end = last_of g i gain in no_gain_from (suc (slice_index free.numbers (pool_of m g end.0))) g i end.0 gain end.1 (omega arith)

  -- so the other map has no more of a group up to any place
  best_from : (g k : ℕ) → IsOffer m g k → placed_through theirs g k ≤ placed_through ours g k
  best_from g k o = elim (cases_lt (placed_through ours g k) (placed_through theirs g k)) [
    | inr le ↦ le
    | inl more ↦ let gain = first_gain m market pools ours theirs right other g k o.group more in absurd (no_gain g gain.0 gain.1)
  ]

-- a right map without a circle is no worse for any group than one that keeps those limits
pub no_worse_if_free : (m : Market) → IsMarket m → (limits : ℕ → ℕ → ℕ) → ((g k : ℕ) → IsOffer m g k → limits g k ≤ limit_of m g k) → (lines : List MapLine) → IsRightMap m lines → IsCircleFree m limits lines
    → (other : List MapLine) → IsRightMap m other → ((g k : ℕ) → IsOffer m g k → amount_at other g k ≤ limits g k) → (g k : ℕ) → IsOffer m g k → placed_through other g k ≤ placed_through lines g k
no_worse_if_free m market limits limited lines right free other also within g k o =
    best_from m market (λ h j. pool_in m market (pool_of m g k) h j (pool_there m market g k o)) lines other right also limits limited within free g k o
