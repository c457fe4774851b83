-- Where a group that gains leaves its last place, some group is next in line there, and gains as well.
use Rattle.std.proofs.Common.{◌≡◌, ℕ, ◌<◌, ◌≤◌, ◌==◌, Bool, true, false, not, ◌&&◌, List, [], ◌∷◌, length, ◌⊎◌, refl, sym, ◌∙◌, subst, inl, inr, arith}
use Rattle.std.specs.List.{list_any}
use Rattle.std.proofs.lemmas.Bool.{and_parts, and_from, cases_Bool, eq-eqb, eqb-true, false≢true, not-true, or_cases}
use Rattle.std.proofs.Math.Bool.{or-true}
use Rattle.map_model.specs.declared.lines.MapLine.{MapLine}
use Rattle.map_model.specs.Market.{Market, IsMarket, capacity_of, key_of, limit_of, path, pool_of}
use Rattle.map_model.specs.Allocation.{IsOffer, amount_at, counts_at, is_under, key_le, load}
use Rattle.map_model.specs.Holding.{under_worse}
use Rattle.map_model.proofs.Trees.{under_there, under_trans}
use Rattle.best_laws.specs.Ahead.{IsRightMap}
use Rattle.best_laws.proofs.Offers.{offer_one}
use Rattle.map_laws.specs.Circles.{IsInLine, IsNextInLine, MakesRoom}
use Rattle.map_laws.proofs.Totals.{total, total-among}
use Rattle.map_laws.proofs.Full.{IsHung, above_or_below, counted, held_by, held_by_less, offer_of, size_of, units_all}
use Rattle.map_laws.proofs.Join.{IsGain, IsLoss, fits, gain_is, gained, joined, loss_is}
use Rattle.map_laws.proofs.Groups.{total_ge}
use Rattle.map_laws.proofs.First.{apart}
use Rattle.map_laws.proofs.Refuses.{joined_offer, refuses}

-- a full node of the offer's path that isn't on that of the pool
pub record IsInTheWay (m : Market) (lines : List MapLine) (pool g k n : ℕ) : Type 0 where
  pub on : counts_at m n g k ≡ true
  pub full : load m lines n ≡ capacity_of m n
  pub off : is_under m n pool ≡ false

-- some node passes a test, or none of the list does
some_or_none : (test : ℕ → Bool) (ns : List ℕ) → ((n : ℕ) × (list_any (λ x. x == n) ns ≡ true) × (test n ≡ true)) ⊎ ((n : ℕ) → list_any (λ x. x == n) ns ≡ true → test n ≡ false)
some_or_none test [] = inr (λ n h. absurd (false≢true h))
some_or_none test (x ∷ ns) = elim (cases_Bool (test x)) [
  | inl e ↦ inl (x, rw (eq-eqb x x refl) refl, e)
  | inr e ↦ elim (some_or_none test ns) [
    | inl w ↦ inl (w.0, rw w.1 (or-true (x == w.0)), w.2)
    | inr none ↦ inr (λ n h. elim (or_cases (x == n) (list_any (λ y. y == n) ns) h) [
      | inl same ↦ subst (λ y. test y ≡ false) (eqb-true x n same) e
      | inr there ↦ none n there
    ])
  ]
]

-- room is made for the offer, or a node is in the way
pub room_or_way : (m : Market) (lines : List MapLine) (pool g k : ℕ) → ((n : ℕ) × IsInTheWay m lines pool g k n) ⊎ MakesRoom m lines pool g k
room_or_way m lines pool g k = elim (some_or_none (λ n. (load m lines n == capacity_of m n) && not (is_under m n pool)) (path m (pool_of m g k))) [
  | inl w ↦
      let p = and_parts (load m lines w.0 == capacity_of m w.0) (not (is_under m w.0 pool)) w.2 in
      inl (w.0, record { on = w.1; full = eqb-true (load m lines w.0) (capacity_of m w.0) p.0; off = not-true (is_under m w.0 pool) p.1 })
  | inr none ↦ inr (λ n on full. elim (cases_Bool (is_under m n pool)) [
    | inl e ↦ e
    | inr e ↦ absurd (false≢true (sym (none n on) ∙ and_from (load m lines n == capacity_of m n) (not (is_under m n pool)) (eq-eqb (load m lines n) (capacity_of m n) full) (rw e refl)))
  ])
]

module _ (m : Market) (market : IsMarket m) (pools : (g k : ℕ) → pool_of m g k < length m.nodes) (ours theirs : List MapLine) (right : IsRightMap m ours) (other : IsRightMap m theirs) (g l : ℕ) (loss : IsLoss m ours theirs g l) where
  abbrev both : ℕ → ℕ → ℕ
  both g k = joined m ours theirs g k

  -- the pool of a loss
  abbrev pool : ℕ
  pool = pool_of m g l

  lost : IsOffer m g l
  lost = offer_of m ours right.form g l (omega (arith, loss.less))

  fewer : both g l < amount_at ours g l
  fewer = omega (arith, loss.less, loss_is m ours theirs g l loss)

  way_hangs : (kind : ℕ → Bool) (h j : ℕ) → (n : ℕ) × IsInTheWay m ours pool h j n → ((n : ℕ) → IsInTheWay m ours pool h j n → kind n ≡ true) → IsHung m ours kind h j
  way_hangs kind h j w is = record { node = w.0; is = is w.0 w.1; there = under_there m market w.0 (pool_of m h j) (pools h j) w.1.on; full = w.1.full; on = w.1.on }

  -- room is made for some gain
  pub somebody : ((h j : ℕ) → IsGain m ours theirs h j → MakesRoom m ours pool h j → ⊥) → ⊥
  somebody nobody =
      let less = held_by_less m market pools ours right.form (λ _ _. true) (λ n. not (is_under m n pool)) both (λ c e there. (λ h j on. refl, fits m market pools ours theirs right other c there)) (λ h j t more. hung h j (gained m ours theirs h j more)) g l (counted m market g l lost) refl fewer
      (λ n e on. apart (is_under m n pool) e on) in
      omega (arith, less, total_ge m market pools ours theirs right other)
    where
      hung : (h j : ℕ) → IsGain m ours theirs h j → IsHung m ours (λ n. not (is_under m n pool)) h j
      hung h j gain = elim (room_or_way m ours pool h j) [
        | inr room ↦ absurd (nobody h j gain room)
        | inl w ↦ way_hangs (λ n. not (is_under m n pool)) h j w (λ n x. rw x.off refl)
      ]

  -- a node under n that isn't on the pool's path
  abbrev kind : ℕ → ℕ → Bool
  kind n c = not (is_under m c pool) && is_under m n c

  -- and the next in line is of a group that gains
  pub next_gains : (limits : ℕ → ℕ → ℕ) → ((h j : ℕ) → IsOffer m h j → limits h j ≤ limit_of m h j) → ((h j : ℕ) → IsOffer m h j → amount_at theirs h j ≤ limits h j) → (i k : ℕ) → IsNextInLine m limits ours pool i k → ((j : ℕ) → IsGain m ours theirs i j → ⊥) → ⊥
  next_gains limits limited within i k next none =
      refuses m market pools ours theirs right other i k next.in_line.offer next.in_line.wanted (omega (arith, next.in_line.room, limited i k next.in_line.offer)) none at
    where
      -- a gain under a node that refuses it is not the next one
      not_next : (n : ℕ) → n < length m.nodes → counts_at m n i k ≡ true → total (size_of m) (under_worse m n (key_of m i k)) both ≡ 0 → (h j : ℕ) → counts_at m n h j ≡ true → IsGain m ours theirs h j → MakesRoom m ours pool h j → ⊥
      not_next n there on zero_worse h j under gain room =
          let value = gain_is m ours theirs h j gain in
          let o = joined_offer m market pools ours theirs right other h j (omega (arith, gain.more, value)) in
          let line : IsInLine m limits ours h j = record { offer = o; wanted = gain.wanted; room = omega (arith, gain.more, within h j o) } in
          let ranks : key_le (key_of m h j) (key_of m i k) ≡ true = elim (cases_Bool (key_le (key_of m h j) (key_of m i k))) [
            | inl e ↦ e
            | inr e ↦
                let among = total-among (size_of m) (under_worse m n (key_of m i k)) both h j (counted m market h j o) (and_from (counts_at m n h j) (not (key_le (key_of m h j) (key_of m i k))) under (rw e refl)) in
                absurd (omega (arith, among, zero_worse, gain.more, value))
          ] in
          let one = offer_one m market h j i k o next.in_line.offer ranks (next.best h j line room) in
          none j (subst (λ x. IsGain m ours theirs x j) one.0 gain)

      hold : (n : ℕ) → (c : ℕ) → kind n c ≡ true → c < length m.nodes → ((h j : ℕ) → counts_at m c h j ≡ true → counts_at m n h j ≡ true) × (total (size_of m) (counts_at m c) both ≤ capacity_of m c)
      hold n c e there =
          let p = and_parts (not (is_under m c pool)) (is_under m n c) e in
          (λ h j on. under_trans m market n c (pool_of m h j) (pools h j) p.1 on, fits m market pools ours theirs right other c there)

      hung : (n : ℕ) → n < length m.nodes → counts_at m n i k ≡ true → total (size_of m) (under_worse m n (key_of m i k)) both ≡ 0 → (h j : ℕ) → counts_at m n h j ≡ true → amount_at ours h j < both h j → IsHung m ours (kind n) h j
      hung n there on zero_worse h j under more =
          let gain = gained m ours theirs h j more in
          elim (room_or_way m ours pool h j) [
            | inr room ↦ absurd (not_next n there on zero_worse h j under gain room)
            | inl w ↦ way_hangs (kind n) h j w (λ c x. and_from (not (is_under m c pool)) (is_under m n c) (rw x.off refl) (elim (above_or_below m (pool_of m h j) n c under x.on) [
              | inr down ↦ (and_parts (is_under m n c) (not (c == n)) down).0
              | inl up ↦ absurd (false≢true (sym x.off ∙ next.room c (under_trans m market c n (pool_of m i k) (pools i k) up on) x.full))
            ]))
          ]

      at : (n : ℕ) → n < length m.nodes → counts_at m n i k ≡ true → total (size_of m) (counts_at m n) both ≡ capacity_of m n → total (size_of m) (under_worse m n (key_of m i k)) both ≡ 0 → ⊥
      at n there on full zero_worse =
          let le = held_by m market pools ours right.form (counts_at m n) (kind n) both (hold n) (hung n there on zero_worse) in
          let all = units_all m market ours right.form (counts_at m n) in
          let also : load m ours n ≡ capacity_of m n = omega (arith, le, all, full, right.feasible.capacities n there) in
          let under : counts_at m n g l ≡ true = next.room n on also in
          let less = held_by_less m market pools ours right.form (counts_at m n) (kind n) both (hold n) (hung n there on zero_worse) g l (counted m market g l lost) under fewer
          (λ c e on_c. apart (is_under m c pool) (and_parts (not (is_under m c pool)) (is_under m n c) e).0 on_c) in
          omega (arith, less, all, full, also)
