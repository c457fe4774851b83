-- What ours refuses to a group that gains nothing, the join refuses too.
use Rattle.std.proofs.Common.{◌≡◌, ℕ, zero, suc, ◌+◌, ◌<◌, ◌≤◌, Bool, true, false, not, ◌&&◌, List, length, refl, sym, ap, ◌∙◌, subst, inl, inr, arith}
use Rattle.std.proofs.lemmas.Bool.{and_parts, and_from, cases_Bool, cases_lt, false≢true, not-true}
use Rattle.map_model.specs.declared.lines.MapLine.{MapLine}
use Rattle.map_model.specs.Market.{Market, IsMarket, capacity_of, demand_of, key_of, limit_of, pool_of}
use Rattle.map_model.specs.Allocation.{IsOffer, amount_at, counts_at, is_under, key_le, placed_through}
use Rattle.map_model.specs.Holding.{under_worse}
use Rattle.map_model.proofs.Keys.{key_le_itself, key_le_total, key_le_trans}
use Rattle.map_model.proofs.Trees.{under_trans}
use Rattle.best_laws.specs.Ahead.{IsRightMap}
use Rattle.best_laws.proofs.Offers.{offer_one}
use Rattle.map_laws.proofs.Totals.{is_offer, is_offer-itself, is_offer-same, one_if, total, total-more, total-none, total-without, unit_of}
use Rattle.map_laws.proofs.Full.{IsBelow-from, IsHung, IsRefusedAt, above_or_below, counted, held_by, is_below, offer_of, ranked, refused_at, size_of, units_all}
use Rattle.map_laws.proofs.Join.{IsGain, fits, gained, joined, joined_is, refused_ours, refused_theirs}
use Rattle.map_laws.proofs.Groups.{first_gain, total_ge}
use Rattle.map_laws.proofs.First.{is_lower, lower_order, no_first}

module _ (m : Market) (market : IsMarket m) (pools : (g k : ℕ) → pool_of m g k < length m.nodes) (ours theirs : List MapLine) (right : IsRightMap m ours) (other : IsRightMap m theirs) where
  abbrev both : ℕ → ℕ → ℕ
  both g k = joined m ours theirs g k

  pub joined_offer : (g k : ℕ) → 0 < both g k → IsOffer m g k
  joined_offer g k some = elim (joined_is m ours theirs g k) [
    | inl x ↦ offer_of m theirs other.form g k (omega (arith, some, x.1))
    | inr (inl x) ↦ offer_of m theirs other.form g k (omega (arith, some, x.1))
    | inr (inr x) ↦ offer_of m ours right.form g k (omega (arith, some, x.2))
  ]

  -- (h, j) is the worst that the join has under n, the lowest full node over (g, k), and is ranked lower than that one
  pub record IsWorstOf (n g k h j : ℕ) : Type 0 where
    pub on : counts_at m n h j ≡ true
    pub some : 0 < both h j
    pub worse : key_le (key_of m h j) (key_of m g k) ≡ false
    pub worst : (i o : ℕ) → counts_at m n i o ≡ true → 0 < both i o → key_le (key_of m i o) (key_of m h j) ≡ true

  -- a unit more of (g, k) under n would be too much for one of the two maps that has as much of (h, j) as the join
  module _ (lines : List MapLine) (valid : IsRightMap m lines) (n g k h j : ℕ) (there : n < length m.nodes) (offer : IsOffer m g k) (here : counts_at m n g k ≡ true)
      (low : (c : ℕ) → counts_at m c g k ≡ true → c < length m.nodes → n < c → total (size_of m) (counts_at m c) both < capacity_of m c)
      (worst : IsWorstOf n g k h j) (same : both h j ≡ amount_at lines h j)
      (refused : (i o : ℕ) → amount_at lines i o < both i o → (c : ℕ) × IsRefusedAt m lines c i o) (at : (c : ℕ) × IsRefusedAt m lines c g k) where
    abbrev test : ℕ → ℕ → Bool
    test i o = counts_at m n i o && not (is_offer h j i o)

    abbrev kind : ℕ → Bool
    kind c = is_below m n c && not (is_under m c (pool_of m h j))

    abbrev more_of : ℕ → ℕ → ℕ
    more_of i o = both i o + unit_of g k i o

    test_apart : (i o : ℕ) → counts_at m n i o ≡ true → (is_offer h j i o ≡ true → ⊥) → test i o ≡ true
    test_apart i o on apart = and_from (counts_at m n i o) (not (is_offer h j i o)) on (elim (cases_Bool (is_offer h j i o)) [
      | inl e ↦ absurd (apart e)
      | inr e ↦ rw e refl
    ])

    hold : (c : ℕ) → kind c ≡ true → c < length m.nodes → ((i o : ℕ) → counts_at m c i o ≡ true → test i o ≡ true) × (total (size_of m) (counts_at m c) more_of ≤ capacity_of m c)
    hold c e l =
        let p = and_parts (is_below m n c) (not (is_under m c (pool_of m h j))) e in
        let below = IsBelow-from m market n c p.0 in
        let off : is_under m c (pool_of m h j) ≡ false = not-true (is_under m c (pool_of m h j)) p.1 in (
          λ i o on. test_apart i o (under_trans m market n c (pool_of m i o) (pools i o) below.under on) (λ t.
              let q = is_offer-same h j i o t in
              false≢true (sym off ∙ subst (λ x. counts_at m c x j ≡ true) q.0 (subst (λ y. counts_at m c i y ≡ true) q.1 on))),
          elim (cases_Bool (counts_at m c g k)) [
            | inl t ↦
                let one : one_if (counts_at m c g k) ≡ 1 = ap one_if t in
                omega (arith, total-more (size_of m) (counts_at m c) both g k (counted m market g k offer), one, low c t l (below.after l))
            | inr f ↦
                let none : one_if (counts_at m c g k) ≡ 0 = ap one_if f in
                omega (arith, total-more (size_of m) (counts_at m c) both g k (counted m market g k offer), none, fits m market pools ours theirs right other c l)
          ],
        )

    -- what refuses an offer under n and is not over (h, j) is below n
    hung_at : (i o c : ℕ) → counts_at m n i o ≡ true → IsRefusedAt m lines c i o → is_under m c (pool_of m h j) ≡ false → IsHung m lines kind i o
    hung_at i o c on r off = elim (above_or_below m (pool_of m i o) n c on r.on) [
      | inl up ↦ absurd (false≢true (sym off ∙ under_trans m market c n (pool_of m h j) (pools h j) up worst.on))
      | inr down ↦ record { node = c; is = and_from (is_below m n c) (not (is_under m c (pool_of m h j))) down (rw off refl); there = r.there; full = r.full; on = r.on }
    ]

    hung_itself : IsHung m lines kind g k
    hung_itself = hung_at g k at.0 here at.1 (elim (cases_Bool (is_under m at.0 (pool_of m h j))) [
      | inr e ↦ e
      | inl e ↦ absurd (false≢true (sym worst.worse ∙ ranked m lines at.0 g k at.1 h j e (omega (arith, same, worst.some))))
    ])

    hung_other : (i o : ℕ) → counts_at m n i o ≡ true → (is_offer h j i o ≡ true → ⊥) → amount_at lines i o < both i o → IsHung m lines kind i o
    hung_other i o on apart more =
        let r = refused i o more in
        hung_at i o r.0 on r.1 (elim (cases_Bool (is_under m r.0 (pool_of m h j))) [
          | inr e ↦ e
          | inl e ↦
              let one = offer_one m market i o h j (joined_offer i o (omega (arith, more))) (joined_offer h j worst.some) (worst.worst i o on (omega (arith, more))) (ranked m lines r.0 i o r.1 h j e (omega (arith, same, worst.some))) in
              absurd (apart (subst (λ x. is_offer x j i o ≡ true) one.0 (subst (λ y. is_offer i y i o ≡ true) one.1 (is_offer-itself i o))))
        ])

    hung : (i o : ℕ) → test i o ≡ true → amount_at lines i o < more_of i o → IsHung m lines kind i o
    hung i o t more =
        let p = and_parts (counts_at m n i o) (not (is_offer h j i o)) t in
        elim (cases_Bool (is_offer g k i o)) [
          | inl e ↦ let q = is_offer-same g k i o e in subst (λ x. IsHung m lines kind x o) (sym q.0) (subst (λ y. IsHung m lines kind g y) (sym q.1) hung_itself)
          | inr e ↦
              let none : unit_of g k i o ≡ 0 = ap one_if e in
              hung_other i o p.0 (λ s. false≢true (sym (not-true (is_offer h j i o) p.1) ∙ s)) (omega (arith, more, none))
        ]

    pub too_much : total (size_of m) (counts_at m n) both ≡ capacity_of m n → ⊥
    too_much full =
        let in_test : test g k ≡ true = test_apart g k here (λ e.
        let q = is_offer-same h j g k e in
        false≢true (sym worst.worse ∙ subst (λ x. key_le (key_of m x j) (key_of m g k) ≡ true) q.0 (subst (λ y. key_le (key_of m g y) (key_of m g k) ≡ true) q.1 (key_le_itself (key_of m g k))))) in
        let one : one_if (test g k) ≡ 1 = ap one_if in_test in
        omega (
          arith,
          held_by m market pools lines valid.form test kind more_of hold hung,
          total-more (size_of m) test both g k (counted m market g k offer),
          one,
          total-without (size_of m) (counts_at m n) both h j (counted m market h j (joined_offer h j worst.some)) worst.on,
          total-without (size_of m) (counts_at m n) (amount_at lines) h j (counted m market h j (joined_offer h j worst.some)) worst.on,
          same,
          full,
          units_all m market lines valid.form (counts_at m n),
          valid.feasible.capacities n there,
        )

  -- (g, k) would take a unit more in ours, and its group gains nothing
  module _ (g k : ℕ) (offer : IsOffer m g k) (wanted : placed_through ours g k < demand_of m g) (room : amount_at ours g k < limit_of m g k) (none : (i : ℕ) → IsGain m ours theirs g i → ⊥)
      (no : (n : ℕ) → n < length m.nodes → counts_at m n g k ≡ true → total (size_of m) (counts_at m n) both ≡ capacity_of m n → total (size_of m) (under_worse m n (key_of m g k)) both ≡ 0 → ⊥) where
    no_more_through : placed_through theirs g k ≤ placed_through ours g k
    no_more_through = elim (cases_lt (placed_through ours g k) (placed_through theirs g k)) [
      | inr le ↦ le
      | inl more ↦ let gain = first_gain m market pools ours theirs right other g k offer.group more in absurd (none gain.0 gain.1)
    ]

    no_more_at : amount_at theirs g k ≤ amount_at ours g k
    no_more_at = elim (cases_lt (amount_at ours g k) (amount_at theirs g k)) [
      | inr le ↦ le
      | inl more ↦ absurd (none k (record { more = more; wanted = wanted }))
    ]

    at_ours : (n : ℕ) × IsRefusedAt m ours n g k
    at_ours = refused_at m market ours right g k offer wanted room

    at_theirs : (n : ℕ) × IsRefusedAt m theirs n g k
    at_theirs = refused_at m market theirs other g k offer (omega (arith, wanted, no_more_through)) (omega (arith, room, no_more_at))

    abbrev IsWorse : ℕ → ℕ → ℕ → Type 0
    IsWorse n h j = (under_worse m n (key_of m g k) h j ≡ true) × (0 < both h j)

    worst_of : (n h j : ℕ) → IsWorse n h j → ((i o : ℕ) → IsWorse n i o → is_lower m h j i o ≡ false) → IsWorstOf n g k h j
    worst_of n h j w first =
        let p = and_parts (counts_at m n h j) (not (key_le (key_of m h j) (key_of m g k))) w.0 in
        let worse : key_le (key_of m h j) (key_of m g k) ≡ false = not-true (key_le (key_of m h j) (key_of m g k)) p.1 in
        record {
          on = p.0;
          some = w.1;
          worse = worse;
          worst = λ i o on some. elim (cases_Bool (key_le (key_of m i o) (key_of m h j))) [
            | inl e ↦ e
            | inr e ↦
                let low : key_le (key_of m i o) (key_of m g k) ≡ false = elim (cases_Bool (key_le (key_of m i o) (key_of m g k))) [
                  | inr f ↦ f
                  | inl f ↦ absurd (false≢true (sym e ∙ key_le_trans (key_of m i o) (key_of m g k) (key_of m h j) f (key_le_total (key_of m h j) (key_of m g k) worse)))
                ] in
                let lower : is_lower m h j i o ≡ true = rw e refl in
                absurd (false≢true (sym (first i o (and_from (counts_at m n i o) (not (key_le (key_of m i o) (key_of m g k))) on (rw low refl), some)) ∙ lower))
          ];
        }

    low_step : (n : ℕ) → n < length m.nodes → counts_at m n g k ≡ true → ((c : ℕ) → counts_at m c g k ≡ true → c < length m.nodes → n < c → total (size_of m) (counts_at m c) both < capacity_of m c) → total (size_of m) (counts_at m n) both < capacity_of m n
    low_step n there on low = elim (cases_lt (total (size_of m) (counts_at m n) both) (capacity_of m n)) [
      | inl l ↦ l
      | inr ge ↦
          let full : total (size_of m) (counts_at m n) both ≡ capacity_of m n = omega (arith, ge, fits m market pools ours theirs right other n there) in
          absurd (no n there on full (total-none (size_of m) (under_worse m n (key_of m g k)) both (λ h j t. elim (cases_lt 0 (both h j)) [
            | inr nothing ↦ omega (arith, nothing)
            | inl some ↦ absurd (no_first (size_of m) (is_lower m) (lower_order m) (IsWorse n) (λ i o w. counted m market i o (joined_offer i o w.1)) (λ i o w first. last full i o (worst_of n i o w first)) h j (t, some))
          ])))
    ]
      where
        last : total (size_of m) (counts_at m n) both ≡ capacity_of m n → (h j : ℕ) → IsWorstOf n g k h j → ⊥
        last full h j worst = elim (joined_is m ours theirs h j) [
          | inl x ↦ too_much theirs other n g k h j there offer on low worst x.1 (refused_theirs m market pools ours theirs right other) at_theirs full
          | inr (inl x) ↦ too_much theirs other n g k h j there offer on low worst x.1 (refused_theirs m market pools ours theirs right other) at_theirs full
          | inr (inr x) ↦ too_much ours right n g k h j there offer on low worst x.2 (λ i o more. refused_ours m market pools ours theirs right other i o (gained m ours theirs i o more)) at_ours full
        ]

    low_from : (fuel n : ℕ) → length m.nodes ≤ n + fuel → n < length m.nodes → counts_at m n g k ≡ true → total (size_of m) (counts_at m n) both < capacity_of m n
    low_from zero n l there on = absurd (omega (arith, l, there))
    low_from (suc fuel) n l there on = low_step n there on (λ c on_c in_c below. low_from fuel c (omega (arith, l, below)) in_c on_c)

    abbrev with_one : ℕ → ℕ → ℕ
    with_one i o = both i o + unit_of g k i o

    -- so there is such a node
    pub refuses : ⊥
    refuses =
        let le = held_by m market pools ours right.form (λ _ _. true) (λ _. true) with_one hold hung in
        omega (arith, le, total-more (size_of m) (λ _ _. true) both g k (counted m market g k offer), total_ge m market pools ours theirs right other)
      where
        hold : (c : ℕ) → true ≡ true → c < length m.nodes → ((i o : ℕ) → counts_at m c i o ≡ true → true ≡ true) × (total (size_of m) (counts_at m c) with_one ≤ capacity_of m c)
        hold c e l = (
          λ i o on. refl,
          elim (cases_Bool (counts_at m c g k)) [
            | inl t ↦
                let one : one_if (counts_at m c g k) ≡ 1 = ap one_if t in
                omega (arith, total-more (size_of m) (counts_at m c) both g k (counted m market g k offer), one, low_from (length m.nodes) c (omega arith) l t)
            | inr f ↦
                let zero : one_if (counts_at m c g k) ≡ 0 = ap one_if f in
                omega (arith, total-more (size_of m) (counts_at m c) both g k (counted m market g k offer), zero, fits m market pools ours theirs right other c l)
          ],
        )

        hung_from : (i o : ℕ) → (n : ℕ) × IsRefusedAt m ours n i o → IsHung m ours (λ _. true) i o
        hung_from i o r = record { node = r.0; is = refl; there = r.1.there; full = r.1.full; on = r.1.on }

        hung : (i o : ℕ) → true ≡ true → amount_at ours i o < with_one i o → IsHung m ours (λ _. true) i o
        hung i o t more = elim (cases_Bool (is_offer g k i o)) [
          | inl e ↦ let q = is_offer-same g k i o e in subst (λ x. IsHung m ours (λ _. true) x o) (sym q.0) (subst (λ y. IsHung m ours (λ _. true) g y) (sym q.1) (hung_from g k at_ours))
          | inr e ↦
              let zero : unit_of g k i o ≡ 0 = ap one_if e in
              hung_from i o (refused_ours m market pools ours theirs right other i o (gained m ours theirs i o (omega (arith, more, zero))))
        ]
