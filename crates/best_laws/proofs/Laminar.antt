-- A full node that refuses an offer leaves others no more of it, if whatever they have less of there is refused to them below it.
use Rattle.std.proofs.Common.{◌≡◌, ℕ, ◌+◌, ◌*◌, ◌/◌, ◌%◌, ◌<◌, ◌≤◌, ◌==◌, Bool, true, false, not, ◌&&◌, if◌then◌else◌, List, [], ◌∷◌, length, Option, None, Some, All, refl, sym, ap, ◌∙◌, inl, inr, arith}
use Rattle.std.specs.Option.{IfSome, is_some}
use Rattle.std.proofs.lemmas.List.Sums.{sum_by-cons}
use Rattle.std.proofs.lemmas.Bool.{and_parts, and_from, cases_Bool, cases_lt, eq-eqb, eqb-true, false≢true}
use Rattle.map_model.specs.declared.instance.Key.{Key}
use Rattle.map_model.specs.declared.lines.MapLine.{MapLine}
use Rattle.map_model.specs.Market.{Market, IsMarket, capacity_of, key_of, path, pool_of}
use Rattle.map_model.specs.Allocation.{counts_at, is_under, key_le, units_of}
use Rattle.map_model.proofs.Keys.{key_le_itself, key_le_total}
use Rattle.map_model.specs.Holding.{under_within, IsSaturated}
use Rattle.best_laws.specs.Tops.{is_closed, top_of, top_over}
use Rattle.map_model.proofs.Trees.{under_trans, under_there}
use Rattle.map_model.proofs.Units.{sum_by-add, units_of-le}
use Rattle.best_laws.proofs.Sums.{amount_of, is_at, sum-le, sum-lt, units_of-by_node, units_of-by_offers}
use Rattle.best_laws.proofs.Tops.{top_below, top_itself, top_passes, top_some}

-- what a closed node says
pub record IsClosed (m : Market) (lines : List MapLine) (c : ℕ) (key : Key) (n : ℕ) : Type 0 where
  pub below : is_under m c n ≡ true
  pub apart : n ≡ c → ⊥
  pub full : units_of (counts_at m n) lines ≡ capacity_of m n
  pub above : units_of (λ g k. counts_at m n g k && key_le key (key_of m g k)) lines ≡ 0

pub IsClosed-from : (m : Market) (lines : List MapLine) (c : ℕ) (key : Key) (n : ℕ) → is_closed m lines c key n ≡ true → IsClosed m lines c key n
unfolding is_closed
IsClosed-from m lines c key n h =
    let p = and_parts _ _ h in
    let q = and_parts _ _ p.0 in
    let r = and_parts _ _ p.1 in
    record {
      below = q.0;
      apart = λ e. differ (n == c) q.1 (eq-eqb n c e);
      full = eqb-true _ _ r.0;
      above = eqb-true _ _ r.1;
    }
  where
    differ : (b : Bool) → not b ≡ true → b ≡ true → ⊥
    differ true h e = false≢true h
    differ false h e = false≢true e

at_from : (o : Option ℕ) (n : ℕ) → is_at o n ≡ true → o ≡ Some n
at_from None n h = absurd (false≢true h)
at_from (Some t) n h = ap Some (eqb-true t n h)

at_to : (o : Option ℕ) (n : ℕ) → o ≡ Some n → is_at o n ≡ true
at_to o n e = ap (λ o. is_at o n) e ∙ eq-eqb n n refl

units_of-none : (p : ℕ → ℕ → Bool) → ((g k : ℕ) → p g k ≡ true → ⊥) → (lines : List MapLine) → units_of p lines ≡ 0
units_of-none p none [] = refl
units_of-none p none (l ∷ ls) = omega (arith, sum_by-cons (λ (x : MapLine). if p x.group.0 x.place then x.amount else 0) l ls, one (p l.group.0 l.place) l.amount (none l.group.0 l.place), units_of-none p none ls)
  where
    one : (b : Bool) (a : ℕ) → (b ≡ true → ⊥) → (if b then a else 0) ≡ 0
    one true a h = absurd (h refl)
    one false a h = refl

-- units split by a test
units_of-parts : (p q : ℕ → ℕ → Bool) (lines : List MapLine) → units_of p lines ≡ units_of (λ g k. p g k && q g k) lines + units_of (λ g k. p g k && not (q g k)) lines
units_of-parts p q lines = sum_by-add _ _ _ (λ l. one (p l.group.0 l.place) (q l.group.0 l.place) l.amount) lines
  where
    one : (b d : Bool) (a : ℕ) → (if b then a else 0) ≡ (if b && d then a else 0) + (if b && not d then a else 0)
    one true true a = omega arith
    one true false a = omega arith
    one false d a = omega arith

not_is : (b : Bool) → not b ≡ true → b ≡ false
not_is true h = absurd (false≢true h)
not_is false h = refl

module _ (m : Market) (market : IsMarket m) (ours theirs : List MapLine) (c h j size : ℕ) where
  -- the units in question: under c, ranked at least as high as (h, j)
  abbrev counts : ℕ → ℕ → Bool
  counts g k = under_within m c (key_of m h j) g k

  abbrev top : ℕ → ℕ → Option ℕ
  top g k = top_over m theirs c (key_of m h j) g k

  -- under one top node they have at least as many units as we
  under_top : ((g k : ℕ) → pool_of m g k < length m.nodes) → ((n : ℕ) → n < length m.nodes → units_of (counts_at m n) ours ≤ capacity_of m n) → (n : ℕ) → n < length m.nodes
      → units_of (λ g k. counts g k && is_at (top g k) n) ours ≤ units_of (λ g k. counts g k && is_at (top g k) n) theirs
  under_top pools fits n there = elim (cases_Bool (is_at (top_of (is_closed m theirs c (key_of m h j)) (path m n)) n)) [
    | inl t ↦
        let tops : top_of (is_closed m theirs c (key_of m h j)) (path m n) ≡ Some n = at_from (top_of (is_closed m theirs c (key_of m h j)) (path m n)) n t in
        let closed : IsClosed m theirs c (key_of m h j) n = IsClosed-from m theirs c (key_of m h j) n (top_passes (is_closed m theirs c (key_of m h j)) (path m n) n tops).1 in
        let fewer = units_of-le (λ g k. counts g k && is_at (top g k) n) (counts_at m n) (λ g k e. (top_passes (is_closed m theirs c (key_of m h j)) (path m (pool_of m g k)) n (at_from (top g k) n (and_parts (counts g k) (is_at (top g k) n) e).1)).0) ours in
        let parts = units_of-parts (counts_at m n) (λ g k. key_le (key_of m h j) (key_of m g k)) theirs in
        let more = units_of-le (λ g k. counts_at m n g k && not (key_le (key_of m h j) (key_of m g k))) (λ g k. counts g k && is_at (top g k) n) (λ g k e.
        let q = and_parts (counts_at m n g k) (not (key_le (key_of m h j) (key_of m g k))) e in
        and_from (counts g k) (is_at (top g k) n)
        (and_from (counts_at m c g k) (key_le (key_of m g k) (key_of m h j)) (under_trans m market c n (pool_of m g k) (pools g k) closed.below q.0) (key_le_total (key_of m h j) (key_of m g k) (not_is (key_le (key_of m h j) (key_of m g k)) q.1)))
        (at_to (top g k) n (top_below m market (is_closed m theirs c (key_of m h j)) n (pool_of m g k) (pools g k) q.0 tops))) theirs in
        omega (arith, fewer, parts, more, closed.full, closed.above, fits n there)
    | inr f ↦
        let none = units_of-none (λ g k. counts g k && is_at (top g k) n) (λ g k e.
        false≢true (sym f ∙ at_to (top_of (is_closed m theirs c (key_of m h j)) (path m n)) n (top_itself m market (is_closed m theirs c (key_of m h j)) n (pool_of m g k) (pools g k) (at_from (top g k) n (and_parts (counts g k) (is_at (top g k) n) e).1)))) ours in
        omega (arith, none)
  ]

  top_there : ((g k : ℕ) → pool_of m g k < length m.nodes) → (g k : ℕ) → IfSome (top g k) (λ n. n < length m.nodes)
  top_there pools g k = go (top g k) refl
    where
      go : (o : Option ℕ) → top g k ≡ o → IfSome o (λ n. n < length m.nodes)
      go None e = tt
      go (Some n) e = under_there m market n (pool_of m g k) (pools g k) (top_passes (is_closed m theirs c (key_of m h j)) (path m (pool_of m g k)) n e).0

  -- no closed node stands over (h, j), if they have units there
  no_top : 0 < units_of (λ x y. (x == h) && (y == j)) theirs → is_some (top h j) ≡ false
  no_top some = go (top h j) refl
    where
      go : (o : Option ℕ) → top h j ≡ o → is_some o ≡ false
      go None e = refl
      go (Some n) e =
          let p = top_passes (is_closed m theirs c (key_of m h j)) (path m (pool_of m h j)) n e in
          let closed : IsClosed m theirs c (key_of m h j) n = IsClosed-from m theirs c (key_of m h j) n p.1 in
          let more = units_of-le (λ x y. (x == h) && (y == j)) (λ g k. counts_at m n g k && key_le (key_of m h j) (key_of m g k)) (λ x y t.
          let q = and_parts (x == h) (y == j) t in
          let eh : x ≡ h = eqb-true x h q.0 in
          let ej : y ≡ j = eqb-true y j q.1 in
          rw (eh, ej) (and_from (counts_at m n h j) (key_le (key_of m h j) (key_of m h j)) p.0 (key_le_itself (key_of m h j)))) theirs in
          absurd (omega (arith, more, some, closed.above))

  -- They can't have more units than we at an offer that a full node refuses, if every offer of which we have more is refused to them below that node.
  pub no_more : ((g k : ℕ) → pool_of m g k < length m.nodes) → ((n : ℕ) → n < length m.nodes → units_of (counts_at m n) ours ≤ capacity_of m n) → units_of (counts_at m c) theirs ≤ capacity_of m c
      → IsSaturated m ours c (key_of m h j) → counts_at m c h j ≡ true → j < 16 → h * 16 + j < size
      → All (λ l. (l.place < 16) × (l.group.0 * 16 + l.place < size)) ours → All (λ l. (l.place < 16) × (l.group.0 * 16 + l.place < size)) theirs
      → ((g k : ℕ) → counts g k ≡ true → units_of (λ x y. (x == g) && (y == k)) theirs < units_of (λ x y. (x == g) && (y == k)) ours → (n : ℕ) × (is_closed m theirs c (key_of m h j) n ≡ true) × (counts_at m n g k ≡ true))
      → units_of (λ x y. (x == h) && (y == j)) theirs ≤ units_of (λ x y. (x == h) && (y == j)) ours
  no_more pools fits fits_c sat here small within ours_in theirs_in blocked = elim (cases_lt (units_of (λ x y. (x == h) && (y == j)) ours) (units_of (λ x y. (x == h) && (y == j)) theirs)) [
    | inr le ↦ le
    | inl less ↦
        let test : ℕ → ℕ → Bool = λ g k. counts g k && not (is_some (top g k)) in
        let at = h * 16 + j in
        let q : at / 16 ≡ h = omega arith in
        let r : at % 16 ≡ j = omega arith in
        let below = sum-le (λ n. units_of (λ g k. counts g k && is_at (top g k) n) ours) (λ n. units_of (λ g k. counts g k && is_at (top g k) n) theirs) (length m.nodes) 0 (λ n l l'. under_top pools fits n (omega arith)) in
        let ours_some = units_of-by_node counts top (length m.nodes) (top_there pools) ours in
        let theirs_some = units_of-by_node counts top (length m.nodes) (top_there pools) theirs in
        let in_test : test h j ≡ true = and_from (counts h j) (not (is_some (top h j))) (and_from (counts_at m c h j) (key_le (key_of m h j) (key_of m h j)) here (key_le_itself (key_of m h j))) (rw (no_top (omega arith)) refl) in
        let in_test_at : test (at / 16) (at % 16) ≡ true = ap (λ x. test x (at % 16)) q ∙ ap (test h) r ∙ in_test in
        let ours_at : amount_of ours at ≡ units_of (λ x y. (x == h) && (y == j)) ours = ap (λ a. units_of (λ x y. (x == a) && (y == at % 16)) ours) q ∙ ap (λ b. units_of (λ x y. (x == h) && (y == b)) ours) r in
        let theirs_at : amount_of theirs at ≡ units_of (λ x y. (x == h) && (y == j)) theirs = ap (λ a. units_of (λ x y. (x == a) && (y == at % 16)) theirs) q ∙ ap (λ b. units_of (λ x y. (x == h) && (y == b)) theirs) r in
        let rest = sum-lt (λ i. if test (i / 16) (i % 16) then amount_of ours i else 0) (λ i. if test (i / 16) (i % 16) then amount_of theirs i else 0) at size 0
        (λ i l l'. each (test (i / 16) (i % 16)) (amount_of ours i) (amount_of theirs i) (λ t. elim (cases_lt (amount_of theirs i) (amount_of ours i)) [
          | inr le ↦ le
          | inl lt ↦
              let p = and_parts (counts (i / 16) (i % 16)) (not (is_some (top (i / 16) (i % 16)))) t in
              let w = blocked (i / 16) (i % 16) p.0 lt in
              absurd (false≢true (sym (not_is (is_some (top (i / 16) (i % 16))) p.1) ∙ top_some (is_closed m theirs c (key_of m h j)) (path m (pool_of m (i / 16) (i % 16))) w.0 w.2 w.1))
        ]))
        (omega arith) (omega arith) (chosen (test (at / 16) (at % 16)) (amount_of ours at) (amount_of theirs at) in_test_at (omega (arith, ours_at, theirs_at, less))) in
        let ours_rest = units_of-by_offers test size ours ours_in in
        let theirs_rest = units_of-by_offers test size theirs theirs_in in
        let ours_all = units_of-parts counts (λ g k. is_some (top g k)) ours in
        let theirs_all = units_of-parts counts (λ g k. is_some (top g k)) theirs in
        let theirs_le = units_of-le counts (counts_at m c) (λ g k t. (and_parts (counts_at m c g k) (key_le (key_of m g k) (key_of m h j)) t).0) theirs in
        absurd (omega (arith, below, ours_some, theirs_some, rest, ours_rest, theirs_rest, ours_all, theirs_all, theirs_le, sat, fits_c))
  ]
    where
      each : (b : Bool) (x y : ℕ) → (b ≡ true → x ≤ y) → (if b then x else 0) ≤ (if b then y else 0)
      each true x y e = e refl
      each false x y e = omega arith

      chosen : (b : Bool) (x y : ℕ) → b ≡ true → x < y → (if b then x else 0) < (if b then y else 0)
      chosen true x y e l = l
      chosen false x y e l = absurd (false≢true e)
