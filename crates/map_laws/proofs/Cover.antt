-- A map has no more than another where it has no more under some nodes, and whatever it has more of hangs under one of these.
use Rattle.std.proofs.Common.{◌≡◌, ℕ, ◌<◌, ◌≤◌, Bool, true, false, not, ◌&&◌, length, Option, None, Some, refl, sym, ap, ◌∙◌, inl, inr, arith}
use Rattle.std.specs.Option.{IfSome, is_some}
use Rattle.std.proofs.lemmas.Bool.{and_parts, and_from, cases_Bool, cases_lt, eq-eqb, eqb-true, false≢true, not-true}
use Rattle.map_model.specs.Market.{Market, IsMarket, path, pool_of}
use Rattle.map_model.specs.Allocation.{counts_at}
use Rattle.map_model.proofs.Trees.{under_there}
use Rattle.best_laws.specs.Tops.{top_of}
use Rattle.best_laws.proofs.Sums.{is_at, sum-le}
use Rattle.best_laws.proofs.Tops.{top_below, top_itself, top_passes, top_some}
use Rattle.map_laws.proofs.Totals.{IsCounted, total, total-by, total-le, total-lt, total-none, total-parts, total-wider}

at_from : (o : Option ℕ) (n : ℕ) → is_at o n ≡ true → o ≡ Some n
at_from None n h = absurd (false≢true h)
at_from (Some t) n h = ap Some (eqb-true t n h)

at_to : (o : Option ℕ) (n : ℕ) → o ≡ Some n → is_at o n ≡ true
at_to o n e = ap (λ o. is_at o n) e ∙ eq-eqb n n refl

module _ (m : Market) (market : IsMarket m) (pools : (g k : ℕ) → pool_of m g k < length m.nodes) (size : ℕ) (test : ℕ → ℕ → Bool) (some : ℕ → Bool) (a b : ℕ → ℕ → ℕ) where
  abbrev top : ℕ → ℕ → Option ℕ
  top g k = top_of some (path m (pool_of m g k))

  -- no more under each of those nodes
  abbrev pub NoMoreUnder : Type 0
  NoMoreUnder = (n : ℕ) → some n ≡ true → total size (λ g k. test g k && counts_at m n g k) a ≤ total size (λ g k. test g k && counts_at m n g k) b

  -- what there is more of hangs under one
  abbrev pub HangsUnder : Type 0
  HangsUnder = (g k : ℕ) → test g k ≡ true → b g k < a g k → (n : ℕ) × (some n ≡ true) × (counts_at m n g k ≡ true)

  top_there : (g k : ℕ) → IfSome (top g k) (λ n. n < length m.nodes)
  top_there g k = go (top g k) refl
    where
      go : (o : Option ℕ) → top g k ≡ o → IfSome o (λ n. n < length m.nodes)
      go None e = tt
      go (Some n) e = under_there m market n (pool_of m g k) (pools g k) (top_passes some (path m (pool_of m g k)) n e).0

  -- under one topmost node there is no more
  at_top : NoMoreUnder → (n : ℕ) → total size (λ g k. test g k && is_at (top g k) n) a ≤ total size (λ g k. test g k && is_at (top g k) n) b
  at_top under n = elim (cases_Bool (is_at (top_of some (path m n)) n)) [
    | inl t ↦
        let tops : top_of some (path m n) ≡ Some n = at_from (top_of some (path m n)) n t in
        let fewer = total-wider size (λ g k. test g k && is_at (top g k) n) (λ g k. test g k && counts_at m n g k) a (λ g k e.
        let p = and_parts (test g k) (is_at (top g k) n) e in
        and_from (test g k) (counts_at m n g k) p.0 (top_passes some (path m (pool_of m g k)) n (at_from (top g k) n p.1)).0) in
        let more = total-wider size (λ g k. test g k && counts_at m n g k) (λ g k. test g k && is_at (top g k) n) b (λ g k e.
        let p = and_parts (test g k) (counts_at m n g k) e in
        and_from (test g k) (is_at (top g k) n) p.0 (at_to (top g k) n (top_below m market some n (pool_of m g k) (pools g k) p.1 tops))) in
        omega (arith, fewer, more, under n (top_passes some (path m n) n tops).1)
    | inr f ↦
        let none = total-none size (λ g k. test g k && is_at (top g k) n) a (λ g k e.
        absurd (false≢true (sym f ∙ at_to (top_of some (path m n)) n (top_itself m market some n (pool_of m g k) (pools g k) (at_from (top g k) n (and_parts (test g k) (is_at (top g k) n) e).1))))) in
        omega (arith, none)
  ]

  -- nor is there under all of them
  at_tops : NoMoreUnder → total size (λ g k. test g k && is_some (top g k)) a ≤ total size (λ g k. test g k && is_some (top g k)) b
  at_tops under = omega (
    arith,
    total-by size test a top (length m.nodes) top_there,
    total-by size test b top (length m.nodes) top_there,
    sum-le (λ n. total size (λ g k. test g k && is_at (top g k) n) a) (λ n. total size (λ g k. test g k && is_at (top g k) n) b) (length m.nodes) 0 (λ n l h. at_top under n),
  )

  -- of what hangs under none there is no more
  outside : HangsUnder → (g k : ℕ) → (test g k && not (is_some (top g k))) ≡ true → a g k ≤ b g k
  outside hangs g k e = elim (cases_lt (b g k) (a g k)) [
    | inr le ↦ le
    | inl more ↦
        let p = and_parts (test g k) (not (is_some (top g k))) e in
        let w = hangs g k p.0 more in
        absurd (false≢true (sym (not-true (is_some (top g k)) p.1) ∙ top_some some (path m (pool_of m g k)) w.0 w.2 w.1))
  ]

  pub covered : NoMoreUnder → HangsUnder → total size test a ≤ total size test b
  covered under hangs = omega (
    arith,
    total-parts size test (λ g k. is_some (top g k)) a,
    total-parts size test (λ g k. is_some (top g k)) b,
    at_tops under,
    total-le size (λ g k. test g k && not (is_some (top g k))) a b (outside hangs),
  )

  -- and less, if there is less of an offer that hangs under none
  pub covered_less : NoMoreUnder → HangsUnder → (h j : ℕ) → IsCounted size h j → test h j ≡ true → a h j < b h j → ((n : ℕ) → some n ≡ true → counts_at m n h j ≡ true → ⊥) → total size test a < total size test b
  covered_less under hangs h j counted t less apart =
      let free : is_some (top h j) ≡ false = go (top h j) refl in
      omega (
        arith,
        total-parts size test (λ g k. is_some (top g k)) a,
        total-parts size test (λ g k. is_some (top g k)) b,
        at_tops under,
        total-lt size (λ g k. test g k && not (is_some (top g k))) a b (outside hangs) h j counted (and_from (test h j) (not (is_some (top h j))) t (rw free refl)) less,
      )
    where
      go : (o : Option ℕ) → top h j ≡ o → is_some o ≡ false
      go None e = refl
      go (Some n) e = let p = top_passes some (path m (pool_of m h j)) n e in absurd (apart n p.1 p.0)
