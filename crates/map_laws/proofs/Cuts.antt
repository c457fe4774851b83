-- What a cut leaves is determined by what was held and by the new instance.
use Rattle.std.proofs.Common.{◌≡◌, ℕ, zero, suc, ◌+◌, ◌<◌, ◌≤◌, ◌==◌, true, not, ◌&&◌, if◌then◌else◌, List, length, refl, sym, ap, ◌∙◌, subst, inl, inr, arith}
use Rattle.std.proofs.lemmas.Bool.{and_from, and_parts, cases_Bool, cases_lt, cases_order, eq-eqb, eqb-true, false≢true}
use Rattle.map_model.specs.declared.instance.Key.{Key}
use Rattle.map_model.specs.declared.lines.MapLine.{MapLine}
use Rattle.map_model.specs.Market.{Market, IsMarket, capacity_of, key_of, pool_of}
use Rattle.map_model.specs.Allocation.{AreLines, IsOffer, amount_at, counts_at, key_le, load, units_of}
use Rattle.map_model.specs.Holding.{under_within}
use Rattle.map_model.proofs.Keys.{key_le_itself, key_le_trans}
use Rattle.map_model.proofs.Paths.{pool_there}
use Rattle.map_model.proofs.Trees.{under_there}
use Rattle.map_model.proofs.Units.{units_of-le}
use Rattle.evict.specs.Standing.{Standing}
use Rattle.best_laws.proofs.Offers.{offer_one}
use Rattle.reopen.specs.Cutting.{IsCut, IsLeft, IsTrimmed}
use Rattle.reopen.proofs.Removing.{units-without}
use Rattle.map_laws.proofs.Amounts.{units_lt}
use Rattle.map_laws.proofs.Same.{same_lines}

-- of two ways to trim, none leaves more at a place than the other
trimmed_le : (m : Market) → IsMarket m → (old a b : List MapLine) → IsTrimmed m old a → IsTrimmed m old b → (g j : ℕ) → IsOffer m g j → amount_at b g j ≤ amount_at a g j
trimmed_le m market old a b x y g j o = elim (cases_lt (amount_at a g j) (amount_at b g j)) [
  | inr le ↦ le
  | inl less ↦
      let lost : amount_at a g j < amount_at old g j = omega (arith, less, y.fewer (λ h i. (h == g) && (i == j))) in
      let all = units_lt m market (λ h _. h == g) a b x.form y.form (λ h i oh t. each less lost h i oh (eqb-true h g t)) g j o (eq-eqb g g refl) less in
      absurd (omega (arith, all, y.fits g o.group, x.enough g j o lost))
]
  where
    each : amount_at a g j < amount_at b g j → amount_at a g j < amount_at old g j → (h i : ℕ) → IsOffer m h i → h ≡ g → amount_at a h i ≤ amount_at b h i
    each less lost h i oh e =
        let og : IsOffer m g i = subst (λ x. IsOffer m x i) e oh in
        subst (λ x. amount_at a x i ≤ amount_at b x i) (sym e) (elim (cases_lt (amount_at b g i) (amount_at a g i)) [
          | inr le ↦ le
          | inl more ↦
              let gone : amount_at b g i < amount_at old g i = omega (arith, more, x.fewer (λ p q. (p == g) && (q == i))) in
              elim (cases_order i j) [
                | inl at ↦
                    let of_a : amount_at a g i ≡ amount_at a g j = ap (amount_at a g) at in
                    let of_b : amount_at b g i ≡ amount_at b g j = ap (amount_at b g) at in
                    absurd (omega (arith, more, less, of_a, of_b))
                | inr (inl before) ↦ absurd (omega (arith, less, y.last g i j o before gone))
                | inr (inr after) ↦ absurd (omega (arith, more, x.last g j i og after lost))
              ]
        ])

-- trimmed lines are determined
pub trimmed_one : (m : Market) → IsMarket m → (old a b : List MapLine) → IsTrimmed m old a → IsTrimmed m old b → a ≡ b
trimmed_one m market old a b x y = same_lines m market a b x.form y.form (λ g k o. omega (arith, trimmed_le m market old a b x y g k o, trimmed_le m market old b a y x g k o))

-- the units ranked at least as high as an offer
abbrev pub weight : Market → List MapLine → ℕ → ℕ → ℕ
weight m all g k = units_of (λ h j. key_le (key_of m h j) (key_of m g k)) all

-- there are fewer of a better offer, where the other has some
weight_lt : (m : Market) → IsMarket m → (all : List MapLine) (g k h j : ℕ) → IsOffer m g k → IsOffer m h j → key_le (key_of m h j) (key_of m g k) ≡ true → ((h ≡ g) × (j ≡ k) → ⊥) → 0 < amount_at all g k → weight m all h j < weight m all g k
weight_lt m market all g k h j o p le apart some =
    let here : (if key_le (key_of m g k) (key_of m g k) then amount_at all g k else 0) ≡ amount_at all g k = rw (key_le_itself (key_of m g k)) refl in
    let rest = units_of-le (λ x y. key_le (key_of m x y) (key_of m h j)) (λ x y. key_le (key_of m x y) (key_of m g k) && not ((x == g) && (y == k))) (λ x y t. each x y t) all in
    omega (arith, units-without (λ x y. key_le (key_of m x y) (key_of m g k)) all g k, here, rest, some)
  where
    each : (x y : ℕ) → key_le (key_of m x y) (key_of m h j) ≡ true → (key_le (key_of m x y) (key_of m g k) && not ((x == g) && (y == k))) ≡ true
    each x y t = and_from (key_le (key_of m x y) (key_of m g k)) (not ((x == g) && (y == k))) (key_le_trans (key_of m x y) (key_of m h j) (key_of m g k) t le) (elim (cases_Bool ((x == g) && (y == k))) [
      | inr e ↦ rw e refl
      | inl e ↦
          let q = and_parts (x == g) (y == k) e in
          let keys : key_of m x y ≡ key_of m g k = ap (λ z. key_of m z y) (eqb-true x g q.0) ∙ ap (key_of m g) (eqb-true y k q.1) in
          absurd (apart (offer_one m market h j g k p o le (subst (λ z. key_le z (key_of m h j) ≡ true) keys t)))
    ])

-- Of two leavings that agree at better offers, none has more at an offer than the other.
left_le : (m : Market) → IsMarket m → (all a b : List MapLine) → AreLines m a → AreLines m b → IsLeft m all a → IsLeft m all b → ((n : ℕ) → n < length m.nodes → load m b n ≤ capacity_of m n)
    → (g k : ℕ) → IsOffer m g k → ((h j : ℕ) → IsOffer m h j → weight m all h j < weight m all g k → amount_at a h j ≡ amount_at b h j) → amount_at b g k ≤ amount_at a g k
left_le m market all a b form_a form_b x y fits g k o same = elim (cases_lt (amount_at a g k) (amount_at b g k)) [
  | inr le ↦ le
  | inl less ↦
      let had : amount_at b g k ≤ amount_at all g k = y.fewer (λ h j. (h == g) && (j == k)) in
      let t = x.turned g k o (omega (arith, less, had)) in
      let n : ℕ = t.0 in
      let key : Key = key_of m g k in
      let there = under_there m market n (pool_of m g k) (pool_there m market g k o) t.1 in
      let saturated : capacity_of m n ≤ units_of (under_within m n key) a = t.2 in
      let more = units_lt m market (under_within m n key) a b form_a form_b (λ h j p w. each n less (omega (arith, less, had)) h j p (and_parts (counts_at m n h j) (key_le (key_of m h j) key) w).1) g k o
      (and_from (counts_at m n g k) (key_le key key) t.1 (key_le_itself key)) less in
      let within = units_of-le (under_within m n key) (counts_at m n) (λ h j w. (and_parts (counts_at m n h j) (key_le (key_of m h j) key) w).0) b in
      absurd (omega (arith, saturated, more, within, fits n there))
]
  where
    each : (n : ℕ) → amount_at a g k < amount_at b g k → 0 < amount_at all g k → (h j : ℕ) → IsOffer m h j → key_le (key_of m h j) (key_of m g k) ≡ true → amount_at a h j ≤ amount_at b h j
    each n less some h j p le = elim (cases_Bool ((h == g) && (j == k))) [
      | inl e ↦
          let q = and_parts (h == g) (j == k) e in
          let of_a : amount_at a h j ≡ amount_at a g k = ap (λ z. amount_at a z j) (eqb-true h g q.0) ∙ ap (amount_at a g) (eqb-true j k q.1) in
          let of_b : amount_at b h j ≡ amount_at b g k = ap (λ z. amount_at b z j) (eqb-true h g q.0) ∙ ap (amount_at b g) (eqb-true j k q.1) in
          omega (arith, less, of_a, of_b)
      | inr e ↦ omega (arith, same h j p (weight_lt m market all g k h j o p le (λ q. false≢true (sym e ∙ and_from (h == g) (j == k) (eq-eqb h g q.0) (eq-eqb j k q.1))) some))
    ]

left_up_to : (m : Market) → IsMarket m → (all a b : List MapLine) → AreLines m a → AreLines m b → IsLeft m all a → IsLeft m all b → ((n : ℕ) → n < length m.nodes → load m a n ≤ capacity_of m n) → ((n : ℕ) → n < length m.nodes → load m b n ≤ capacity_of m n)
    → (most g k : ℕ) → IsOffer m g k → weight m all g k < most → amount_at a g k ≡ amount_at b g k
left_up_to m market all a b form_a form_b x y fits_a fits_b zero g k o low = absurd (omega (arith, low))
left_up_to m market all a b form_a form_b x y fits_a fits_b (suc most) g k o low =
    omega (
      arith,
      left_le m market all a b form_a form_b x y fits_b g k o (λ h j p less. left_up_to m market all a b form_a form_b x y fits_a fits_b most h j p (omega (arith, less, low))),
      left_le m market all b a form_b form_a y x fits_a g k o (λ h j p less. sym (left_up_to m market all a b form_a form_b x y fits_a fits_b most h j p (omega (arith, less, low)))),
    )

-- units that are left within the capacities are determined
pub left_one : (m : Market) → IsMarket m → (all a b : List MapLine) → AreLines m a → AreLines m b → IsLeft m all a → IsLeft m all b → ((n : ℕ) → n < length m.nodes → load m a n ≤ capacity_of m n) → ((n : ℕ) → n < length m.nodes → load m b n ≤ capacity_of m n) → a ≡ b
left_one m market all a b form_a form_b x y fits_a fits_b = same_lines m market a b form_a form_b (λ g k o. left_up_to m market all a b form_a form_b x y fits_a fits_b (weight m all g k + 1) g k o (omega arith))

-- what a cut leaves is determined by what was held
pub cut_one : (m : Market) → IsMarket m → (s t a b : Standing) → s.lines ≡ t.lines → IsCut m s a → IsCut m t b → a.lines ≡ b.lines
cut_one m market s t a b same x y =
    let trimmed : x.trimmed.0 ≡ y.trimmed.0 = trimmed_one m market t.lines x.trimmed.0 y.trimmed.0 (subst (λ (ls : List MapLine). IsTrimmed m ls x.trimmed.0) same x.trimmed.1) y.trimmed.1 in
    left_one m market y.trimmed.0 a.lines b.lines x.less.form y.less.form (subst (λ (ls : List MapLine). IsLeft m ls a.lines) trimmed x.trimmed.2) y.trimmed.2 x.capacities y.capacities
