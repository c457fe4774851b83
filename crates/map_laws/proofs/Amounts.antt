-- From amounts at offers to sums, and back.
use Rattle.std.proofs.Common.{◌≡◌, ℕ, zero, suc, ◌+◌, ◌*◌, ◌/◌, ◌%◌, ◌<◌, ◌≤◌, ◌==◌, Bool, ◌&&◌, true, nat_lt, if◌then◌else◌, List, length, All, refl, ap, ◌∙◌, inl, inr, arith}
use Rattle.std.proofs.lemmas.Bool.{cases_Bool, cases_lt}
use Rattle.std.proofs.lemmas.Bool.Decides.{nat_tests}
use Rattle.map_model.specs.declared.lines.MapLine.{MapLine}
use Rattle.map_model.specs.Market.{Market, IsMarket}
use Rattle.map_model.specs.Allocation.{AreLines, IsOffer, amount_at, placed_through, units_of}
use Rattle.map_model.proofs.MapForm.{few_places, offers-AreLines}
use Rattle.map_model.proofs.Units.{none-units, placed_below, placed_through-below, placed_through-split}
use Rattle.best_laws.proofs.Offers.{held_offer}
use Rattle.best_laws.proofs.Sums.{amount_of, sum-lt, units_of-by_offers}

-- each line is one of 16 offers for each group
in_range : (m : Market) → IsMarket m → (lines : List MapLine) → AreLines m lines → All (λ l. (l.place < 16) × (l.group.0 * 16 + l.place < length m.groups * 16)) lines
in_range m market lines form i d l =
    let o = offers-AreLines m lines form i d l in
    let few = few_places m market _ _ o in
    (few, omega (arith, few, o.group))

-- where each offer of a test has no more in one map than in another, and one has less, so have all of them together
pub units_lt : (m : Market) → IsMarket m → (test : ℕ → ℕ → Bool) (a b : List MapLine) → AreLines m a → AreLines m b
    → ((g k : ℕ) → IsOffer m g k → test g k ≡ true → amount_at a g k ≤ amount_at b g k) → (h j : ℕ) → IsOffer m h j → test h j ≡ true → amount_at a h j < amount_at b h j → units_of test a < units_of test b
units_lt m market test a b form_a form_b each h j o t less =
    let size : ℕ = length m.groups * 16 in
    let few = few_places m market h j o in
    let all = sum-lt (λ i. if test (i / 16) (i % 16) then amount_of a i else 0) (λ i. if test (i / 16) (i % 16) then amount_of b i else 0) (h * 16 + j) size 0 (λ i low high. at (i / 16) (i % 16)) (omega arith) (omega (arith, few, o.group))
    (omega (arith, value few a, value few b, less)) in
    omega (arith, all, units_of-by_offers test size a (in_range m market a form_a), units_of-by_offers test size b (in_range m market b form_b))
  where
    at : (g k : ℕ) → (if test g k then amount_at a g k else 0) ≤ (if test g k then amount_at b g k else 0)
    at g k = elim (cases_Bool (test g k)) [
      | inr e ↦ rw e (omega arith)
      | inl e ↦ rw e (elim (cases_lt 0 (amount_at a g k)) [
        | inr none ↦ omega (arith, none)
        | inl some ↦ each g k (held_offer m a g k (offers-AreLines m a form_a) some) e
      ])
    ]

    value : j < 16 → (lines : List MapLine) → (if test ((h * 16 + j) / 16) ((h * 16 + j) % 16) then amount_of lines (h * 16 + j) else 0) ≡ amount_at lines h j
    value few lines =
        let q : (h * 16 + j) / 16 ≡ h = omega (arith, few) in
        let r : (h * 16 + j) % 16 ≡ j = omega (arith, few) in
        let there : (if test h j then amount_at lines h j else 0) ≡ amount_at lines h j = rw t refl in
        ap (λ x. if test x ((h * 16 + j) % 16) then amount_at lines x ((h * 16 + j) % 16) else 0) q ∙ ap (λ x. if test h x then amount_at lines h x else 0) r ∙ there

-- what is the same up to each place is the same at each
pub same_amounts : (m : Market) (a b : List MapLine) → ((g k : ℕ) → IsOffer m g k → placed_through a g k ≡ placed_through b g k) → (g k : ℕ) → IsOffer m g k → amount_at a g k ≡ amount_at b g k
same_amounts m a b same g zero o =
    let none_a = none-units (λ h j. (h == g) && nat_lt j 0) a (λ h j. grind (arith, nat_tests)) in
    let none_b = none-units (λ h j. (h == g) && nat_lt j 0) b (λ h j. grind (arith, nat_tests)) in
    omega (arith, placed_through-split a g 0, placed_through-split b g 0, none_a, none_b, same g 0 o)
same_amounts m a b same g (suc k) o =
    let next : k + 1 ≡ suc k = omega arith in
    let of_a : placed_below a g (k + 1) ≡ placed_below a g (suc k) = ap (placed_below a g) next in
    let of_b : placed_below b g (k + 1) ≡ placed_below b g (suc k) = ap (placed_below b g) next in
    omega (
      arith,
      placed_through-split a g (suc k),
      placed_through-split b g (suc k),
      placed_through-below a g k,
      placed_through-below b g k,
      of_a,
      of_b,
      same g (suc k) o,
      same g k (record { group = o.group; place = omega (arith, o.place) }),
    )
