-- Sums over all offers of an instance, of amounts that are a function of group and place.
use Rattle.std.proofs.Common.{◌≡◌, ℕ, suc, ◌+◌, ◌*◌, ◌/◌, ◌%◌, ◌<◌, ◌≤◌, ◌==◌, Bool, true, false, not, ◌&&◌, nat_lt, if◌then◌else◌, List, [], ◌∷◌, Option, None, Some, All, refl, sym, ap, ◌∙◌, subst, inl, inr, arith}
use Rattle.std.specs.List.{sum_by, range_with_len}
use Rattle.std.specs.Option.{IfSome, is_some}
use Rattle.std.proofs.lemmas.Bool.{and_parts, and_from, cases_Bool, cases_eq, eq-eqb, eqb-true, lt-ltb, ltb-true, ne_eqb, not_from_true, false≢true}
use Rattle.std.proofs.lemmas.List.Sums.{sum_by-cons}
use Rattle.map_model.specs.declared.lines.MapLine.{MapLine}
use Rattle.map_model.specs.Allocation.{amount_at, units_of}
use Rattle.map_model.proofs.Units.{sum_by-add}
use Rattle.best_laws.proofs.Sums.{is_at, sum-le, sum-lt, sum-one, sum-zeros, units_of-by_offers}

-- the sum of the amounts of the offers that pass a test, of 16 for each group
pub total : ℕ → (ℕ → ℕ → Bool) → (ℕ → ℕ → ℕ) → ℕ
total size test f = sum_by (λ i. if test (i / 16) (i % 16) then f (i / 16) (i % 16) else 0) (range_with_len 0 size)

-- units of lines that are all counted are such a sum
pub units-total : (size : ℕ) (test : ℕ → ℕ → Bool) (lines : List MapLine) → All (λ l. (l.place < 16) × (l.group.0 * 16 + l.place < size)) lines → units_of test lines ≡ total size test (amount_at lines)
unfolding total
units-total size test lines within = units_of-by_offers test size lines within

-- an offer is one of them
pub record IsCounted (size g k : ℕ) : Type 0 where
  pub few : k < 16
  pub within : g * 16 + k < size

-- what is true of the number of an offer
at_number : (P : ℕ → ℕ → Type 0) (g k : ℕ) → k < 16 → P g k → P ((g * 16 + k) / 16) ((g * 16 + k) % 16)
at_number P g k few h =
    let q : g ≡ (g * 16 + k) / 16 = omega (arith, few) in
    let r : k ≡ (g * 16 + k) % 16 = omega (arith, few) in
    subst (λ x. P x ((g * 16 + k) % 16)) q (subst (λ x. P g x) r h)

if_le : (b : Bool) (x y : ℕ) → (b ≡ true → x ≤ y) → (if b then x else 0) ≤ (if b then y else 0)
if_le true x y e = e refl
if_le false x y e = omega arith

if_lt : (b : Bool) (x y : ℕ) → b ≡ true → x < y → (if b then x else 0) < (if b then y else 0)
if_lt true x y e l = l
if_lt false x y e l = absurd (false≢true e)

-- larger amounts, larger sum; and strictly, where one is
pub total-le : (size : ℕ) (test : ℕ → ℕ → Bool) (a b : ℕ → ℕ → ℕ) → ((g k : ℕ) → test g k ≡ true → a g k ≤ b g k) → total size test a ≤ total size test b
unfolding total
total-le size test a b each = sum-le _ _ size 0 (λ i l h. if_le (test (i / 16) (i % 16)) (a (i / 16) (i % 16)) (b (i / 16) (i % 16)) (each (i / 16) (i % 16)))

pub total-lt : (size : ℕ) (test : ℕ → ℕ → Bool) (a b : ℕ → ℕ → ℕ) → ((g k : ℕ) → test g k ≡ true → a g k ≤ b g k) → (h j : ℕ) → IsCounted size h j → test h j ≡ true → a h j < b h j → total size test a < total size test b
unfolding total
total-lt size test a b each h j c t less = sum-lt _ _ (h * 16 + j) size 0 (λ i l high. if_le (test (i / 16) (i % 16)) (a (i / 16) (i % 16)) (b (i / 16) (i % 16)) (each (i / 16) (i % 16))) (omega arith) (omega (arith, c.within))
    (at_number (λ x y. (if test x y then a x y else 0) < (if test x y then b x y else 0)) h j c.few (if_lt (test h j) (a h j) (b h j) t less))

-- what a wider test lets through is more
pub total-wider : (size : ℕ) (p q : ℕ → ℕ → Bool) (f : ℕ → ℕ → ℕ) → ((g k : ℕ) → p g k ≡ true → q g k ≡ true) → total size p f ≤ total size q f
unfolding total
total-wider size p q f each = sum-le _ _ size 0 (λ i l h. one (p (i / 16) (i % 16)) (q (i / 16) (i % 16)) (f (i / 16) (i % 16)) (each (i / 16) (i % 16)))
  where
    one : (b c : Bool) (a : ℕ) → (b ≡ true → c ≡ true) → (if b then a else 0) ≤ (if c then a else 0)
    one true true a h = omega arith
    one true false a h = absurd (false≢true (h refl))
    one false c a h = omega arith

-- a sum split by a test
pub total-parts : (size : ℕ) (p q : ℕ → ℕ → Bool) (f : ℕ → ℕ → ℕ) → total size p f ≡ total size (λ g k. p g k && q g k) f + total size (λ g k. p g k && not (q g k)) f
unfolding total
total-parts size p q f = sum_by-add _ _ _ (λ i. one (p (i / 16) (i % 16)) (q (i / 16) (i % 16)) (f (i / 16) (i % 16))) (range_with_len 0 size)
  where
    one : (b d : Bool) (a : ℕ) → (if b then a else 0) ≡ (if b && d then a else 0) + (if b && not d then a else 0)
    one true true a = omega arith
    one true false a = omega arith
    one false d a = omega arith

-- and by what the amounts are made of
pub total-add : (size : ℕ) (test : ℕ → ℕ → Bool) (a b : ℕ → ℕ → ℕ) → total size test (λ g k. a g k + b g k) ≡ total size test a + total size test b
unfolding total
total-add size test a b = sum_by-add _ _ _ (λ i. one (test (i / 16) (i % 16)) (a (i / 16) (i % 16)) (b (i / 16) (i % 16))) (range_with_len 0 size)
  where
    one : (t : Bool) (x y : ℕ) → (if t then x + y else 0) ≡ (if t then x else 0) + (if t then y else 0)
    one true x y = omega arith
    one false x y = omega arith

-- a sum over the first groups and one more
pub total-next : (size n : ℕ) (f : ℕ → ℕ → ℕ) → total size (λ h _. nat_lt h (suc n)) f ≡ total size (λ h _. nat_lt h n) f + total size (λ h _. h == n) f
total-next size n f = omega (
  arith,
  total-parts size (λ h _. nat_lt h (suc n)) (λ h _. h == n) f,
  total-wider size (λ h _. nat_lt h (suc n) && (h == n)) (λ h _. h == n) f (λ h _ e. (and_parts (nat_lt h (suc n)) (h == n) e).1),
  total-wider size (λ h _. h == n) (λ h _. nat_lt h (suc n) && (h == n)) f (λ h _ e. and_from (nat_lt h (suc n)) (h == n) (lt-ltb h (suc n) (omega (arith, eqb-true h n e))) e),
  total-wider size (λ h _. nat_lt h (suc n) && not (h == n)) (λ h _. nat_lt h n) f (λ h _ e. lower h (and_parts (nat_lt h (suc n)) (not (h == n)) e)),
  total-wider size (λ h _. nat_lt h n) (λ h _. nat_lt h (suc n) && not (h == n)) f (λ h _ e. let l = ltb-true h n e in and_from (nat_lt h (suc n)) (not (h == n)) (lt-ltb h (suc n) (omega (arith, l))) (rw (ne_eqb h n (λ same. absurd (omega (arith, l, same)))) refl)),
)
  where
    lower : (h : ℕ) → (nat_lt h (suc n) ≡ true) × (not (h == n) ≡ true) → nat_lt h n ≡ true
    lower h p = elim (cases_eq h n) [
      | inl e ↦ absurd (false≢true (sym (not_from_true (h == n) (eq-eqb h n e)) ∙ p.1))
      | inr ne ↦ lt-ltb h n (omega (arith, ltb-true h (suc n) p.0, ne))
    ]

-- all groups are among the first so many
pub total-within : (count : ℕ) (f : ℕ → ℕ → ℕ) → total (count * 16) (λ _ _. true) f ≤ total (count * 16) (λ h _. nat_lt h count) f
unfolding total
total-within count f = sum-le _ _ (count * 16) 0 (λ i l high. one (nat_lt (i / 16) count) (f (i / 16) (i % 16)) (lt-ltb (i / 16) count (omega (arith, high))))
  where
    one : (t : Bool) (x : ℕ) → t ≡ true → x ≤ (if t then x else 0)
    one true x e = omega arith
    one false x e = absurd (false≢true e)

-- a sum of nothing
pub total-none : (size : ℕ) (test : ℕ → ℕ → Bool) (f : ℕ → ℕ → ℕ) → ((g k : ℕ) → test g k ≡ true → f g k ≡ 0) → total size test f ≡ 0
unfolding total
total-none size test f none = sum-zeros _ size 0 (λ i l. one (test (i / 16) (i % 16)) (f (i / 16) (i % 16)) (none (i / 16) (i % 16)))
  where
    one : (t : Bool) (x : ℕ) → (t ≡ true → x ≡ 0) → (if t then x else 0) ≡ 0
    one true x e = e refl
    one false x e = refl

-- a sum in which one offer alone counts
pub total-only : (size : ℕ) (test : ℕ → ℕ → Bool) (f : ℕ → ℕ → ℕ) (g k : ℕ) → IsCounted size g k → ((h j : ℕ) → (h ≡ g → j ≡ k → ⊥) → test h j ≡ true → f h j ≡ 0) → total size test f ≡ (if test g k then f g k else 0)
unfolding total
total-only size test f g k c none =
    sum-one _ (g * 16 + k) size 0 (λ i ne. one (test (i / 16) (i % 16)) (f (i / 16) (i % 16)) (λ t. none (i / 16) (i % 16) (λ q r. ne (omega (arith, q, r))) t)) (omega arith) (omega (arith, c.within))
    ∙ at_number (λ x y. (if test x y then f x y else 0) ≡ (if test g k then f g k else 0)) g k c.few refl
  where
    one : (t : Bool) (x : ℕ) → (t ≡ true → x ≡ 0) → (if t then x else 0) ≡ 0
    one true x e = e refl
    one false x e = refl

-- the offer is that one
abbrev pub is_offer : ℕ → ℕ → ℕ → ℕ → Bool
is_offer g k h j = (h == g) && (j == k)

pub is_offer-itself : (g k : ℕ) → is_offer g k g k ≡ true
is_offer-itself g k = and_from (g == g) (k == k) (eq-eqb g g refl) (eq-eqb k k refl)

pub is_offer-same : (g k h j : ℕ) → is_offer g k h j ≡ true → (h ≡ g) × (j ≡ k)
is_offer-same g k h j t = let p = and_parts (h == g) (j == k) t in (eqb-true h g p.0, eqb-true j k p.1)

-- the amount of one
pub total-one : (size : ℕ) (f : ℕ → ℕ → ℕ) (g k : ℕ) → IsCounted size g k → total size (is_offer g k) f ≡ f g k
total-one size f g k c =
    total-only size (is_offer g k) f g k c (λ h j apart t. let e = is_offer-same g k h j t in absurd (apart e.0 e.1)) ∙ rw (is_offer-itself g k) refl

-- is among those of a test that it passes
pub total-among : (size : ℕ) (test : ℕ → ℕ → Bool) (f : ℕ → ℕ → ℕ) (g k : ℕ) → IsCounted size g k → test g k ≡ true → f g k ≤ total size test f
total-among size test f g k c t =
    omega (arith, total-one size f g k c, total-wider size (is_offer g k) test f (λ h j e. let p = is_offer-same g k h j e in subst (λ x. test x j ≡ true) (sym p.0) (subst (λ y. test g y ≡ true) (sym p.1) t)))

-- and besides the others
pub total-without : (size : ℕ) (test : ℕ → ℕ → Bool) (f : ℕ → ℕ → ℕ) (g k : ℕ) → IsCounted size g k → test g k ≡ true → total size test f ≡ f g k + total size (λ h j. test h j && not (is_offer g k h j)) f
total-without size test f g k c t =
    let one = total-only size (λ h j. test h j && is_offer g k h j) f g k c (λ h j apart e. let p = is_offer-same g k h j (and_parts (test h j) (is_offer g k h j) e).1 in absurd (apart p.0 p.1)) in
    let value : (if test g k && is_offer g k g k then f g k else 0) ≡ f g k = rw (t, is_offer-itself g k) refl in
    omega (arith, total-parts size test (is_offer g k) f, one, value)

-- one where a test holds
abbrev pub one_if : Bool → ℕ
one_if t = if t then 1 else 0

-- one unit of an offer
abbrev pub unit_of : ℕ → ℕ → ℕ → ℕ → ℕ
unit_of g k h j = one_if (is_offer g k h j)

-- a unit more of it
pub total-more : (size : ℕ) (test : ℕ → ℕ → Bool) (f : ℕ → ℕ → ℕ) (g k : ℕ) → IsCounted size g k → total size test (λ h j. f h j + unit_of g k h j) ≡ total size test f + one_if (test g k)
total-more size test f g k c =
    let one = total-only size test (unit_of g k) g k c (λ h j apart t. elim (cases_Bool (is_offer g k h j)) [
      | inl e ↦ let p = is_offer-same g k h j e in absurd (apart p.0 p.1)
      | inr e ↦ rw e refl
    ]) in
    let value : (if test g k then unit_of g k g k else 0) ≡ one_if (test g k) = rw (is_offer-itself g k) refl in
    omega (arith, total-add size test f (unit_of g k), one, value)

-- a sum split by a function of the offer
pub total-by : (size : ℕ) (test : ℕ → ℕ → Bool) (f : ℕ → ℕ → ℕ) (at : ℕ → ℕ → Option ℕ) (count : ℕ) → ((g k : ℕ) → IfSome (at g k) (λ n. n < count))
    → total size (λ g k. test g k && is_some (at g k)) f ≡ sum_by (λ n. total size (λ g k. test g k && is_at (at g k) n) f) (range_with_len 0 count)
unfolding total
total-by size test f at count small = go (range_with_len 0 size)
  where
    one : (t : Bool) (o : Option ℕ) (x : ℕ) → IfSome o (λ n. n < count) → sum_by (λ n. if t && is_at o n then x else 0) (range_with_len 0 count) ≡ (if t && is_some o then x else 0)
    one false o x s = sum-zeros _ count 0 (λ i l. refl)
    one true None x s = sum-zeros _ count 0 (λ i l. refl)
    one true (Some n) x s = sum-one (λ i. if n == i then x else 0) n count 0 (λ i ne. ap (λ b. if b then x else 0) (ne_eqb n i (λ e. ne (sym e)))) (omega arith) (omega arith) ∙ ap (λ b. if b then x else 0) (eq-eqb n n refl)

    go : (is : List ℕ) → sum_by (λ i. if test (i / 16) (i % 16) && is_some (at (i / 16) (i % 16)) then f (i / 16) (i % 16) else 0) is
        ≡ sum_by (λ n. sum_by (λ i. if test (i / 16) (i % 16) && is_at (at (i / 16) (i % 16)) n then f (i / 16) (i % 16) else 0) is) (range_with_len 0 count)
    go [] = sym (sum-zeros _ count 0 (λ i l. refl))
    go (i ∷ is) =
        let here : ℕ → ℕ = λ n. if test (i / 16) (i % 16) && is_at (at (i / 16) (i % 16)) n then f (i / 16) (i % 16) else 0 in
        let all = sum_by-add (λ n. sum_by (λ i. if test (i / 16) (i % 16) && is_at (at (i / 16) (i % 16)) n then f (i / 16) (i % 16) else 0) (i ∷ is)) here
        (λ n. sum_by (λ i. if test (i / 16) (i % 16) && is_at (at (i / 16) (i % 16)) n then f (i / 16) (i % 16) else 0) is)
        (λ n. sum_by-cons (λ i. if test (i / 16) (i % 16) && is_at (at (i / 16) (i % 16)) n then f (i / 16) (i % 16) else 0) i is) (range_with_len 0 count) in
        omega (
          arith,
          sum_by-cons (λ i. if test (i / 16) (i % 16) && is_some (at (i / 16) (i % 16)) then f (i / 16) (i % 16) else 0) i is,
          all,
          one (test (i / 16) (i % 16)) (at (i / 16) (i % 16)) (f (i / 16) (i % 16)) (small (i / 16) (i % 16)),
          go is,
        )
