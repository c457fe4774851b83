-- Sums over the first numbers, by offers and by nodes.
use Rattle.std.proofs.Common.{◌≡◌, ℕ, zero, suc, ◌+◌, ◌*◌, ◌/◌, ◌%◌, ◌<◌, ◌≤◌, ◌==◌, Bool, true, false, ◌&&◌, if◌then◌else◌, List, [], ◌∷◌, ◌++◌, Option, None, Some, All, refl, sym, ap, ◌∙◌, subst, inl, inr, arith}
use Rattle.std.specs.List.{sum_by, range_with_len}
use Rattle.std.specs.Option.{IfSome, is_some}
use Rattle.std.proofs.lemmas.Bool.{cases_eq, eq-eqb, ne_eqb, eqb-true}
use Rattle.std.proofs.lemmas.List.Sums.{sum_by-cons, sum_by_push}
use Rattle.std.proofs.lemmas.List.Elements.{All-head, All-tail}
use Rattle.map_model.specs.declared.lines.MapLine.{MapLine}
use Rattle.map_model.proofs.Units.{sum_by-add}
use Rattle.map_model.specs.Allocation.{units_of}

-- a sum of zeros
pub sum-zeros : (f : ℕ → ℕ) (n a : ℕ) → ((i : ℕ) → a ≤ i → f i ≡ 0) → sum_by f (range_with_len a n) ≡ 0
sum-zeros f zero a none = refl
sum-zeros f (suc n) a none = omega (arith, sum_by-cons f a (range_with_len (a + 1) n), none a (omega arith), sum-zeros f n (a + 1) (λ i l. none i (omega arith)))

-- a sum with one term
pub sum-one : (f : ℕ → ℕ) (x n a : ℕ) → ((i : ℕ) → (i ≡ x → ⊥) → f i ≡ 0) → a ≤ x → x < a + n → sum_by f (range_with_len a n) ≡ f x
sum-one f x zero a none low high = absurd (omega arith)
sum-one f x (suc n) a none low high = elim (cases_eq a x) [
  | inl e ↦
      let rest = sum-zeros f n (a + 1) (λ i l. none i (λ s. absurd (omega arith))) in
      let same : f a ≡ f x = ap f e in
      omega (arith, sum_by-cons f a (range_with_len (a + 1) n), rest, same)
  | inr ne ↦ omega (arith, sum_by-cons f a (range_with_len (a + 1) n), none a ne, sum-one f x n (a + 1) none (omega arith) (omega arith))
]

-- the first numbers and one more
pub range_more : (a n j : ℕ) → a + n ≡ j → range_with_len a (suc n) ≡ range_with_len a n ++ j ∷ []
range_more a zero j e = let same : a ≡ j = omega (arith, e) in ap (λ k. k ∷ []) same
range_more a (suc n) j e = ap (λ xs. a ∷ xs) (range_more (a + 1) n j (omega (arith, e)))

-- a sum over them with one more
pub sum_more : (f : ℕ → ℕ) (n : ℕ) → sum_by f (range_with_len 0 (n + 1)) ≡ sum_by f (range_with_len 0 n) + f n
sum_more f n =
    let one : n + 1 ≡ suc n = omega arith in
    ap (λ k. sum_by f (range_with_len 0 k)) one ∙ (ap (sum_by f) (range_more 0 n n (omega arith)) ∙ sum_by_push f (range_with_len 0 n) n)

-- larger terms, larger sum; and strictly, where one is
pub sum-le : (f g : ℕ → ℕ) (n a : ℕ) → ((i : ℕ) → a ≤ i → i < a + n → f i ≤ g i) → sum_by f (range_with_len a n) ≤ sum_by g (range_with_len a n)
sum-le f g zero a each = omega arith
sum-le f g (suc n) a each = omega (arith, sum_by-cons f a (range_with_len (a + 1) n), sum_by-cons g a (range_with_len (a + 1) n), each a (omega arith) (omega arith), sum-le f g n (a + 1) (λ i l h. each i (omega arith) (omega arith)))

pub sum-lt : (f g : ℕ → ℕ) (x n a : ℕ) → ((i : ℕ) → a ≤ i → i < a + n → f i ≤ g i) → a ≤ x → x < a + n → f x < g x → sum_by f (range_with_len a n) < sum_by g (range_with_len a n)
sum-lt f g x zero a each low high less = absurd (omega arith)
sum-lt f g x (suc n) a each low high less = elim (cases_eq a x) [
  | inl e ↦
      let here : f a < g a = subst (λ y. f y < g y) (sym e) less in
      omega (arith, sum_by-cons f a (range_with_len (a + 1) n), sum_by-cons g a (range_with_len (a + 1) n), here, sum-le f g n (a + 1) (λ i l h. each i (omega arith) (omega arith)))
  | inr ne ↦ omega (arith, sum_by-cons f a (range_with_len (a + 1) n), sum_by-cons g a (range_with_len (a + 1) n), each a (omega arith) (omega arith), sum-lt f g x n (a + 1) (λ i l h. each i (omega arith) (omega arith)) (omega arith) (omega arith) less)
]

-- the units of the i-th offer, of 16 for each group
abbrev pub amount_of : List MapLine → ℕ → ℕ
amount_of lines i = units_of (λ h j. (h == i / 16) && (j == i % 16)) lines

if_zero : (b : Bool) (z : ℕ) → z ≡ 0 → (if b then z else 0) ≡ 0
if_zero true z e = e
if_zero false z e = refl

split_if : (t u : Bool) (x y z : ℕ) → z ≡ (if u then x else 0) + y → (if t then z else 0) ≡ (if t && u then x else 0) + (if t then y else 0)
split_if true true x y z e = e
split_if true false x y z e = e
split_if false u x y z e = refl

-- the units that pass a test, offer by offer
pub units_of-by_offers : (test : ℕ → ℕ → Bool) (size : ℕ) (lines : List MapLine) → All (λ l. (l.place < 16) × (l.group.0 * 16 + l.place < size)) lines
    → units_of test lines ≡ sum_by (λ i. if test (i / 16) (i % 16) then amount_of lines i else 0) (range_with_len 0 size)
units_of-by_offers test size [] there = sym (sum-zeros _ size 0 (λ i l. if_zero (test (i / 16) (i % 16)) 0 refl))
units_of-by_offers test size (l ∷ ls) there =
    let g = l.group.0 in
    let k = l.place in
    let f : MapLine → ℕ = λ x. if test x.group.0 x.place then x.amount else 0 in
    let here : ℕ → ℕ = λ i. if test (i / 16) (i % 16) && ((g == i / 16) && (k == i % 16)) then l.amount else 0 in
    let rest : ℕ → ℕ = λ i. if test (i / 16) (i % 16) then amount_of ls i else 0 in
    let in_range = All-head (λ l. (l.place < 16) × (l.group.0 * 16 + l.place < size)) l ls there in
    let q : (g * 16 + k) / 16 ≡ g = omega (arith, in_range.0) in
    let r : (g * 16 + k) % 16 ≡ k = omega (arith, in_range.0) in
    let all = sum_by-add (λ i. if test (i / 16) (i % 16) then amount_of (l ∷ ls) i else 0) here rest
    (λ i. split_if (test (i / 16) (i % 16)) ((g == i / 16) && (k == i % 16)) l.amount (amount_of ls i) (amount_of (l ∷ ls) i) (sum_by-cons (λ (x : MapLine). if (x.group.0 == i / 16) && (x.place == i % 16) then x.amount else 0) l ls)) (range_with_len 0 size) in
    let one = sum-one here (g * 16 + k) size 0 (λ i ne. only (test (i / 16) (i % 16)) (g == i / 16) (k == i % 16) l.amount (λ a b. ne (let e : i / 16 ≡ g = sym (eqb-true g (i / 16) a) in let e' : i % 16 ≡ k = sym (eqb-true k (i % 16) b) in omega arith))) (omega arith) (omega (arith, in_range.1)) in
    let at : here (g * 16 + k) ≡ f l = value (test g k) (test ((g * 16 + k) / 16) ((g * 16 + k) % 16)) ((g == (g * 16 + k) / 16) && (k == (g * 16 + k) % 16)) l.amount (ap (λ x. test x ((g * 16 + k) % 16)) q ∙ ap (test g) r) (both (g == (g * 16 + k) / 16) (k == (g * 16 + k) % 16) (eq-eqb g _ (sym q)) (eq-eqb k _ (sym r))) in
    omega (arith, sum_by-cons f l ls, all, one, at, units_of-by_offers test size ls (All-tail (λ l. (l.place < 16) × (l.group.0 * 16 + l.place < size)) l ls there))
  where
    only : (t a b : Bool) (x : ℕ) → (a ≡ true → b ≡ true → ⊥) → (if t && (a && b) then x else 0) ≡ 0
    only true true true x no_way = absurd (no_way refl refl)
    only true true false x no_way = refl
    only true false b x no_way = refl
    only false a b x no_way = refl

    value : (s t u : Bool) (x : ℕ) → t ≡ s → u ≡ true → (if t && u then x else 0) ≡ (if s then x else 0)
    value s true true x e e' = ap (λ b. if b then x else 0) e
    value s false true x e e' = ap (λ b. if b then x else 0) e
    value s t false x e e' = absurd (no_ff e')
      where
        no_ff : false ≡ true → ⊥
        no_ff h = cc

    both : (a b : Bool) → a ≡ true → b ≡ true → (a && b) ≡ true
    both true true h i = refl
    both true false h i = i
    both false b h i = h

-- a function's value is that node
abbrev pub is_at : Option ℕ → ℕ → Bool
is_at None n = false
is_at (Some t) n = t == n

-- units split by a function of the offer into nodes
pub units_of-by_node : (test : ℕ → ℕ → Bool) (node : ℕ → ℕ → Option ℕ) (size : ℕ) → ((g k : ℕ) → IfSome (node g k) (λ n. n < size)) → (lines : List MapLine)
    → units_of (λ g k. test g k && is_some (node g k)) lines ≡ sum_by (λ n. units_of (λ g k. test g k && is_at (node g k) n) lines) (range_with_len 0 size)
units_of-by_node test node size small [] = sym (sum-zeros _ size 0 (λ i l. refl))
units_of-by_node test node size small (l ∷ ls) =
    let here : ℕ → ℕ = λ n. if test l.group.0 l.place && is_at (node l.group.0 l.place) n then l.amount else 0 in
    let all = sum_by-add (λ n. units_of (λ g k. test g k && is_at (node g k) n) (l ∷ ls)) here (λ n. units_of (λ g k. test g k && is_at (node g k) n) ls)
    (λ n. sum_by-cons (λ (x : MapLine). if test x.group.0 x.place && is_at (node x.group.0 x.place) n then x.amount else 0) l ls) (range_with_len 0 size) in
    omega (
      arith,
      sum_by-cons (λ (x : MapLine). if test x.group.0 x.place && is_some (node x.group.0 x.place) then x.amount else 0) l ls,
      all,
      one (test l.group.0 l.place) (node l.group.0 l.place) l.amount (small l.group.0 l.place),
      units_of-by_node test node size small ls,
    )
  where
    one : (t : Bool) (o : Option ℕ) (x : ℕ) → IfSome o (λ n. n < size) → sum_by (λ n. if t && is_at o n then x else 0) (range_with_len 0 size) ≡ (if t && is_some o then x else 0)
    one false o x s = sum-zeros _ size 0 (λ i l. refl)
    one true None x s = sum-zeros _ size 0 (λ i l. refl)
    one true (Some n) x s = sum-one (λ i. if n == i then x else 0) n size 0 (λ i ne. ap (λ b. if b then x else 0) (ne_eqb n i (λ e. ne (sym e)))) (omega arith) (omega arith) ∙ ap (λ b. if b then x else 0) (eq-eqb n n refl)
