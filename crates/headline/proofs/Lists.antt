-- Lists: what is in them, and sums of those that pass a test.
use Rattle.std.proofs.Common.{◌≡◌, ◌⊎◌, inl, inr, ℕ, zero, suc, ◌+◌, ◌<◌, ◌≤◌, Bool, true, false, cond, ◌==◌, if◌then◌else◌, List, [], ◌∷◌, ◌++◌, length, map, filter, sum, sum_by, Contains, slice_index_or, slice_get, find, flat_map, filter_map, Option, None, Some, option_map, refl, ap, sym, subst, ◌∙◌, arith}
use Rattle.std.specs.List.{range_with_len, list_all, cons_option}
use Rattle.std.proofs.lemmas.List.Sums.{sum_by-cons}
use Rattle.std.proofs.lemmas.Option.{slice_get-map, slice_get-get_or, same_Some, none-some}
use Rattle.std.proofs.lemmas.Bool.{and_parts}

-- x is one of these
abbrev pub In : {X : Type 0} → List X → X → Type 0
In [] x = ⊥
In (y ∷ ys) x = (y ≡ x) ⊎ In ys x

pub in_from : {X : Type 0} (xs : List X) (x : X) → Contains xs x → In xs x
in_from [] x (k, l, at) = absurd (omega arith)
in_from (y ∷ ys) x (zero, l, at) = inl at
in_from (y ∷ ys) x (suc k, l, at) = inr (in_from ys x (k, omega arith, at))

pub contains_from : {X : Type 0} (xs : List X) (x : X) → In xs x → Contains xs x
contains_from [] x h = absurd h
contains_from (y ∷ ys) x (inl e) = (zero, omega arith, e)
contains_from (y ∷ ys) x (inr h) = let c = contains_from ys x h in (suc c.0, omega (arith, c.1), c.2)

pub in_map : {X Y : Type 0} (f : X → Y) (xs : List X) (x : X) → In xs x → In (map f xs) (f x)
in_map f [] x h = absurd h
in_map f (y ∷ ys) x (inl e) = inl (ap f e)
in_map f (y ∷ ys) x (inr h) = inr (in_map f ys x h)

pub from_map : {X Y : Type 0} (f : X → Y) (xs : List X) (y : Y) → In (map f xs) y → (x : X) × In xs x × (f x ≡ y)
from_map f [] y h = absurd h
from_map f (x ∷ xs) y (inl e) = (x, inl refl, e)
from_map f (x ∷ xs) y (inr h) = let r = from_map f xs y h in (r.0, inr r.1, r.2)

pub in_left : {X : Type 0} (xs ys : List X) (x : X) → In xs x → In (xs ++ ys) x
in_left [] ys x h = absurd h
in_left (z ∷ zs) ys x (inl e) = inl e
in_left (z ∷ zs) ys x (inr h) = inr (in_left zs ys x h)

pub in_right : {X : Type 0} (xs ys : List X) (x : X) → In ys x → In (xs ++ ys) x
in_right [] ys x h = h
in_right (z ∷ zs) ys x h = inr (in_right zs ys x h)

pub from_append : {X : Type 0} (xs ys : List X) (x : X) → In (xs ++ ys) x → In xs x ⊎ In ys x
from_append [] ys x h = inr h
from_append (z ∷ zs) ys x (inl e) = inl (inl e)
from_append (z ∷ zs) ys x (inr h) = elim (from_append zs ys x h) [ inl a ↦ inl (inr a) | inr b ↦ inr b ]

pub in_flat : {X Y : Type 0} (f : X → List Y) (xs : List X) (x : X) (y : Y) → In xs x → In (f x) y → In (flat_map f xs) y
in_flat f [] x y h i = absurd h
in_flat f (z ∷ zs) x y (inl e) i = in_left (f z) (flat_map f zs) y (subst (λ w. In (f w) y) (sym e) i)
in_flat f (z ∷ zs) x y (inr h) i = in_right (f z) (flat_map f zs) y (in_flat f zs x y h i)

pub from_flat : {X Y : Type 0} (f : X → List Y) (xs : List X) (y : Y) → In (flat_map f xs) y → (x : X) × In xs x × In (f x) y
from_flat f [] y h = absurd h
from_flat f (z ∷ zs) y h = elim (from_append (f z) (flat_map f zs) y h) [
  | inl a ↦ (z, inl refl, a)
  | inr b ↦ let r = from_flat f zs y b in (r.0, inr r.1, r.2)
]

pub in_range : (a n i : ℕ) → a ≤ i → i < a + n → In (range_with_len a n) i
in_range a zero i low high = absurd (omega arith)
in_range a (suc n) i low high = elim (at_or_above a i low) [ inl e ↦ inl e | inr more ↦ inr (in_range (a + 1) n i (omega arith) (omega arith)) ]
  where
    at_or_above : (a i : ℕ) → a ≤ i → (a ≡ i) ⊎ (a < i)
    at_or_above a i low = grind arith

pub from_range : (a n i : ℕ) → In (range_with_len a n) i → (a ≤ i) × (i < a + n)
from_range a zero i h = absurd h
from_range a (suc n) i (inl e) = (omega arith, omega arith)
from_range a (suc n) i (inr h) = let r = from_range (a + 1) n i h in (omega (arith, r.0), omega (arith, r.1))

pub in_kept : {X Y : Type 0} (h : X → Option Y) (xs : List X) (x : X) (y : Y) → In xs x → h x ≡ Some y → In (filter_map h xs) y
in_kept h [] x y i e = absurd i
in_kept h (z ∷ zs) x y (inl same) e = rw (ap h same ∙ e) (inl refl)
in_kept {Y = Y} h (z ∷ zs) x y (inr i) e = later (h z) (in_kept h zs x y i e)
  where
    later : (o : Option Y) → In (filter_map h zs) y → In (cons_option o (filter_map h zs)) y
    later None k = k
    later (Some w) k = inr k

pub from_kept : {X Y : Type 0} (h : X → Option Y) (xs : List X) (y : Y) → In (filter_map h xs) y → (x : X) × In xs x × (h x ≡ Some y)
from_kept h [] y i = absurd i
from_kept {X = X} {Y = Y} h (z ∷ zs) y i = by (λ k. from_kept h zs y k) (h z) refl i
  where
    by : (In (filter_map h zs) y → (x : X) × In zs x × (h x ≡ Some y)) → (o : Option Y) → h z ≡ o → In (cons_option o (filter_map h zs)) y → (x : X) × In (z ∷ zs) x × (h x ≡ Some y)
    by rest None is k = let r = rest k in (r.0, inr r.1, r.2)
    by rest (Some w) is (inl e) = (z, inl refl, is ∙ ap (λ (v : Y). Some v) e)
    by rest (Some w) is (inr k) = let r = rest k in (r.0, inr r.1, r.2)

pub found : {X : Type 0} (test : X → Bool) (xs : List X) (x : X) → find test xs ≡ Some x → In xs x × (test x ≡ true)
found test [] x h = absurd (none-some x h)
found {X = X} test (z ∷ zs) x h = by (λ e. found test zs x e) (test z) refl h
  where
    by : (find test zs ≡ Some x → In zs x × (test x ≡ true)) → (b : Bool) → test z ≡ b → cond b (Some z) (find test zs) ≡ Some x → In (z ∷ zs) x × (test x ≡ true)
    by rest true is e = let same : z ≡ x = same_Some z x e in (inl same, subst (λ (v : X). test v ≡ true) same is)
    by rest false is e = let r = rest e in (inr r.0, r.1)

pub all_in : {X : Type 0} (test : X → Bool) (xs : List X) (x : X) → list_all test xs ≡ true → In xs x → test x ≡ true
all_in test [] x h i = absurd i
all_in test (z ∷ zs) x h (inl e) = subst (λ v. test v ≡ true) e (and_parts _ _ h).0
all_in test (z ∷ zs) x h (inr i) = all_in test zs x (and_parts _ _ h).1 i

-- the sum of those that pass a test
pub sum_kept : {X : Type 0} (f : X → ℕ) (test : X → Bool) (xs : List X) → sum (map f (filter test xs)) ≡ sum_by (λ x. if test x then f x else 0) xs
sum_kept f test [] = refl
sum_kept {X = X} f test (x ∷ xs) = by (sum_kept f test xs) (test x) refl ∙ sym (sum_by-cons (λ (y : X). if test y then f y else 0) x xs)
  where
    by : sum (map f (filter test xs)) ≡ sum_by (λ y. if test y then f y else 0) xs → (b : Bool) → test x ≡ b → sum (map f (cond b (x ∷ filter test xs) (filter test xs))) ≡ (if test x then f x else 0) + sum_by (λ y. if test y then f y else 0) xs
    by rest true is = rw is (sum_by-cons (λ n. n) (f x) (map f (filter test xs)) ∙ ap (λ s. f x + s) rest)
    by rest false is = rw is (omega (arith, rest))

-- what stands at a place of a list that was made one by one
pub got : {X Y : Type 0} (f : X → Y) (xs : List X) (i : ℕ) (d : X) → i < length xs → slice_get (map f xs) i ≡ Some (f (slice_index_or xs i d))
got f xs i d l = slice_get-map f xs i ∙ ap (option_map f) (slice_get-get_or xs i d l)
