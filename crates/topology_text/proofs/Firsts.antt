-- The first of what is found along a list.
use Rattle.std.proofs.Common.{◌≡◌, ℕ, ◌+◌, ◌<◌, ◌≤◌, List, [], ◌∷◌, ◌++◌, length, get_or, drop, map, None, Some, option_map, refl, ap, sym, ◌∙◌}
use Rattle.std.proofs.lemmas.List.{drop_more, drop_all}
use Rattle.std.specs.List.{flat_map}
use Rattle.topology_text.specs.Walk.{first}

pub first-none : {A : Type 0} (xs ys : List A) → first xs ≡ None → first (xs ++ ys) ≡ first ys
first-none [] ys h = refl
first-none (x ∷ xs) ys h = cc

pub first-some : {A : Type 0} (xs ys : List A) (x : A) → first xs ≡ Some x → first (xs ++ ys) ≡ Some x
first-some [] ys x h = cc
first-some (y ∷ xs) ys x h = h

pub first-map : {A B : Type 0} (f : A → B) (xs : List A) → first (map f xs) ≡ option_map f (first xs)
first-map f [] = refl
first-map f (x ∷ xs) = refl

-- nothing at an element: go on with those after it
pub first_on : {X A : Type 0} (f : X → List A) (xs : List X) (i : ℕ) (d : X) → i < length xs → first (f (get_or xs i d)) ≡ None
    → first (flat_map f (drop i xs)) ≡ first (flat_map f (drop (i + 1) xs))
first_on f xs i d h none = rw (drop_more xs i d h) (first-none (f (get_or xs i d)) _ none)

-- the same where the elements are seen through a view
pub first_on_view : {W X A : Type 0} (v : W → X) (f : X → List A) (xs : List W) (i : ℕ) (d : W) → i < length xs → first (f (v (get_or xs i d))) ≡ None
    → first (flat_map f (map v (drop i xs))) ≡ first (flat_map f (map v (drop (i + 1) xs)))
first_on_view v f xs i d h none = rw (drop_more xs i d h) (first-none (f (v (get_or xs i d))) _ none)

pub first_here_view : {W X A : Type 0} (v : W → X) (f : X → List A) (xs : List W) (i : ℕ) (d : W) (x : A) → i < length xs → first (f (v (get_or xs i d))) ≡ Some x
    → first (flat_map f (map v (drop i xs))) ≡ Some x
first_here_view v f xs i d x h some = rw (drop_more xs i d h) (first-some (f (v (get_or xs i d))) _ x some)

pub firsts_end_view : {W X A : Type 0} (v : W → X) (f : X → List A) (xs : List W) (i : ℕ) → length xs ≤ i → first (flat_map f (map v (drop i xs))) ≡ first (flat_map f (map v xs)) → None ≡ first (flat_map f (map v xs))
firsts_end_view v f xs i e h = sym (ap (λ ys. first (flat_map f (map v ys))) (drop_all i xs e)) ∙ h
