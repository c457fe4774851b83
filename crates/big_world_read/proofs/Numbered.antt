-- Lists that are made number by number, and what nothing is found in.
use Rattle.std.proofs.Common.{◌≡◌, ℕ, zero, suc, ◌+◌, ◌≤◌, ◌<◌, Bool, false, List, [], ◌∷◌, ◌++◌, map, None, Some, if◌then◌else◌, refl, ap, ◌∙◌, arith}
use Rattle.std.specs.List.{AllByRecursion, cons_option, flat_map, range_with_len}
use Rattle.toml.specs.Data.{Data}
use Rattle.topology_text.specs.Walk.{items_from, items_where, list_of}
use Rattle.topology_text.specs.declared.schema.At.TheVariants.{Item}
use Rattle.big_world.specs.World.{array_of}

-- the items of an array are those that it was made of
pub listed_again : (ds : List Data) → list_of (array_of ds) ≡ ds
listed_again [] = refl
listed_again (d ∷ ds) = ap (λ (xs : List Data). d ∷ xs) (listed_again ds)

-- nothing and nothing is nothing
pub both_empty : {A : Type 0} (xs ys : List A) → xs ≡ [] → ys ≡ [] → xs ++ ys ≡ []
both_empty {A} xs ys p q = ap (λ (zs : List A). zs ++ ys) p ∙ q

pub map_empty : {A B : Type 0} (f : A → B) (xs : List A) → xs ≡ [] → map f xs ≡ []
map_empty {A} f xs p = ap (λ (zs : List A). map f zs) p

-- nothing in each is nothing in all
pub flat_empty : {X A : Type 0} (f : X → List A) (xs : List X) → AllByRecursion (λ x. f x ≡ []) xs → flat_map f xs ≡ []
flat_empty f [] h = refl
flat_empty f (x ∷ xs) h = both_empty (f x) (flat_map f xs) h.0 (flat_empty f xs h.1)

-- what holds at each number
pub all_range : {X : Type 0} (P : X → Type 0) (g : ℕ → X) (a k : ℕ) → ((p : ℕ) → a ≤ p → p < a + k → P (g p)) → AllByRecursion P (map g (range_with_len a k))
all_range P g a zero h = tt
all_range P g a (suc k) h = (h a (omega arith) (omega arith), all_range P g (a + 1) k (λ p l u. h p (omega arith) (omega arith)))

-- what holds of the elements of two lists
pub all_append : {X : Type 0} (P : X → Type 0) (xs ys : List X) → AllByRecursion P xs → AllByRecursion P ys → AllByRecursion P (xs ++ ys)
all_append P [] ys h g = g
all_append P (x ∷ xs) ys h g = (h.0, all_append P xs ys h.1 g)

-- no item passes a test
pub none_from : (test : Data → Bool) (i : ℕ) (ds : List Data) → AllByRecursion (λ d. test d ≡ false) ds → items_from test i ds ≡ []
none_from test i [] h = refl
none_from test i (d ∷ ds) h = ap (λ (b : Bool). cons_option (if b then Some (Item i) else None) (items_from test (i + 1) ds)) h.0 ∙ none_from test (i + 1) ds h.1

pub none_where : (test : Data → Bool) (ds : List Data) → AllByRecursion (λ d. test d ≡ false) ds → items_where test (list_of (array_of ds)) ≡ []
none_where test ds h = ap (λ (xs : List Data). items_where test xs) (listed_again ds) ∙ none_from test 0 ds h
