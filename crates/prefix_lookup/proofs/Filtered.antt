-- The blocks of a table's prefixes of a family, one after the other.
use Rattle.std.proofs.Common.{◌≡◌, ℕ, zero, suc, ◌+◌, ◌<◌, Bool, true, false, List, [], ◌∷◌, ◌++◌, length, get_or, take, cond, Option, None, Some, refl, sym, ap, subst, ◌∙◌, arith}
use Rattle.std.specs.Prelude.{All, IfSome, Contains, is_some}
use Rattle.std.specs.List.{count_by, filter_map, cons_option}
use Rattle.std.specs.Option.{option_to_list}
use Rattle.std.proofs.lemmas.List.{append-nil, take_more}
use Rattle.std.proofs.lemmas.List.Elements.{filter_map-append, All-push}
use Rattle.std.proofs.lemmas.List.Recursion.{is_count_by}

one_given : {Y : Type 0} (o : Option Y) → cons_option o [] ≡ option_to_list o
one_given None = refl
one_given (Some y) = refl

-- what is given of the next item comes to the end
pub next_given : {X Y : Type 0} (h : X → Option Y) (xs : List X) (i : ℕ) (d : X) → i < length xs → filter_map h (take (i + 1) xs) ≡ filter_map h (take i xs) ++ option_to_list (h (get_or xs i d))
next_given {X} {Y} h xs i d lt = ap (filter_map h) (take_more xs i d lt) ∙ filter_map-append h (take i xs) (get_or xs i d ∷ []) ∙ ap (λ (ys : List Y). filter_map h (take i xs) ++ ys) (one_given (h (get_or xs i d)))

pub all_with : {Y : Type 0} (P : Y → Type 0) (ys : List Y) (o : Option Y) → All P ys → IfSome o P → All P (ys ++ option_to_list o)
all_with {Y} P ys None all one = subst (All P) (sym (append-nil ys)) all
all_with P ys (Some y) all one = All-push P ys y all one

counted : {Y : Type 0} (o : Option Y) (b : Bool) (ys : List Y) → is_some o ≡ b → length (cons_option o ys) ≡ cond b (1 + length ys) (length ys)
counted None true ys e = absurd cc
counted None false ys e = refl
counted (Some y) true ys e = omega arith
counted (Some y) false ys e = absurd cc

-- as many are given as there are items of which one is given
pub how_many : {X Y : Type 0} (h : X → Option Y) (p : X → Bool) → ((x : X) → is_some (h x) ≡ p x) → (xs : List X) → length (filter_map h xs) ≡ count_by p xs
how_many h p same = is_count_by (λ xs. length (filter_map h xs)) p refl (λ x xs. counted (h x) (p x) (filter_map h xs) (same x))

given_first : {Y : Type 0} (o : Option Y) (y : Y) (ys : List Y) → o ≡ Some y → Contains (cons_option o ys) y
given_first None y ys e = absurd cc
given_first (Some z) y ys e = let same : z ≡ y = cc in (0, omega arith, same)

given_later : {Y : Type 0} (o : Option Y) (y : Y) (ys : List Y) → Contains ys y → Contains (cons_option o ys) y
given_later None y ys c = c
given_later (Some z) y ys c = (suc c.0, omega (arith, c.1), c.2)

-- what is given of an item is among what is given
pub given : {X Y : Type 0} (h : X → Option Y) (xs : List X) (x : X) (y : Y) → Contains xs x → h x ≡ Some y → Contains (filter_map h xs) y
given h [] x y c e = absurd (omega (arith, c.1))
given h (z ∷ zs) x y (zero, lt, is) e = given_first (h z) y (filter_map h zs) (ap h is ∙ e)
given h (z ∷ zs) x y (suc k, lt, is) e = given_later (h z) y (filter_map h zs) (given h zs x y (k, omega arith, is) e)

given_of : {X Y : Type 0} (h : X → Option Y) (P : Y → Type 0) (x : X) (o : Option Y) (ys : List Y) → h x ≡ o → ((y : Y) → h x ≡ Some y → P y) → All P ys → All P (cons_option o ys)
given_of h P x None ys e one all = all
given_of {Y = Y} h P x (Some y) ys e one all = by
  where
    by : (k : ℕ) (d : Y) → k < length (y ∷ ys) → P (get_or (y ∷ ys) k d)
    by zero d lt = one y e
    by (suc k) d lt = all k d (omega arith)

-- what holds of all that is given of an item holds of all that is given
pub all_given : {X Y : Type 0} (h : X → Option Y) (P : Y → Type 0) (xs : List X) → ((x : X) (y : Y) → Contains xs x → h x ≡ Some y → P y) → All P (filter_map h xs)
all_given h P [] each = λ k d lt. absurd (omega arith)
all_given h P (x ∷ xs) each = given_of h P x (h x) (filter_map h xs) refl (λ y e. each x y (0, omega arith, refl) e) (all_given h P xs (λ z y c e. each z y (suc c.0, omega (arith, c.1), c.2) e))
