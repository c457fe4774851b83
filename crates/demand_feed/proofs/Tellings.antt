-- What is told after one call and another.
use Rattle.std.proofs.Common.{◌≡◌, ℕ, ◌+◌, List, [], ◌∷◌, ◌++◌, length, length-append, append-nil, ap, ◌∙◌}
use Rattle.std.specs.Prelude.{Option, None, Some}
use Rattle.std.specs.List.{concat}
use Rattle.std.proofs.lemmas.List.Folds.{concat-append}
use Rattle.outside.specs.Faults.{BothTell}

pub tell_trans : {A : Type 0} (a b c : Option A) (R S Q : A → A → Type 0) → BothTell a b R → BothTell b c S → ((x y z : A) → R x y → S y z → Q x z) → BothTell a c Q
tell_trans None None None R S Q r s f = tt
tell_trans None None (Some z) R S Q r s f = absurd s
tell_trans None (Some y) c R S Q r s f = absurd r
tell_trans (Some x) None c R S Q r s f = absurd r
tell_trans (Some x) (Some y) None R S Q r s f = absurd s
tell_trans (Some x) (Some y) (Some z) R S Q r s f = f x y z r s

pub tell_self : {A : Type 0} (a : Option A) (R : A → A → Type 0) → ((x : A) → R x x) → BothTell a a R
tell_self None R f = tt
tell_self (Some x) R f = f x

pub concat_end : (ps : List (List ℕ)) (p : List ℕ) → concat (ps ++ p ∷ []) ≡ concat ps ++ p
concat_end ps p = concat-append ps (p ∷ []) ∙ ap (λ xs. concat ps ++ xs) (append-nil p)

pub one_more : (ps : List (List ℕ)) (p : List ℕ) → length (ps ++ p ∷ []) ≡ length ps + 1
one_more ps p = length-append ps (p ∷ [])
