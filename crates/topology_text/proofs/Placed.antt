-- What stands at one place of two lists that look the same.
use Rattle.std.proofs.Common.{◌≡◌, ℕ, List, map, Some, option_map, ap, sym, ◌∙◌}
use Rattle.std.specs.List.{slice_get}
use Rattle.std.proofs.lemmas.Option.{slice_get-map}

pub same_place : {A B C : Type 0} (f : A → C) (g : B → C) (xs : List A) (ys : List B) (i : ℕ) (x : A) (y : B) → map f xs ≡ map g ys → slice_get xs i ≡ Some x → slice_get ys i ≡ Some y → f x ≡ g y
same_place f g xs ys i x y same at_x at_y =
    let both : Some (f x) ≡ Some (g y) =
    ap (option_map f) (sym at_x) ∙ sym (slice_get-map f xs i) ∙ ap (λ zs. slice_get zs i) same ∙ slice_get-map g ys i ∙ ap (option_map g) at_y in
    cc
