-- What holds at each place of a list, when one element comes behind it.
use Rattle.std.proofs.Common.{◌≡◌, ◌<◌, ◌++◌, [], ◌∷◌, ℕ, List, length, Option, None, slice_index_or, inl, inr, sym, ap, subst, arith}
use Rattle.std.proofs.lemmas.Bool.{cases_eq}
use Rattle.std.proofs.lemmas.List.{get_or_append_left, length-append}
use Rattle.std.proofs.Math.Seq.{get_or-append_seam}

pub pushed : {X : Type 0} (holds : ℕ → Option X → Type 0) (xs ys : List (Option X)) (x : Option X) → ys ≡ xs ++ x ∷ [] → ((n : ℕ) → n < length xs → holds n (slice_index_or xs n None)) → holds (length xs) x → (n : ℕ) → n < length ys → holds n (slice_index_or ys n None)
pushed holds xs ys x more all here n l = subst (λ zs. holds n (slice_index_or zs n None)) (sym more) (elim (cases_eq n (length xs)) [
  | inl e ↦ subst (λ k. holds k (slice_index_or (xs ++ x ∷ []) k None)) (sym e) (subst (holds (length xs)) (sym (get_or-append_seam xs x [] None)) here)
  | inr apart ↦
      let low : n < length xs = omega (arith, l, apart, ap length more, length-append xs (x ∷ [])) in
      subst (holds n) (sym (get_or_append_left xs (x ∷ []) None n low)) (all n low)
])
