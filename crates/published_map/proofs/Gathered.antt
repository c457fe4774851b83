-- Entries of a list that differ, gathered by number.
use Rattle.std.proofs.Common.{◌≡◌, ◌≢◌, ℕ, suc, ◌+◌, ◌-◌, ◌<◌, List, [], ◌∷◌, ◌++◌, map, slice_set, refl, sym, ap, subst, ◌∙◌, arith, append_assoc, append-nil, inl, inr}
use Rattle.std.specs.List.{range_with_len}
use Rattle.std.proofs.Math.Seq.{set-append_seam}
use Rattle.std.proofs.lemmas.List.Elements.{All-push}
use Rattle.std.proofs.lemmas.List.Quantifiers.{all_pairs_push}
use Rattle.published_map.specs.Gathered.{AreChanged, IsGathered, set_all}
use Rattle.std.proofs.lemmas.List.FromFn.{length-map-range_with_len, map-range_with_len_more}

set_more : {E V : Type 0} (id : E → ℕ) (val : E → V) (xs : List V) (es : List E) (e : E) → set_all id val xs (es ++ e ∷ []) ≡ slice_set (set_all id val xs es) (id e) (val e)
unfolding set_all
set_more id val xs [] e = refl
set_more id val xs (d ∷ es) e = set_more id val (slice_set xs (id d) (val d)) es e

pub none_yet : {E V : Type 0} (id : E → ℕ) (val : E → V) (old new : ℕ → V) (total : ℕ) → AreChanged id val old new total 0 []
unfolding set_all
none_yet id val old new total =
    let whole : total ≡ total - 0 = omega arith in
    record {
      each = λ k d lt. absurd (omega arith);
      rise = λ i j d l lt. absurd (omega arith);
      leads = ap (λ (n : ℕ). map old (range_with_len 0 n)) whole;
    }

-- the values from n on begin with that of n
head_is : {V : Type 0} (old : ℕ → V) (total n : ℕ) → n < total → map old (range_with_len n (total - n)) ≡ old n ∷ map old (range_with_len (n + 1) (total - (n + 1)))
head_is old total n lt = let e : total - n ≡ suc (total - (n + 1)) = omega arith in ap (λ (k : ℕ). map old (range_with_len n k)) e

pub stays : {E V : Type 0} (id : E → ℕ) (val : E → V) (old new : ℕ → V) (total n : ℕ) (es : List E) → n < total → old n ≡ new n → AreChanged id val old new total n es → AreChanged id val old new total (n + 1) es
stays id val old new total n es lt same are = record {
  each = λ k d l. let h = are.each k d l in (omega (arith, h.0), h.1, h.2);
  rise = are.rise;
  leads = are.leads
      ∙ (ap (λ xs. map new (range_with_len 0 n) ++ xs) (head_is old total n lt ∙ ap (λ v. v ∷ map old (range_with_len (n + 1) (total - (n + 1)))) same)
      ∙ (sym (append_assoc (map new (range_with_len 0 n)) (new n ∷ []) (map old (range_with_len (n + 1) (total - (n + 1)))))
      ∙ ap (λ xs. xs ++ map old (range_with_len (n + 1) (total - (n + 1)))) (sym (map-range_with_len_more new 0 n n (omega arith)))));
}

pub more : {E V : Type 0} (id : E → ℕ) (val : E → V) (old new : ℕ → V) (total n : ℕ) (es : List E) (e : E) → n < total → id e ≡ n → val e ≡ new n → (val e ≢ old n) → AreChanged id val old new total n es
    → AreChanged id val old new total (n + 1) (es ++ e ∷ [])
more id val old new total n es e lt at is differs are = record {
  each = All-push (λ e. (id e < n + 1) × (val e ≡ new (id e)) × (val e ≢ old (id e))) es e (λ k d l. let h = are.each k d l in (omega (arith, h.0), h.1, h.2))
      (omega (arith, at), is ∙ ap new (sym at), λ same. differs (same ∙ ap old at));
  rise = all_pairs_push (λ a b. id a < id b) es e are.rise (λ k d l. let h = are.each k d l in omega (arith, at, h.0));
  leads = set_more id val (map old (range_with_len 0 total)) es e
      ∙ (ap (λ xs. slice_set xs (id e) (val e)) (are.leads ∙ ap (λ xs. map new (range_with_len 0 n) ++ xs) (head_is old total n lt))
      ∙ (ap (λ (k : ℕ). slice_set (map new (range_with_len 0 n) ++ old n ∷ map old (range_with_len (n + 1) (total - (n + 1)))) k (val e)) (at ∙ sym (length-map-range_with_len new 0 n))
      ∙ (set-append_seam (map new (range_with_len 0 n)) (old n) (map old (range_with_len (n + 1) (total - (n + 1)))) (val e)
      ∙ (ap (λ v. map new (range_with_len 0 n) ++ v ∷ map old (range_with_len (n + 1) (total - (n + 1)))) is
      ∙ (sym (append_assoc (map new (range_with_len 0 n)) (new n ∷ []) (map old (range_with_len (n + 1) (total - (n + 1)))))
      ∙ ap (λ xs. xs ++ map old (range_with_len (n + 1) (total - (n + 1)))) (sym (map-range_with_len_more new 0 n n (omega arith))))))));
}

-- all replaced, the values are the new ones
pub all_new : {E V : Type 0} (id : E → ℕ) (val : E → V) (old new : ℕ → V) (total : ℕ) (es : List E) → AreChanged id val old new total total es → set_all id val (map old (range_with_len 0 total)) es ≡ map new (range_with_len 0 total)
all_new id val old new total es are =
    let none : total - total ≡ 0 = omega arith in
    are.leads ∙ (ap (λ (n : ℕ). map new (range_with_len 0 total) ++ map old (range_with_len total n)) none ∙ append-nil (map new (range_with_len 0 total)))

-- one number further, where what differs was gathered
pub gathered : {E V : Type 0} (id : E → ℕ) (val : E → V) (old new : ℕ → V) (total n : ℕ) (Same : Type 0) (es : List E) (e : E) (fs : List E) → n < total → id e ≡ n → val e ≡ new n → (Same → old n ≡ new n) → (old n ≡ new n → Same)
    → IsGathered Same es e fs → AreChanged id val old new total n es → AreChanged id val old new total (n + 1) fs
gathered id val old new total n Same es e fs lt at is to from step are = elim step [
  | inl h ↦ subst (AreChanged id val old new total (n + 1)) (sym h.1) (stays id val old new total n es lt (to h.0) are)
  | inr h ↦ subst (AreChanged id val old new total (n + 1)) (sym h.1) (more id val old new total n es e lt at is (λ same. h.0 (from (sym same ∙ is))) are)
]
