-- Steps of the rows of an instance.
use Rattle.std.proofs.Common.{◌≡◌, refl, zero, suc, Some, slice_get, ℕ, false, ◌+◌, ◌<◌, ◌≤◌, ◌^◌, List, [], ◌∷◌, ◌++◌, length, get_or, drop, map, All, ap, sym, ◌∙◌, subst, arith, append_assoc, append-nil}
use Rattle.std.proofs.lemmas.List.Elements.{All-head, All-tail}
use Rattle.std.proofs.lemmas.List.{drop_more, drop_all, length-map, get_or-map}
use Rattle.toml.specs.Data.{boolean}
use Rattle.topology_text.specs.Names.{entry_at}
use Rattle.toml.specs.View.{view}
use Rattle.toml.specs.declared.value.Value.{Value}
use Rattle.topology_text.specs.Topology.{limit_in, natural}

pub score_at : (ss : List Value) (i : ℕ) (d : Value) → All (λ s. natural s < 2 ^ 32) (map view ss) → i < length ss → natural (view (get_or ss i d)) < 2 ^ 32
score_at ss i d h l =
    let e : get_or (map view ss) i (view d) ≡ view (get_or ss i d) = get_or-map view ss i d (view d) l in
    subst (λ x. natural x < 2 ^ 32) e (h i (view d) (omega (arith, length-map ss view)))

-- one more row, and the rest
pub rows_step : {A B : Type 0} (f : A → B) (xs : List A) (i : ℕ) (d : A) (old new all : List B) (x : B) → i < length xs → x ≡ f (get_or xs i d) → new ≡ old ++ x ∷ []
    → old ++ map f (drop i xs) ≡ all → new ++ map f (drop (i + 1) xs) ≡ all
rows_step f xs i d old new all x h is pushed before =
    rw (pushed, append_assoc, is) (sym (ap (λ ys. old ++ map f ys) (drop_more xs i d h)) ∙ before)

pub rows_end : {A B : Type 0} (f : A → B) (xs : List A) (i : ℕ) (old all : List B) → length xs ≤ i → old ++ map f (drop i xs) ≡ all → old ≡ all
rows_end f xs i old all h before = sym (append-nil old) ∙ sym (ap (λ ys. old ++ map f ys) (drop_all i xs h)) ∙ before

-- the limit at a place of a list, which is within 32 bits
pub limit_some : (ls : List Value) (i : ℕ) (x : Value) → slice_get ls i ≡ Some x → All (λ l. (1 ≤ natural l) × (natural l < 2 ^ 32)) (map view ls) → (natural (view x) < 2 ^ 32) × (natural (view x) ≡ limit_in (map view ls) i)
limit_some [] i x h fits = cc
limit_some (y ∷ ys) zero x h fits =
    let e : y ≡ x = cc in
    let first = All-head (λ l. (1 ≤ natural l) × (natural l < 2 ^ 32)) (view y) (map view ys) fits in
    (subst (λ (v : Value). natural (view v) < 2 ^ 32) e first.1, ap (λ (v : Value). natural (view v)) (sym e))
limit_some (y ∷ ys) (suc i) x h fits = limit_some ys i x h (All-tail (λ l. (1 ≤ natural l) × (natural l < 2 ^ 32)) (view y) (map view ys) fits)

-- and where there is none
pub limit_none : (ls : List Value) (i : ℕ) → length ls ≤ i → 4294967295 ≡ limit_in (map view ls) i
limit_none [] i h = refl
limit_none (y ∷ ys) zero h = absurd (omega arith)
limit_none (y ∷ ys) (suc i) h = limit_none ys i (omega arith)

-- an entry that a loop came to
pub entry_is : (vs items : List Value) (i : ℕ) (x : Value) → items ≡ vs → x ≡ get_or items i x → i < length vs → entry_at (map view vs) i ≡ view x
entry_is vs items i x same is l = get_or-map view vs i x (boolean false) l ∙ ap view (ap (λ ys. get_or ys i x) (sym same) ∙ sym is)
