-- Steps of the index of names.
use Rattle.std.proofs.Common.{◌≡◌, ℕ, ◌+◌, ◌<◌, Bool, true, false, cond, List, [], ◌∷◌, ◌++◌, length, get_or, take, map, Option, None, Some, option_map, Bor, refl, ap, sym, ◌∙◌, arith}
use Rattle.std.proofs.lemmas.List.{take_more, map-append, length-take-le, length-map}
use Rattle.std.proofs.lemmas.Slice.Eq.{bytes_eq-Decides}
use Rattle.std.specs.List.{position_from}
use Rattle.std.specs.Option.{option_or}
use Rattle.std.specs.Str.{bytes_eq}
use Rattle.toml.specs.View.{view}
use Rattle.toml.specs.declared.value.Value.{Value}
use Rattle.topology_text.specs.declared.schema.Key.TheVariants.{Name}
use Rattle.topology_text.specs.Names.{number_of, is_called, text_at}

pub or_none : {A : Type 0} (o : Option A) → o ≡ option_or o None
or_none None = refl
or_none (Some x) = refl

last_or : (b here : Bool) (n k m : ℕ) (rest more : Option ℕ) → rest ≡ option_or more (cond here (Some k) None) → k ≡ m → cond b (Some n) rest ≡ option_or (cond b (Some n) more) (cond here (Some m) None)
last_or true here n k m rest more h e = refl
last_or false here n k m rest more h e = h ∙ ap (λ i. option_or more (cond here (Some i) None)) e

pub position_from-last : {K : Type 0} (t : K → Bool) (n : ℕ) (xs : List K) (x : K) → position_from t n (xs ++ x ∷ []) ≡ option_or (position_from t n xs) (cond (t x) (Some (n + length xs)) None)
position_from-last t n [] x = let e : n + 0 ≡ n = omega arith in rw e refl
position_from-last t n (y ∷ xs) x = last_or (t y) (t x) n _ _ _ _ (position_from-last t (n + 1) xs x) (omega arith)

-- the index of one entry more
pub number_of-more : (es : List Value) (i : ℕ) (d : Value) (q : List ℕ) → i < length es
    → number_of (map view (take (i + 1) es)) q ≡ option_or (number_of (map view (take i es)) q) (cond (is_called q (text_at (view (get_or es i d)) Name)) (Some i) None)
number_of-more es i d q h =
    let e : length (map view (take i es)) ≡ i = length-map (take i es) view ∙ length-take-le i es (omega arith) in
    ap (λ xs. number_of xs q) (ap (map view) (take_more es i d h) ∙ map-append view (take i es) (get_or es i d ∷ []))
    ∙ position_from-last _ 0 (map view (take i es)) (view (get_or es i d))
    ∙ ap (λ k. option_or (number_of (map view (take i es)) q) (cond (is_called q (text_at (view (get_or es i d)) Name)) (Some k) None)) (add-zero-front e)
  where
    add-zero-front : {a b : ℕ} → a ≡ b → 0 + a ≡ b
    add-zero-front e = omega arith

-- a name whose number was not there, and now is
pub noted : (old new : List ℕ → Option ℕ) (name : List ℕ) (number : ℕ) → old name ≡ None → ((q : List ℕ) → new q ≡ cond (bytes_eq name q) (Some number) (old q))
    → (q : List ℕ) → new q ≡ option_or (old q) (cond (bytes_eq name q) (Some number) None)
noted old new name number none is q = is q ∙ by_test (bytes_eq name q) (λ h. (bytes_eq-Decides name q).0 h)
  where
    by_test : (b : Bool) → (b ≡ true → name ≡ q) → cond b (Some number) (old q) ≡ option_or (old q) (cond b (Some number) None)
    by_test true h = let e : old q ≡ None = ap old (sym (h refl)) ∙ none in rw e refl
    by_test false h = or_none (old q)

-- one entry more that has a name, and one that has none
pub number_put : (es : List Value) (i : ℕ) (d : Value) (q : List ℕ) (m new : Option ℕ) (name : List ℕ) → i < length es → text_at (view (get_or es i d)) Name ≡ Some name
    → m ≡ number_of (map view (take i es)) q → new ≡ option_or m (cond (bytes_eq name q) (Some i) None) → new ≡ number_of (map view (take (i + 1) es)) q
number_put es i d q m new name h is before put =
    put ∙ ap (λ o. option_or o (cond (bytes_eq name q) (Some i) None)) before
    ∙ sym (number_of-more es i d q h ∙ ap (λ o. option_or (number_of (map view (take i es)) q) (cond (is_called q o) (Some i) None)) is)

pub number_skip : (es : List Value) (i : ℕ) (d : Value) (q : List ℕ) (m : Option ℕ) → i < length es → text_at (view (get_or es i d)) Name ≡ None
    → m ≡ number_of (map view (take i es)) q → m ≡ number_of (map view (take (i + 1) es)) q
number_skip es i d q m h is before =
    before ∙ or_none _
    ∙ sym (number_of-more es i d q h ∙ ap (λ o. option_or (number_of (map view (take i es)) q) (cond (is_called q o) (Some i) None)) is)

-- what was read of a text
pub text_is : (r : Option (Bor (List ℕ))) (b : Bor (List ℕ)) (o : Option (List ℕ)) → option_map (λ t. t.now) r ≡ o → r ≡ Some b → o ≡ Some b.now
text_is r b o seen is = sym seen ∙ rw is refl

pub text_none : (r : Option (Bor (List ℕ))) (o : Option (List ℕ)) → option_map (λ t. t.now) r ≡ o → r ≡ None → o ≡ None
text_none r o seen is = sym seen ∙ rw is refl
