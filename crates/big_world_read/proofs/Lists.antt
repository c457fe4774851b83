-- Lists that are made from the numbers below a bound: where the first element stands that passes a test, and that no text stands twice.
use Rattle.std.proofs.Common.{◌≡◌, ℕ, ◌+◌, ◌<◌, ◌≤◌, suc, zero, Bool, true, false, cond, ◌||◌, nat_lt, List, [], ◌∷◌, ◌++◌, length, map, None, Some, refl, ap, sym, ◌∙◌, arith}
use Rattle.std.proofs.lemmas.Bool.Decides.{nat_tests}
use Rattle.std.proofs.lemmas.Iterator.Adapters.{position_from-zero}
use Rattle.std.proofs.lemmas.List.FromFn.{get_or-map-range_with_len, length-map-range_with_len}
use Rattle.std.proofs.lemmas.List.{length-append}
use Rattle.std.proofs.lemmas.List.Sums.{position_or_len_is}
use Rattle.std.proofs.lemmas.Slice.Eq.{bytes_eq-Decides}
use Rattle.std.specs.List.{list_any, position, position_from, position_or_len, range_with_len}
use Rattle.std.specs.Str.{bytes_eq}
use Rattle.toml.specs.Data.{string}
use Rattle.topology_text.specs.Names.{has_repeat, texts_of}

-- texts that differ
pub other_bytes : (xs ys : List ℕ) → (xs ≡ ys → ⊥) → bytes_eq xs ys ≡ false
other_bytes xs ys apart = go (bytes_eq xs ys) refl
  where
    go : (b : Bool) → bytes_eq xs ys ≡ b → bytes_eq xs ys ≡ false
    go true is = absurd (apart ((bytes_eq-Decides xs ys).0 is))
    go false is = is

pub same_bytes : (xs : List ℕ) → bytes_eq xs xs ≡ true
same_bytes xs = (bytes_eq-Decides xs xs).1 refl

-- two ends of one length, behind two texts
pub same_length : (xs ys us vs : List ℕ) → length us ≡ length vs → xs ++ us ≡ ys ++ vs → length xs ≡ length ys
same_length xs ys us vs ends h = omega (arith, length-append xs us, length-append ys vs, ap length h)

-- the first place
first_place : {X : Type 0} (test : X → Bool) (f : ℕ → X) (k p : ℕ) → p < k → ((q : ℕ) → q < p → test (f q) ≡ false) → test (f p) ≡ true → position_or_len test (map f (range_with_len 0 k)) ≡ p
first_place test f k p within fails passes =
    let size : length (map f (range_with_len 0 k)) ≡ k = length-map-range_with_len f 0 k in
    position_or_len_is test (map f (range_with_len 0 k)) p (f p) (omega arith)
    (λ q h. ap test (get_or-map-range_with_len f 0 k q q (f p) (omega arith) (omega arith)) ∙ fails q h)
    (λ h. ap test (get_or-map-range_with_len f 0 k p p (f p) within (omega arith)) ∙ passes)

pub found_at : {X : Type 0} (test : X → Bool) (f : ℕ → X) (k p : ℕ) → p < k → ((q : ℕ) → q < p → test (f q) ≡ false) → test (f p) ≡ true → position test (map f (range_with_len 0 k)) ≡ Some p
found_at test f k p within fails passes =
    let size : length (map f (range_with_len 0 k)) ≡ k = length-map-range_with_len f 0 k in
    let place : position_or_len test (map f (range_with_len 0 k)) ≡ p = first_place test f k p within fails passes in
    let low : nat_lt (position_or_len test (map f (range_with_len 0 k))) (length (map f (range_with_len 0 k))) ≡ true = grind (arith, nat_tests) in
    ap (λ b. cond b (Some (position_or_len test (map f (range_with_len 0 k)))) None) low ∙ ap Some place

pub found_from : {X : Type 0} (test : X → Bool) (f : ℕ → X) (k p : ℕ) → p < k → ((q : ℕ) → q < p → test (f q) ≡ false) → test (f p) ≡ true → position_from test 0 (map f (range_with_len 0 k)) ≡ Some p
found_from test f k p within fails passes = sym (position_from-zero test (map f (range_with_len 0 k))) ∙ found_at test f k p within fails passes

-- the texts of strings
pub texts_from : (text : ℕ → List ℕ) (xs : List ℕ) → texts_of (map (λ t. string (text t)) xs) ≡ map text xs
texts_from text [] = refl
texts_from text (x ∷ xs) = ap (λ (ts : List (List ℕ)). text x ∷ ts) (texts_from text xs)

-- a text that stands behind a number that has another
none_later : (text : ℕ → List ℕ) (x a k : ℕ) → x < a → ((t : ℕ) → a ≤ t → t < a + k → text x ≡ text t → ⊥) → list_any (bytes_eq (text x)) (map text (range_with_len a k)) ≡ false
none_later text x a zero before apart = refl
none_later text x a (suc k) before apart =
    ap (λ b. b || list_any (bytes_eq (text x)) (map text (range_with_len (a + 1) k))) (other_bytes (text x) (text a) (apart a (omega arith) (omega arith)))
    ∙ none_later text x (a + 1) k (omega arith) (λ t low high. apart t (omega arith) (omega arith))

pub no_repeat : (text : ℕ → List ℕ) (a k : ℕ) → ((s t : ℕ) → a ≤ s → s < t → t < a + k → text s ≡ text t → ⊥) → has_repeat (map text (range_with_len a k)) ≡ false
no_repeat text a zero apart = refl
no_repeat text a (suc k) apart =
    ap (λ b. b || has_repeat (map text (range_with_len (a + 1) k))) (none_later text a (a + 1) k (omega arith) (λ t low high. apart a t (omega arith) (omega arith) (omega arith)))
    ∙ no_repeat text (a + 1) k (λ s t low less high. apart s t (omega arith) less (omega arith))

-- a function of what another gives, at each element
pub map_twice : {X Y : Type 0} (outer : X → Y) (inner : ℕ → X) (whole : ℕ → Y) → ((k : ℕ) → outer (inner k) ≡ whole k) → (ks : List ℕ) → map outer (map inner ks) ≡ map whole ks
map_twice outer inner whole same [] = refl
map_twice outer inner whole same (k ∷ ks) = ap (λ y. y ∷ map outer (map inner ks)) (same k) ∙ ap (λ ys. whole k ∷ ys) (map_twice outer inner whole same ks)
