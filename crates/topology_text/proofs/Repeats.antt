-- Names that stand for the second time.
use Rattle.std.proofs.Common.{◌≡◌, ℕ, ◌+◌, ◌<◌, ◌≤◌, suc, zero, Bool, true, false, not, cond, ◌||◌, List, [], ◌∷◌, ◌++◌, length, get_or, map, take, drop, Option, None, Some, option_map, Vec, Global, refl, ap, sym, ◌∙◌, arith}
use Rattle.std.proofs.lemmas.List.{get_or-map, length-map, take_more, drop_more, map-append}
use Rattle.std.specs.List.{cons_option, list_any}
use Rattle.std.specs.Str.{bytes_eq, str_to_ascii_lowercase}
use Rattle.std.proofs.lemmas.List.Elements.{filter_map-append}
use Rattle.toml.specs.Data.{Data}
use Rattle.toml.specs.View.{view}
use Rattle.toml.specs.declared.value.Value.{Value}
use Rattle.topology_text.proofs.Firsts.{first-map}
use Rattle.topology_text.specs.Names.{folds_of, is_among, is_seen, name_in, names_in, repeats_in}
use Rattle.topology_text.specs.Walk.{first, marked, marked_from}
use Rattle.topology_text.specs.declared.schema.At.TheVariants.{Item}
use Rattle.topology_text.specs.declared.schema.Key.{Key}

pub list_any-map : {A B : Type 0} (f : A → B) (p : B → Bool) (xs : List A) → list_any p (map f xs) ≡ list_any (λ x. p (f x)) xs
list_any-map f p [] = refl
list_any-map f p (x ∷ xs) = ap (λ b. p (f x) || b) (list_any-map f p xs)

-- an element that isn't marked: go on with those after it
pub marked_on : {X : Type 0} (test : ℕ → X → Bool) (i : ℕ) (xs : List X) (d : X) → i < length xs → test i (get_or xs i d) ≡ false
    → first (marked_from test i (drop i xs)) ≡ first (marked_from test (i + 1) (drop (i + 1) xs))
marked_on test i xs d h good = rw (drop_more xs i d h, good)

-- one that is: it is the first
pub marked_here : {X : Type 0} (test : ℕ → X → Bool) (i : ℕ) (xs : List X) (d : X) → i < length xs → test i (get_or xs i d) ≡ true
    → first (marked_from test i (drop i xs)) ≡ Some (i, get_or xs i d)
marked_here test i xs d h bad = rw (drop_more xs i d h, bad)

-- nothing is marked: no element passes
pub none_marked : {X : Type 0} (test : ℕ → X → Bool) (i : ℕ) (xs : List X) → marked_from test i xs ≡ [] → (j : ℕ) (d : X) → j < length xs → test (i + j) (get_or xs j d) ≡ false
none_marked test i [] h j d l = absurd (omega arith)
none_marked test i (x ∷ xs) h zero d l = let e : i + 0 ≡ i = omega arith in rw e (fails (test i x) h)
  where
    fails : (b : Bool) → cond b ((i, x) ∷ marked_from test (i + 1) xs) (marked_from test (i + 1) xs) ≡ [] → b ≡ false
    fails true q = cc
    fails false q = refl
none_marked test i (x ∷ xs) h (suc j) d l = let e : i + suc j ≡ (i + 1) + j = omega arith in rw e (none_marked test (i + 1) xs (rest (test i x) h) j d (omega arith))
  where
    rest : (b : Bool) → cond b ((i, x) ∷ marked_from test (i + 1) xs) (marked_from test (i + 1) xs) ≡ [] → marked_from test (i + 1) xs ≡ []
    rest true q = cc
    rest false q = q

-- so far the folded names are those of the items, and no item repeats one
pub record AreSeen (k : Key) (ds : List Data) (i : ℕ) (folds : List (List ℕ)) : Type 0 where
  pub folded : folds ≡ map str_to_ascii_lowercase (names_in k (take i ds))
  pub rest : first (marked_from (λ i d. is_among (names_in k (take i ds)) (name_in k d)) i (drop i ds)) ≡ first (marked (λ i d. is_among (names_in k (take i ds)) (name_in k d)) ds)

pub seen_among : (names : List (List ℕ)) (o : Option (List ℕ)) → is_seen (map str_to_ascii_lowercase names) o ≡ is_among names o
seen_among names None = refl
seen_among names (Some name) = list_any-map str_to_ascii_lowercase (bytes_eq (str_to_ascii_lowercase name)) names

pub folds_more : (names : List (List ℕ)) (o : Option (List ℕ)) → map str_to_ascii_lowercase (names ++ cons_option o []) ≡ map str_to_ascii_lowercase names ++ folds_of o
folds_more names None = map-append str_to_ascii_lowercase names []
folds_more names (Some name) = map-append str_to_ascii_lowercase names (name ∷ [])

names_more : (k : Key) (ds : List Data) (i : ℕ) (d : Data) → i < length ds → names_in k (take (i + 1) ds) ≡ names_in k (take i ds) ++ cons_option (name_in k (get_or ds i d)) []
names_more k ds i d h = ap (names_in k) (take_more ds i d h) ∙ filter_map-append (name_in k) (take i ds) (get_or ds i d ∷ [])

-- an item whose name was not seen
pub seen_on : (k : Key) (ds : List Data) (i : ℕ) (d : Data) (old new : List (List ℕ)) → AreSeen k ds i old → i < length ds
    → false ≡ is_seen old (name_in k (get_or ds i d)) → new ≡ old ++ folds_of (name_in k (get_or ds i d)) → AreSeen k ds (i + 1) new
seen_on k ds i d old new s h other noted =
    let name = name_in k (get_or ds i d) in
    let none : is_among (names_in k (take i ds)) name ≡ false = sym (other ∙ ap (λ fs. is_seen fs name) s.folded ∙ seen_among (names_in k (take i ds)) name) in
    record {
      folded = noted ∙ ap (λ fs. fs ++ folds_of name) s.folded ∙ sym (folds_more (names_in k (take i ds)) name) ∙ ap (map str_to_ascii_lowercase) (sym (names_more k ds i d h));
      rest = sym (marked_on (λ i d. is_among (names_in k (take i ds)) (name_in k d)) i ds d h none) ∙ s.rest;
    }

-- an item whose name was seen
pub seen_here : (k : Key) (ds : List Data) (i : ℕ) (d : Data) (old : List (List ℕ)) → AreSeen k ds i old → i < length ds
    → true ≡ is_seen old (name_in k (get_or ds i d)) → Some (Item i) ≡ first (repeats_in k ds)
seen_here k ds i d old s h there =
    let name = name_in k (get_or ds i d) in
    let some : is_among (names_in k (take i ds)) name ≡ true = sym (there ∙ ap (λ fs. is_seen fs name) s.folded ∙ seen_among (names_in k (take i ds)) name) in
    let at : first (marked (λ i d. is_among (names_in k (take i ds)) (name_in k d)) ds) ≡ Some (i, get_or ds i d) = sym s.rest ∙ marked_here (λ i d. is_among (names_in k (take i ds)) (name_in k d)) i ds d h some in
    sym (first-map (λ p. Item p.0) (marked (λ i d. is_among (names_in k (take i ds)) (name_in k d)) ds) ∙ ap (option_map (λ (p : ℕ × Data). Item p.0)) at)

-- the same over values
at_view : (vs : List Value) (i : ℕ) (v : Value) → i < length vs → v ≡ get_or vs i v → get_or (map view vs) i (view v) ≡ view v
at_view vs i v h is = get_or-map view vs i v (view v) h ∙ ap view (sym is)

pub seen_on_view : (k : Key) (vs : List Value) (i : ℕ) (v : Value) (old new : List (List ℕ)) (o : Option (List ℕ)) → AreSeen k (map view vs) i old → i < length vs → v ≡ get_or vs i v
    → o ≡ name_in k (view v) → false ≡ is_seen old o → new ≡ old ++ folds_of o → AreSeen k (map view vs) (i + 1) new
seen_on_view k vs i v old new o s h is named other noted =
    let same : o ≡ name_in k (get_or (map view vs) i (view v)) = named ∙ ap (name_in k) (sym (at_view vs i v h is)) in
    seen_on k (map view vs) i (view v) old new s (omega (arith, length-map vs view)) (other ∙ ap (is_seen old) same) (noted ∙ ap (λ n. old ++ folds_of n) same)

pub seen_here_view : (k : Key) (vs : List Value) (i : ℕ) (v : Value) (old : List (List ℕ)) (o : Option (List ℕ)) → AreSeen k (map view vs) i old → i < length vs → v ≡ get_or vs i v
    → o ≡ name_in k (view v) → true ≡ is_seen old o → Some (Item i) ≡ first (repeats_in k (map view vs))
seen_here_view k vs i v old o s h is named there =
    let same : o ≡ name_in k (get_or (map view vs) i (view v)) = named ∙ ap (name_in k) (sym (at_view vs i v h is)) in
    seen_here k (map view vs) i (view v) old s (omega (arith, length-map vs view)) (there ∙ ap (is_seen old) same)

-- a folded name among the keys of the index
pub is_found : (keys : List (Vec ℕ Global)) (v : Vec ℕ Global) (name : List ℕ) (o : Option (List ℕ)) (b : Bool) → o ≡ Some name → v.items ≡ str_to_ascii_lowercase name
    → b ≡ not (list_any (λ k. bytes_eq v.items k.items) keys) → not b ≡ is_seen (map (λ k. k.items) keys) o
is_found keys v name o b is folded fresh =
    ap not fresh ∙ twice (list_any (λ k. bytes_eq v.items k.items) keys) ∙ sym (list_any-map (λ k. k.items) (bytes_eq v.items) keys)
    ∙ ap (λ n. list_any (bytes_eq n) (map (λ k. k.items) keys)) folded ∙ ap (is_seen (map (λ k. k.items) keys)) (sym is)
  where
    twice : (b : Bool) → not (not b) ≡ b
    twice true = refl
    twice false = refl
