-- Lists of names that differ.
use Rattle.std.proofs.Common.{◌≡◌, ℕ, ◌+◌, ◌<◌, suc, Bool, true, false, ◌||◌, List, [], ◌∷◌, ◌++◌, length, get_or, map, take, AllPairs, Vec, Global, if◌then◌else◌, refl, ap, sym, ◌∙◌, arith, append_assoc}
use Rattle.std.proofs.lemmas.List.{get_or-map, get_or-take, get_or-append-add, get_or_append_left, length-append, length-map, length-take-le, map-append, take-map, take_more}
use Rattle.std.proofs.Math.Seq.{take-append-add}
use Rattle.std.proofs.lemmas.Slice.Eq.{bytes_eq-Decides}
use Rattle.std.specs.List.{list_any}
use Rattle.std.specs.Str.{bytes_eq}
use Rattle.toml.specs.Data.{Data}
use Rattle.toml.specs.View.{view}
use Rattle.toml.specs.declared.value.Value.{Value}
use Rattle.topology_text.specs.Topology.{name_of}
use Rattle.topology_text.proofs.Repeats.{list_any-map}

-- a name that differs from each is not among them
not_there : (names : List (List ℕ)) (name : List ℕ) → ((j : ℕ) → j < length names → get_or names j [] ≡ name → ⊥) → list_any (bytes_eq name) names ≡ false
not_there [] name other = refl
not_there (x ∷ xs) name other =
    let head : bytes_eq name x ≡ false = differs (bytes_eq name x) refl in
    ap (λ b. b || list_any (bytes_eq name) xs) head ∙ not_there xs name (λ j h. other (suc j) (omega arith))
  where
    differs : (b : Bool) → bytes_eq name x ≡ b → b ≡ false
    differs true is = absurd (other 0 (omega arith) (sym ((bytes_eq-Decides name x).0 is)))
    differs false is = refl

-- the name at a place is not among those before it
fresh : (names : List (List ℕ)) (i : ℕ) (name : List ℕ) → AllPairs (λ a b. a ≡ b → ⊥) names → i < length names → get_or names i [] ≡ name → list_any (bytes_eq name) (take i names) ≡ false
fresh names i name distinct h is =
    not_there (take i names) name (λ j l same.
    let len : length (take i names) ≡ i = length-take-le i names (omega arith) in
    let before : j < i = omega arith in
    distinct j i [] before h (sym (get_or-take i names j [] before) ∙ same ∙ sym is))

-- one more name in the index, whose keys are some names and those of the entries so far
pub names_put : (front : List (List ℕ)) (vs : List Value) (i : ℕ) (v : Value) (old new : List (Vec ℕ Global)) (name : Vec ℕ Global) → AllPairs (λ a b. a ≡ b → ⊥) (front ++ map name_of (map view vs)) → i < length vs → v ≡ get_or vs i v
    → name.items ≡ name_of (view v) → map (λ k. k.items) old ≡ front ++ map name_of (map view (take i vs))
    → new ≡ (if list_any (λ k. bytes_eq name.items k.items) old then old else old ++ name ∷ [])
    → map (λ k. k.items) new ≡ front ++ map name_of (map view (take (i + 1) vs))
names_put front vs i v old new name distinct h is named before put =
    let names = map name_of (map view vs) in
    let len : i < length names = omega (arith, h, length-map vs view, length-map (map view vs) name_of) in
    let at : get_or names i [] ≡ name.items =
    get_or-map name_of (map view vs) i (view v) [] (omega (arith, h, length-map vs view)) ∙ ap name_of (get_or-map view vs i v (view v) h ∙ ap view (sym is)) ∙ sym named in
    let whole : get_or (front ++ names) (length front + i) [] ≡ name.items = get_or-append-add front names i [] ∙ at in
    let so_far : map (λ k. k.items) old ≡ take (length front + i) (front ++ names) =
    before ∙ ap (λ xs. front ++ xs) (ap (map name_of) (sym (take-map view i vs)) ∙ sym (take-map name_of i (map view vs))) ∙ sym (take-append-add front names i) in
    let none : list_any (λ k. bytes_eq name.items k.items) old ≡ false =
    sym (list_any-map (λ (k : Vec ℕ Global). k.items) (bytes_eq name.items) old) ∙ ap (list_any (bytes_eq name.items)) so_far
    ∙ fresh (front ++ names) (length front + i) name.items distinct (omega (arith, len, length-append front names)) whole in
    let more : map name_of (map view (take (i + 1) vs)) ≡ map name_of (map view (take i vs)) ++ name_of (view (get_or vs i v)) ∷ [] =
    ap (λ xs. map name_of (map view xs)) (take_more vs i v h) ∙ ap (map name_of) (map-append view (take i vs) (get_or vs i v ∷ [])) ∙ map-append name_of (map view (take i vs)) (view (get_or vs i v) ∷ []) in
    ap (map (λ (k : Vec ℕ Global). k.items)) (put ∙ ap (λ b. if b then old else old ++ name ∷ []) none)
    ∙ map-append (λ (k : Vec ℕ Global). k.items) old (name ∷ [])
    ∙ ap (λ xs. xs ++ name.items ∷ []) before
    ∙ append_assoc front (map name_of (map view (take i vs))) (name.items ∷ [])
    ∙ ap (λ n. front ++ (map name_of (map view (take i vs)) ++ n ∷ [])) (named ∙ ap (λ (x : Value). name_of (view x)) is)
    ∙ ap (λ xs. front ++ xs) (sym more)

-- names that differ, of which the first are some entries'
pub distinct_first : (gs cs : List Data) → AllPairs (λ a b. a ≡ b → ⊥) (map name_of (gs ++ cs)) → AllPairs (λ a b. a ≡ b → ⊥) (map name_of gs)
distinct_first gs cs distinct i j d before h same =
    let split : map name_of (gs ++ cs) ≡ map name_of gs ++ map name_of cs = map-append name_of gs cs in
    let left : get_or (map name_of (gs ++ cs)) i d ≡ get_or (map name_of gs) i d = ap (λ xs. get_or xs i d) split ∙ get_or_append_left (map name_of gs) (map name_of cs) d i (omega (arith, before, h)) in
    let right : get_or (map name_of (gs ++ cs)) j d ≡ get_or (map name_of gs) j d = ap (λ xs. get_or xs j d) split ∙ get_or_append_left (map name_of gs) (map name_of cs) d j h in
    distinct i j d before (omega (arith, h, length-map gs name_of, length-map (gs ++ cs) name_of, length-append gs cs)) (left ∙ same ∙ sym right)
