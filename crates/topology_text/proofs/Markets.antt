-- Sound entries stand for an instance.
use Rattle.std.proofs.Common.{◌≡◌, ℕ, ◌+◌, ◌<◌, suc, zero, Bool, true, false, cond, List, [], ◌∷◌, length, get_or, map, Option, None, Some, IfSome, All, option_map, unwrap_or, refl, ap, sym, ◌∙◌, subst, arith}
use Rattle.std.proofs.lemmas.List.{length-map, get_or_default}
use Rattle.std.proofs.lemmas.Slice.Eq.{bytes_eq-Decides}
use Rattle.std.specs.List.{position_from}
use Rattle.toml.specs.Data.{Data, string, integer, float, boolean, datetime, array, table}
use Rattle.map_model.specs.declared.instance.NodeId.{NodeId}
use Rattle.map_model.specs.declared.instance.Node.{Node}
use Rattle.map_model.specs.Market.{climb, parent_of as parent_in}
use Rattle.topology_text.specs.Names.{Entries, ascend, entry_at, is_called, is_pool_number, number_of, parent_of, text_at}
use Rattle.topology_text.specs.Topology.{market_of, node_of, pool_number}
use Rattle.topology_text.specs.declared.schema.Key.TheVariants.{Name}

pub get_or-map_at : {A B : Type 0} (f : A → B) (xs : List A) (n : ℕ) (e : A) → get_or (map f xs) n (f e) ≡ f (get_or xs n e)
get_or-map_at f [] n e = refl
get_or-map_at f (x ∷ xs) zero e = refl
get_or-map_at f (x ∷ xs) (suc n) e = get_or-map_at f xs n e

-- a fact of each element after a map
pub All-map_at : {A B : Type 0} (f : A → B) (P : B → Type 0) (xs : List A) (e : A) → ((n : ℕ) → n < length xs → P (f (get_or xs n e))) → All P (map f xs)
All-map_at f P xs e each n d h =
    let l : n < length xs = omega (arith, length-map xs f) in
    subst P (sym (get_or_default (map f xs) n d (f e) h ∙ get_or-map_at f xs n e)) (each n l)

-- the parent of a node, in the instance and by name
pub parent_same : (d : Entries) (n : ℕ) → parent_in (market_of d) n ≡ option_map (λ k. record { 0 = k }) (parent_of d.nodes n)
parent_same d n = ap (λ (x : Node). x.parent) (get_or-map_at (node_of d.nodes) d.nodes n (boolean false))

pub climb_ascend : (d : Entries) (k : ℕ) (at : Option ℕ) → length (climb k (market_of d) (option_map (λ k. record { 0 = k }) at)) ≡ length (ascend k d.nodes at)
unfolding climb ascend
climb_ascend d zero at = refl
climb_ascend d (suc k) None = refl
climb_ascend d (suc k) (Some n) = ap suc (ap (λ (o : Option NodeId). length (climb k (market_of d) o)) (parent_same d n) ∙ climb_ascend d k (parent_of d.nodes n))

-- the position of what passes a test
position_is : {K : Type 0} (t : K → Bool) (i : ℕ) (xs : List K) (n : ℕ) (d : K) → position_from t i xs ≡ Some n → (k : ℕ) × (n ≡ i + k) × (k < length xs) × (t (get_or xs k d) ≡ true)
position_is t i [] n d h = cc
position_is t i (x ∷ xs) n d h = here (t x) refl h (λ q. position_is t (i + 1) xs n d q)
  where
    here : (b : Bool) → t x ≡ b → cond b (Some i) (position_from t (i + 1) xs) ≡ Some n
        → (position_from t (i + 1) xs ≡ Some n → (k : ℕ) × (n ≡ (i + 1) + k) × (k < length xs) × (t (get_or xs k d) ≡ true))
        → (k : ℕ) × (n ≡ i + k) × (k < length (x ∷ xs)) × (t (get_or (x ∷ xs) k d) ≡ true)
    here true is q more = let e : i ≡ n = cc in (0, omega arith, omega arith, is)
    here false is q more = let (k, e, l, p) = more q in (suc k, omega arith, omega arith, p)

-- the entry that a name leads to has that name
pub named : (nodes : List Data) (t : List ℕ) (n : ℕ) → number_of nodes t ≡ Some n → (n < length nodes) × (is_called t (text_at (entry_at nodes n) Name) ≡ true)
named nodes t n h =
    let (k, e, l, p) = position_is (λ x. is_called t (text_at x Name)) 0 nodes n (boolean false) h in
    let same : k ≡ n = omega arith in
    (omega arith, subst (λ m. is_called t (text_at (get_or nodes m (boolean false)) Name) ≡ true) same p)

one_name : (t u : List ℕ) (o : Option (List ℕ)) → is_called t o ≡ true → is_called u o ≡ true → t ≡ u
one_name t u None a b = cc
one_name t u (Some name) a b = sym ((bytes_eq-Decides name t).0 a) ∙ (bytes_eq-Decides name u).0 b

-- a pool's number is that of a node
pub pool_within : (nodes : List Data) (p : Data) → is_pool_number nodes (pool_number nodes p) ≡ true → unwrap_or (pool_number nodes p) 0 < length nodes
pool_within nodes (string t) h = go (number_of nodes t) refl h
  where
    go : (o : Option ℕ) → number_of nodes t ≡ o → is_pool_number nodes o ≡ true → unwrap_or o 0 < length nodes
    go None is q = cc
    go (Some n) is q = (named nodes t n is).0
pool_within nodes (integer z) h = cc
pool_within nodes (float x) h = cc
pool_within nodes (boolean b) h = cc
pool_within nodes (datetime t) h = cc
pool_within nodes (array ds) h = cc
pool_within nodes (table ms) h = cc

-- texts that lead to one number are one text
pub one_text : (nodes : List Data) (t u : List ℕ) → is_pool_number nodes (number_of nodes t) ≡ true → is_pool_number nodes (number_of nodes u) ≡ true → unwrap_or (number_of nodes t) 0 ≡ unwrap_or (number_of nodes u) 0 → t ≡ u
one_text nodes t u a b same = go (number_of nodes t) (number_of nodes u) refl refl a b same
  where
    go : (o p : Option ℕ) → number_of nodes t ≡ o → number_of nodes u ≡ p → is_pool_number nodes o ≡ true → is_pool_number nodes p ≡ true → unwrap_or o 0 ≡ unwrap_or p 0 → t ≡ u
    go None p x y a b s = cc
    go (Some n) None x y a b s = cc
    go (Some n) (Some m) x y a b s =
        one_name t u (text_at (entry_at nodes n) Name) (named nodes t n x).1 (subst (λ k. is_called u (text_at (entry_at nodes k) Name) ≡ true) (sym s) (named nodes u m y).1)

-- the number of a name is that of an entry
pub number_within : (nodes : List Data) (t : List ℕ) (o : Option ℕ) → o ≡ number_of nodes t → IfSome o (λ n. n < length nodes)
number_within nodes t None is = tt
number_within nodes t (Some n) is = (named nodes t n (sym is)).0
