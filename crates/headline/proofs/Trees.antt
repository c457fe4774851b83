-- Paths: those of the page are those of the program.
use Rattle.std.proofs.Common.{◌≡◌, inl, inr, ℕ, zero, suc, ◌+◌, ◌<◌, ◌≤◌, List, [], ◌∷◌, length, map, slice_get, slice_index_or, Option, None, Some, option_map, option_and_then, refl, ap, sym, subst, ◌∙◌, arith}
use Rattle.std.specs.Prelude.{IfSome}
use Rattle.map_model.specs.declared.instance.NodeId.{NodeId}
use Rattle.map_model.specs.declared.instance.Choice as code_choice
use Rattle.map_model.specs.declared.instance.Node as code_node
use Rattle.map_model.specs.Market.{Market, IsMarket, IsSameShape, choices_of, climb, node_in, parent_of, pool_of}
use Rattle.map_model.specs.Allocation.{IsOffer}
use Rattle.headline.specs.Headline.{up}
use Rattle.headline.specs.View.{Node, node}
use Rattle.headline.proofs.Lists.{In}

-- the number of a node
abbrev pub number : Option NodeId → Option ℕ
number at = option_map (λ (p : NodeId). p.0) at

parent_at : (nodes : List code_node.Node) (n : ℕ) → option_and_then (λ (x : Node). x.parent) (slice_get (map node nodes) n) ≡ number (node_in nodes n).parent
parent_at [] n = refl
parent_at (x ∷ xs) zero = refl
parent_at (x ∷ xs) (suc n) = parent_at xs n

pub up_is : (most : ℕ) (m : Market) (at : Option NodeId) → up most (map node m.nodes) (number at) ≡ climb most m at
unfolding climb
up_is zero m at = refl
up_is (suc most) m None = refl
up_is (suc most) m (Some n) = ap (λ xs. n.0 ∷ xs) (ap (up most (map node m.nodes)) (parent_at m.nodes n.0) ∙ up_is most m (parent_of m n.0))

climb_none : (steps : ℕ) (m : Market) → climb steps m None ≡ []
unfolding climb
climb_none zero m = refl
climb_none (suc steps) m = refl

-- what of an instance makes its nodes trees with pools in them
pub record IsForest (m : Market) : Type 0 where
  pub parents : (n : ℕ) → n < length m.nodes → IfSome (parent_of m n) (λ p. p.0 < n)
  pub shallow : (n : ℕ) → n < length m.nodes → length (climb 9 m (Some (record { 0 = n }))) ≤ 8
  pub pools : (g k : ℕ) → IsOffer m g k → pool_of m g k < length m.nodes

pub forest : (m : Market) → IsMarket m → IsForest m
forest m ok = record { parents = ok.parents; shallow = ok.shallow; pools = λ g k o. (ok.groups g _ o.group).there k _ o.place }

climb_same : (steps : ℕ) (a b : Market) → IsSameShape a b → (at : Option NodeId) → climb steps b at ≡ climb steps a at
unfolding climb
climb_same zero a b same at = refl
climb_same (suc steps) a b same None = refl
climb_same (suc steps) a b same (Some n) = ap (λ xs. n.0 ∷ xs) (ap (climb steps b) (same.trees n.0) ∙ climb_same steps a b same (parent_of a n.0))

-- other demands and capacities leave the trees
pub forest_like : (a b : Market) → IsForest a → IsSameShape a b → IsForest b
forest_like a b ok same = record {
  parents = λ n l. subst (λ at. IfSome at (λ p. p.0 < n)) (sym (same.trees n)) (ok.parents n (let e = same.nodes in omega (arith, l, e)));
  shallow = λ n l. let h = ok.shallow n (let e = same.nodes in omega (arith, l, e)) in subst (λ (xs : List ℕ). length xs ≤ 8) (sym (climb_same 9 a b same (Some (record { 0 = n })))) h;
  pools = λ g k o.
      let e = same.nodes in
      let there : k < length (choices_of a g) = subst (λ (xs : List code_choice.Choice). k < length xs) (same.lists g) o.place in
      let group : g < length a.groups = let f = same.groups in let l = o.group in omega (arith, f, l) in
      let is : pool_of b g k ≡ pool_of a g k = ap (λ (xs : List code_choice.Choice). (slice_index_or xs k (record { pool = record { 0 = 0 }; score = 0; limit = 0 })).pool.0) (same.lists g) in
      let l = ok.pools g k (record { group = group; place = there }) in
      omega (arith, is, l, e);
}

-- where a climb of one step more is no longer than so many, more steps change nothing
climb_more : (steps more : ℕ) (m : Market) (at : Option NodeId) → length (climb (suc steps) m at) ≤ steps → climb (steps + more) m at ≡ climb steps m at
unfolding climb
climb_more steps more m None h = climb_none (steps + more) m ∙ sym (climb_none steps m)
climb_more zero more m (Some n) h = absurd (omega (arith, h))
climb_more (suc steps) more m (Some n) h =
    let e : suc steps + more ≡ suc (steps + more) = omega arith in
    let rest : length (climb (suc steps) m (parent_of m n.0)) ≤ steps = omega (arith, h) in
    ap (λ k. climb k m (Some n)) e ∙ ap (λ xs. n.0 ∷ xs) (climb_more steps more m (parent_of m n.0) rest)

-- parents have lower numbers, so no path has more nodes than the number of its first one, and one
climb_low : (steps more : ℕ) (m : Market) → IsForest m → (n : NodeId) → n.0 < steps → n.0 < length m.nodes → climb (steps + more) m (Some n) ≡ climb steps m (Some n)
unfolding climb
climb_low zero more m market n l there = absurd (omega arith)
climb_low (suc steps) more m market n l there =
    let e : suc steps + more ≡ suc (steps + more) = omega arith in
    ap (λ k. climb k m (Some n)) e ∙ ap (λ xs. n.0 ∷ xs) (on (λ q low in_it. climb_low steps more m market q low in_it) (parent_of m n.0) (market.parents n.0 there))
  where
    on : ((q : NodeId) → q.0 < steps → q.0 < length m.nodes → climb (steps + more) m (Some q) ≡ climb steps m (Some q)) → (at : Option NodeId) → IfSome at (λ p. p.0 < n.0) → climb (steps + more) m at ≡ climb steps m at
    on rest None h = climb_none (steps + more) m ∙ sym (climb_none steps m)
    on rest (Some q) h = rest q (omega arith) (omega arith)

-- as many steps as there are nodes are enough
pub climb_all : (m : Market) → IsForest m → (n : NodeId) → n.0 < length m.nodes → climb (length m.nodes) m (Some n) ≡ climb 8 m (Some n)
climb_all m market n there =
    let e : length m.nodes + 8 ≡ 8 + length m.nodes = omega arith in
    sym (climb_low (length m.nodes) 8 m market n there there) ∙ ap (λ k. climb k m (Some n)) e ∙ climb_more 8 (length m.nodes) m (Some n) (market.shallow n.0 there)

-- all nodes of a path are there
pub path_there : (steps : ℕ) (m : Market) → IsForest m → (at : Option NodeId) → IfSome at (λ p. p.0 < length m.nodes) → (n : ℕ) → In (climb steps m at) n → n < length m.nodes
unfolding climb
path_there zero m market at h n i = absurd i
path_there (suc steps) m market None h n i = absurd i
path_there (suc steps) m market (Some p) h n (inl e) = subst (λ k. k < length m.nodes) e h
path_there (suc steps) m market (Some p) h n (inr i) = path_there steps m market (parent_of m p.0) (lower (parent_of m p.0) (market.parents p.0 h)) n i
  where
    lower : (at : Option NodeId) → IfSome at (λ q. q.0 < p.0) → IfSome at (λ q. q.0 < length m.nodes)
    lower None g = tt
    lower (Some q) g = omega arith
