-- The trees that a list of parents makes.
use Rattle.std.proofs.Common.{◌≡◌, ℕ, ◌<◌, ◌≤◌, ◌^◌, false, List, length, Option, None, Some, IfSome, IsFalse, slice_index_or, get_or, ◌⊎◌, sym, ap, ◌∙◌, subst, inl, inr, arith}
use Rattle.std.proofs.lemmas.List.{get_or_default}
use Rattle.std.proofs.Math.ListN.{get_or-map, get_or-eq_default, length-map}
use Rattle.std.proofs.lemmas.Bool.{cases_lt}
use Rattle.map_model.specs.declared.instance.Node.{Node}
use Rattle.map_model.specs.declared.instance.NodeId.{NodeId}
use Rattle.map_model.specs.Market.{Market, IsMarket, is_pool_at, node_in, parent_of}
use Rattle.map_model.proofs.Markets.{climb-same}
use Rattle.map_model.proofs.Paths.{parent_there, walk_there}
use Rattle.capacity_tree.specs.Loads.{AreTreesOf, bare_node, trees_of}

-- the node of that number, of the trees that some parents make
node_in-trees : (parents : List (Option NodeId)) (n : ℕ) → node_in (trees_of parents).nodes n ≡ bare_node (slice_index_or parents n None)
node_in-trees parents n = get_or-map bare_node parents n None

pub parent_of-trees : (parents : List (Option NodeId)) (n : ℕ) → parent_of (trees_of parents) n ≡ slice_index_or parents n None
parent_of-trees parents n = ap (λ (x : Node). x.parent) (node_in-trees parents n)

pub length-trees : (parents : List (Option NodeId)) → length (trees_of parents).nodes ≡ length parents
length-trees parents = length-map parents bare_node

-- trees with the parents of an instance are its trees
pub AreTreesOf-made : (m : Market) (parents : List (Option NodeId)) → length parents ≡ length m.nodes → ((n : ℕ) → n < length m.nodes → slice_index_or parents n None ≡ parent_of m n) → AreTreesOf m (trees_of parents)
AreTreesOf-made m parents size same = record {
  nodes = length-trees parents ∙ size;
  parents = λ n. parent_of-trees parents n ∙ each n (cases_lt n (length m.nodes));
}
  where
    each : (n : ℕ) → (n < length m.nodes) ⊎ (length m.nodes ≤ n) → slice_index_or parents n None ≡ parent_of m n
    each n (inl l) = same n l
    each n (inr g) = get_or-eq_default parents None (omega (arith, size)) ∙ sym (ap (λ (x : Node). x.parent) (get_or-eq_default m.nodes (record { capacity = 0; parent = None; is_pool = false }) g))

-- and they are trees of an instance
pub IsMarket-trees : (m : Market) (parents : List (Option NodeId)) → IsMarket m → AreTreesOf m (trees_of parents) → IsMarket (trees_of parents)
IsMarket-trees m parents market are = record {
  few_groups = omega arith;
  few_nodes = omega (arith, are.nodes, market.few_nodes);
  groups = λ k d l. absurd (omega arith);
  capacities = λ k d l. small k d l;
  parents = λ n l. subst (λ at. IfSome at (λ p. p.0 < n)) (sym (are.parents n)) (market.parents n (omega (arith, are.nodes)));
  inner = λ n l. bare (parent_of (trees_of parents) n);
  shallow = λ n l. rw (climb-same m (trees_of parents) are.parents 9 (Some (record { 0 = n }))) (market.shallow n (omega (arith, are.nodes)));
}
  where
    small : (k : ℕ) (d : Node) → k < length (trees_of parents).nodes → (get_or (trees_of parents).nodes k d).capacity ≤ 2 ^ 48
    small k d l =
        let e : get_or (trees_of parents).nodes k d ≡ bare_node (slice_index_or parents k None) = get_or_default (trees_of parents).nodes k d (bare_node None) l ∙ node_in-trees parents k in
        let z : (get_or (trees_of parents).nodes k d).capacity ≡ 0 = ap (λ (x : Node). x.capacity) e in
        omega arith

    bare : (at : Option NodeId) → IfSome at (λ p. IsFalse (is_pool_at (trees_of parents) p.0))
    bare None = tt
    bare (Some p) = ap (λ (x : Node). x.is_pool) (node_in-trees parents p.0)

-- the node after one that is there is there
pub there_next : (parents : List (Option NodeId)) → IsMarket (trees_of parents) → (p : NodeId) (at at' : Option NodeId) → at ≡ Some p → at' ≡ parent_of (trees_of parents) p.0 → IfSome at (λ q. q.0 < length parents) → IfSome at' (λ q. q.0 < length parents)
there_next parents market p at at' is up there =
    let e : length (trees_of parents).nodes ≡ length parents = length-trees parents in
    subst (λ n. IfSome at' (λ q. q.0 < n)) e (walk_there (trees_of parents) market p at at' is up (subst (λ n. IfSome at (λ q. q.0 < n)) (sym e) there))

pub there_up : (parents : List (Option NodeId)) → IsMarket (trees_of parents) → (n : ℕ) → n < length parents → IfSome (parent_of (trees_of parents) n) (λ q. q.0 < length parents)
there_up parents market n within =
    let e : length (trees_of parents).nodes ≡ length parents = length-trees parents in
    subst (λ k. IfSome (parent_of (trees_of parents) n) (λ q. q.0 < k)) e (parent_there (trees_of parents) market n (omega arith))
