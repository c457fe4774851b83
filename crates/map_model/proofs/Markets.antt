-- An instance with one number changed is one, and paths depend on parents alone.
use Rattle.std.proofs.Common.{◌≡◌, ℕ, zero, suc, ◌<◌, ◌≤◌, ◌^◌, List, ◌∷◌, length, Option, None, Some, IfSome, IsTrue, IsFalse, All, AllPairs, slice_set, refl, sym, ap, ◌∙◌, subst, arith}
use Rattle.std.proofs.Math.ListN.{length-set}
use Rattle.std.proofs.lemmas.Bool.{cases_eq}
use Rattle.std.proofs.lemmas.List.Elements.{All-set, All-weaker}
use Rattle.std.proofs.lemmas.Grind.{common_steps}
use Rattle.map_model.specs.declared.instance.NodeId.{NodeId}
use Rattle.map_model.specs.declared.instance.Node.{Node}
use Rattle.map_model.specs.Market.{Group, Market, IsMarket, IsGroup, climb, parent_of, is_pool_at, node_in, choices_of, group_at}

-- paths depend on parents alone
pub climb-same : (m m' : Market) → ((n : ℕ) → parent_of m' n ≡ parent_of m n) → (steps : ℕ) (at : Option NodeId) → climb steps m' at ≡ climb steps m at
unfolding climb
climb-same m m' same zero at = refl
climb-same m m' same (suc steps) None = refl
climb-same m m' same (suc steps) (Some n) =
    ap (λ at. n.0 ∷ climb steps m' at) (same n.0) ∙ ap (λ ns. n.0 ∷ ns) (climb-same m m' same steps (parent_of m n.0))

-- an instance with one node's capacity changed
pub parent_of-set : (m : Market) (n : ℕ) (node : Node) → n < length m.nodes → node.parent ≡ parent_of m n → (x : ℕ) → parent_of (record m { nodes = slice_set m.nodes n node }) x ≡ parent_of m x
parent_of-set m n node within same x = grind (arith, common_steps, cases_eq x n)

pub is_pool_in-set : (nodes : List Node) (n : ℕ) (node : Node) → n < length nodes → node.is_pool ≡ (node_in nodes n).is_pool → (x : ℕ) → (node_in (slice_set nodes n node) x).is_pool ≡ (node_in nodes x).is_pool
is_pool_in-set nodes n node within same x = grind (arith, common_steps, cases_eq x n)

-- a group is one over any nodes of which as many are there and the same are pools
pub IsGroup-same : (nodes nodes' : List Node) → length nodes' ≡ length nodes → ((x : ℕ) → (node_in nodes' x).is_pool ≡ (node_in nodes x).is_pool) → (group : Group) → IsGroup nodes group → IsGroup nodes' group
IsGroup-same nodes nodes' len same group h = record {
  some = h.some;
  fits = h.fits;
  asks = h.asks;
  few = h.few;
  there = λ k d l. omega (arith, h.there k d l);
  pools = λ k d l. same _ ∙ h.pools k d l;
  limits = h.limits;
  distinct = h.distinct;
}

-- each parent that is no pool is so where the same nodes are pools
inner-same : (m m' : Market) → ((x : ℕ) → is_pool_at m' x ≡ is_pool_at m x) → (at : Option NodeId) → IfSome at (λ p. IsFalse (is_pool_at m p.0)) → IfSome at (λ p. IsFalse (is_pool_at m' p.0))
inner-same m m' same None h = tt
inner-same m m' same (Some p) h = same p.0 ∙ h

pub IsMarket-set_node : (m : Market) (n : ℕ) (node : Node) → IsMarket m → n < length m.nodes → node.parent ≡ parent_of m n → node.is_pool ≡ is_pool_at m n → node.capacity ≤ 2 ^ 48 → IsMarket (record m { nodes = slice_set m.nodes n node })
IsMarket-set_node m n node market within same same_pool fits =
    let m' : Market = record m { nodes = slice_set m.nodes n node } in
    let len : length m'.nodes ≡ length m.nodes = length-set m.nodes n node in
    let parents : (x : ℕ) → parent_of m' x ≡ parent_of m x = parent_of-set m n node within same in
    let pools : (x : ℕ) → is_pool_at m' x ≡ is_pool_at m x = is_pool_in-set m.nodes n node within same_pool in
    record {
      few_groups = market.few_groups;
      few_nodes = omega (arith, market.few_nodes);
      groups = All-weaker (λ g. IsGroup m.nodes g) (λ g. IsGroup m'.nodes g) (IsGroup-same m.nodes m'.nodes len pools) m.groups market.groups;
      capacities = All-set (λ n. n.capacity ≤ 2 ^ 48) m.nodes n node fits market.capacities;
      parents = λ x l. subst (λ at. IfSome at (λ p. p.0 < x)) (sym (parents x)) (market.parents x (omega arith));
      inner = λ x l. subst (λ at. IfSome at (λ p. IsFalse (is_pool_at m' p.0))) (sym (parents x)) (inner-same m m' pools (parent_of m x) (market.inner x (omega arith)));
      shallow = λ x l. rw (climb-same m m' parents 9 (Some (record { 0 = x }))) (market.shallow x (omega arith));
    }

-- an instance with one group's demand changed
pub IsMarket-set_group : (m : Market) (g : ℕ) (group : Group) → IsMarket m → g < length m.groups → group.choices ≡ choices_of m g → 1 ≤ group.demand → group.demand < 2 ^ 32 → IsMarket (record m { groups = slice_set m.groups g group })
IsMarket-set_group m g group market within same some fits =
    let m' : Market = record m { groups = slice_set m.groups g group } in
    let was : IsGroup m.nodes (group_at m g) = market.groups g _ within in
    let now : IsGroup m.nodes group = record {
      some = some;
      fits = fits;
      asks = subst (λ (cs : List _). 1 ≤ length cs) (sym same) was.asks;
      few = subst (λ (cs : List _). length cs ≤ 16) (sym same) was.few;
      there = subst (λ (cs : List _). All (λ c. c.pool.0 < length m.nodes) cs) (sym same) was.there;
      pools = subst (λ (cs : List _). All (λ c. IsTrue (node_in m.nodes c.pool.0).is_pool) cs) (sym same) was.pools;
      limits = subst (λ (cs : List _). All (λ c. (1 ≤ c.limit) × (c.limit < 2 ^ 32)) cs) (sym same) was.limits;
      distinct = subst (λ (cs : List _). AllPairs (λ c d. c.pool.0 ≡ d.pool.0 → ⊥) cs) (sym same) was.distinct;
    } in
    record {
      few_groups = omega (arith, length-set m.groups g group, market.few_groups);
      few_nodes = market.few_nodes;
      groups = All-set (λ h. IsGroup m.nodes h) m.groups g group now market.groups;
      capacities = market.capacities;
      parents = market.parents;
      inner = market.inner;
      shallow = λ x l. rw (climb-same m m' (λ _. refl) 9 (Some (record { 0 = x }))) (market.shallow x l);
    }
