-- Tests of rows: distinct pools, depths, and how trees and groups make an instance.
use Rattle.std.proofs.Common.{◌≡◌, ℕ, suc, ◌+◌, ◌-◌, ◌<◌, ◌≤◌, ◌^◌, Bool, true, false, not, List, length, Option, None, Some, IfSome, IsTrue, IsFalse, All, AllPairs, slice_index_or, get_or, take, refl, sym, ap, ◌∙◌, subst, inl, inr, arith}
use Rattle.std.specs.Option.{is_some}
use Rattle.std.proofs.lemmas.Bool.{false≢true, true≢false, cases_eq}
use Rattle.std.proofs.lemmas.List.{get_or-take, get_or_default, length-take-le}
use Rattle.map_model.specs.declared.instance.Choice.{Choice}
use Rattle.map_model.specs.declared.instance.Node.{Node}
use Rattle.map_model.specs.declared.instance.NodeId.{NodeId}
use Rattle.map_model.specs.Market.{Group, IsGroup, IsMarket, climb, node_in}
use Rattle.map_model.specs.Rows.{HasTreeNodes, trees_of}
use Rattle.map_model.proofs.Paths.{climb_none}
use Rattle.map_model.proofs.Markets.{climb-same}

-- the pool of a choice that is there
same_pool : (xs : List Choice) (i : ℕ) (c d : Choice) → i < length xs → (slice_index_or xs i c).pool.0 ≡ (slice_index_or xs i d).pool.0
same_pool xs i c d within = ap (λ (x : Choice). x.pool.0) (get_or_default xs i c d within)

-- one choice more with a pool of its own
pub distinct_more : (xs : List Choice) (i : ℕ) (c : Choice) → i < length xs
    → ((a b : ℕ) (d : Choice) → a < b → b < i → (slice_index_or xs a d).pool.0 ≡ (slice_index_or xs b d).pool.0 → ⊥)
    → All (λ x. x.pool.0 ≡ (slice_index_or xs i c).pool.0 → ⊥) (take i xs)
    → (a b : ℕ) (d : Choice) → a < b → b < i + 1 → (slice_index_or xs a d).pool.0 ≡ (slice_index_or xs b d).pool.0 → ⊥
distinct_more xs i c within before new a b d l m same = elim (cases_eq b i) [
  | inl e ↦ let within_i : a < i = omega arith in
      let there : a < length (take i xs) = omega (arith, length-take-le i xs (omega arith)) in
      let was : get_or (take i xs) a d ≡ get_or xs a d = get_or-take i xs a d within_i in
      new a d there (ap (λ (x : Choice). x.pool.0) was ∙ same ∙ ap (λ j. (slice_index_or xs j d).pool.0) e ∙ same_pool xs i d c within)
  | inr ne ↦ before a b d l (omega arith) same
]

-- a choice whose pool stands before it
pub not_distinct : (xs : List Choice) (i : ℕ) (c : Choice) → i < length xs → AllPairs (λ c d. c.pool.0 ≡ d.pool.0 → ⊥) xs → All (λ x. x.pool.0 ≡ (slice_index_or xs i c).pool.0 → ⊥) (take i xs)
not_distinct xs i c within all k d l same =
    let before : k < i = omega (arith, length-take-le i xs (omega arith)) in
    all k i d before within (ap (λ (x : Choice). x.pool.0) (sym (get_or-take i xs k d before)) ∙ same ∙ same_pool xs i c d within)

-- a step of a climb through a node
climb_up : (nodes : List Node) (i n : ℕ) (p : NodeId) → i < n → length (climb (n - i) (trees_of nodes) (Some p)) ≡ 1 + length (climb (n - (i + 1)) (trees_of nodes) (node_in nodes p.0).parent)
unfolding climb
climb_up nodes i n p h =
    let e : n - i ≡ suc (n - (i + 1)) = omega arith in
    let up : length (climb (n - i) (trees_of nodes) (Some p)) ≡ suc (length (climb (n - (i + 1)) (trees_of nodes) (node_in nodes p.0).parent)) = ap (λ s. length (climb s (trees_of nodes) (Some p))) e in
    rw up (omega arith)

pub there_up : (nodes : List Node) → HasTreeNodes nodes → (p : NodeId) → p.0 < length nodes → IfSome (node_in nodes p.0).parent (λ q. q.0 < length nodes)
there_up nodes trees p within = there (node_in nodes p.0).parent (trees p.0 within).parent
  where
    there : (at : Option NodeId) → IfSome at (λ q. (q.0 < p.0) × IsFalse (node_in nodes q.0).is_pool) → IfSome at (λ q. q.0 < length nodes)
    there None h = tt
    there (Some q) h = let l : q.0 < p.0 = h.0 in omega arith

-- one turn of the measuring of a path
pub deep_up : (nodes : List Node) (i depth : ℕ) (p : NodeId) (at : Option NodeId) → i < 9 → at ≡ Some p → depth ≡ i + length (climb (9 - i) (trees_of nodes) at) → depth ≡ (i + 1) + length (climb (9 - (i + 1)) (trees_of nodes) (node_in nodes p.0).parent)
deep_up nodes i depth p at h is deep =
    let now : depth ≡ i + length (climb (9 - i) (trees_of nodes) (Some p)) = rw is at deep in
    omega (arith, climb_up nodes i 9 p h)

-- a path that has ended
pub deep_none : (nodes : List Node) (i n depth : ℕ) (at : Option NodeId) → at ≡ None → depth ≡ i + length (climb n (trees_of nodes) at) → depth ≡ i
deep_none nodes i n depth at is deep =
    let now : depth ≡ i + length (climb n (trees_of nodes) None) = rw is at deep in
    let none : length (climb n (trees_of nodes) None) ≡ 0 = ap length (climb_none (trees_of nodes) n) in
    omega arith

-- the end of the measuring: eight nodes were passed
pub deep_done : (nodes : List Node) (i depth : ℕ) (at : Option NodeId) (ended : Bool) → 8 ≤ i → i ≤ 8 → is_some at ≡ not ended → depth ≡ i + length (climb (9 - i) (trees_of nodes) at)
    → (IsTrue ended → depth ≤ 8) × (depth ≤ 8 → IsTrue ended)
deep_done nodes i depth None ended low high is deep = (λ _. omega (arith, deep_none nodes i (9 - i) depth None refl deep), λ _. ended_true ended is)
  where
    ended_true : (b : Bool) → false ≡ not b → IsTrue b
    ended_true true e = refl
    ended_true false e = absurd (false≢true e)
deep_done nodes i depth (Some p) ended low high is deep = (λ e. absurd (true≢false (is ∙ ap not e)), λ few. absurd (omega (arith, deep_up nodes i depth p (Some p) (omega arith) refl deep)))

-- nodes that are the trees of an instance
pub trees_IsMarket : (nodes : List Node) → length nodes ≤ 8192 → HasTreeNodes nodes → ((n : ℕ) → n < length nodes → length (climb 9 (trees_of nodes) (Some (record { 0 = n }))) ≤ 8) → IsMarket (trees_of nodes)
trees_IsMarket nodes few trees shallow = record {
  few_groups = omega arith;
  few_nodes = few;
  groups = λ k d l. absurd (omega arith);
  capacities = λ k d l. subst (λ (n : Node). n.capacity ≤ 2 ^ 48) (get_or_default nodes k _ d l) (trees k l).capacity;
  parents = λ n l. lower (node_in nodes n).parent n (trees n l).parent;
  inner = λ n l. inside (node_in nodes n).parent n (trees n l).parent;
  shallow = shallow;
}
  where
    lower : (at : Option NodeId) (n : ℕ) → IfSome at (λ p. (p.0 < n) × IsFalse (node_in nodes p.0).is_pool) → IfSome at (λ p. p.0 < n)
    lower None n h = tt
    lower (Some p) n h = h.0

    inside : (at : Option NodeId) (n : ℕ) → IfSome at (λ p. (p.0 < n) × IsFalse (node_in nodes p.0).is_pool) → IfSome at (λ p. IsFalse (node_in nodes p.0).is_pool)
    inside None n h = tt
    inside (Some p) n h = h.1

-- and what is said of each node then
pub IsMarket_trees : (nodes : List Node) → IsMarket (trees_of nodes) → HasTreeNodes nodes
IsMarket_trees nodes market n l = record {
  capacity = market.capacities n _ l;
  parent = both (node_in nodes n).parent (market.parents n l) (market.inner n l);
}
  where
    both : (at : Option NodeId) → IfSome at (λ p. p.0 < n) → IfSome at (λ p. IsFalse (node_in nodes p.0).is_pool) → IfSome at (λ p. (p.0 < n) × IsFalse (node_in nodes p.0).is_pool)
    both None g h = tt
    both (Some p) g h = (g, h)

-- an instance is trees, and groups over them
pub rows_IsMarket : (groups : List Group) (nodes : List Node) → length groups ≤ 65536 → IsMarket (trees_of nodes) → All (λ g. IsGroup nodes g) groups → IsMarket (record { groups = groups; nodes = nodes })
rows_IsMarket groups nodes few trees all = record {
  few_groups = few;
  few_nodes = trees.few_nodes;
  groups = all;
  capacities = trees.capacities;
  parents = trees.parents;
  inner = trees.inner;
  shallow = λ n l. rw (climb-same (trees_of nodes) (record { groups = groups; nodes = nodes }) (λ _. refl) 9 (Some (record { 0 = n }))) (trees.shallow n l);
}

pub IsMarket_rows : (groups : List Group) (nodes : List Node) → IsMarket (record { groups = groups; nodes = nodes }) → IsMarket (trees_of nodes)
IsMarket_rows groups nodes market = record {
  few_groups = omega arith;
  few_nodes = market.few_nodes;
  groups = λ k d l. absurd (omega arith);
  capacities = market.capacities;
  parents = market.parents;
  inner = market.inner;
  shallow = λ n l. rw (climb-same (record { groups = groups; nodes = nodes }) (trees_of nodes) (λ _. refl) 9 (Some (record { 0 = n }))) (market.shallow n l);
}

pub ruleset tree_tests = (trees_IsMarket, IsMarket_trees)

pub ruleset row_tests = (rows_IsMarket, IsMarket_rows)
