-- Loads by node, and units that come to a pool or go from it.
use Rattle.std.specs.Prelude.{◌≡◌, ℕ, ◌+◌, ◌<◌, false, List, [], length, Option, map, slice_index, IsTrue, if◌then◌else◌, ◌-◌}
use Rattle.map_model.specs.declared.instance.Node.{Node}
use Rattle.map_model.specs.declared.instance.NodeId.{NodeId}
use Rattle.map_model.specs.Market.{Market, parent_of}
use Rattle.map_model.specs.Allocation.{is_under}

-- trees of nodes, and the units under each node
pub record Loads : Type 0 where
  pub trees : Market
  pub units : List ℕ

-- a node of which nothing but the parent counts
abbrev pub bare_node : Option NodeId → Node
bare_node parent = record { capacity = 0; parent = parent; is_pool = false }

-- the trees that some parents make: an instance of no groups, whose nodes have those parents
abbrev pub trees_of : List (Option NodeId) → Market
trees_of parents = record { groups = []; nodes = map bare_node parents }

-- the trees are those of an instance: as many nodes, with the same parents
pub record AreTreesOf (m trees : Market) : Type 0 where
  pub nodes : length trees.nodes ≡ length m.nodes
  pub parents : (n : ℕ) → parent_of trees n ≡ parent_of m n

-- the units of each node of the path of a pool
abbrev pub OnPath : Market → ℕ → (ℕ → Type 0) → Type 0
OnPath trees pool holds = (n : ℕ) → n < length trees.nodes → IsTrue (is_under trees n pool) → holds n

-- some units come under a pool: the nodes of its path have as many more, and all else stays
pub record AddsUnits (old new : Loads) (pool units : ℕ) : Type 0 where
  pub trees : new.trees ≡ old.trees
  pub count : length new.units ≡ length old.units
  pub each : (n : ℕ) → n < length old.units → slice_index new.units n ≡ (if is_under old.trees n pool then slice_index old.units n + units else slice_index old.units n)

-- some units go under a pool: the nodes of its path have as many fewer, and all else stays
pub record TakesUnits (old new : Loads) (pool units : ℕ) : Type 0 where
  pub trees : new.trees ≡ old.trees
  pub count : length new.units ≡ length old.units
  pub each : (n : ℕ) → n < length old.units → slice_index new.units n ≡ (if is_under old.trees n pool then slice_index old.units n - units else slice_index old.units n)
