-- Inside this crate alone: what is tested of rows of nodes.
use Rattle.std.specs.Prelude.{ℕ, ◌<◌, ◌≤◌, ◌^◌, List, [], length, IfSome, IsFalse}
use Rattle.map_model.specs.declared.instance.Node.{Node}
use Rattle.map_model.specs.Market.{Market, node_in}

-- nodes with no groups
abbrev pub trees_of : List Node → Market
trees_of nodes = record { groups = []; nodes = nodes }

-- the node of that number has a capacity in range, and a parent that has a lower number and is no pool, or none
pub record HasTreeNode (nodes : List Node) (n : ℕ) : Type 0 where
  pub capacity : (node_in nodes n).capacity ≤ 2 ^ 48
  pub parent : IfSome (node_in nodes n).parent (λ p. (p.0 < n) × IsFalse (node_in nodes p.0).is_pool)

-- and so has each
abbrev pub HasTreeNodes : List Node → Type 0
HasTreeNodes nodes = (n : ℕ) → n < length nodes → HasTreeNode nodes n
