-- Instances: groups that ask pools, trees of capacities, paths, and what makes rows an instance.
use Rattle.std.specs.Prelude.{◌≡◌, refl, ℕ, zero, suc, ◌<◌, ◌≤◌, ◌-◌, ◌^◌, Bool, false, IsTrue, IsFalse, List, [], ◌∷◌, length, Option, None, Some, IfSome, All, AllPairs, slice_index_or}
use Rattle.map_model.specs.declared.instance.NodeId.{NodeId}
use Rattle.map_model.specs.declared.instance.Key.{Key}
use Rattle.map_model.specs.declared.instance.Choice.{Choice}
use Rattle.map_model.specs.declared.instance.Node.{Node}
use Rattle.map_model.specs.declared.limits.TheConstants.{LEVELS, MOST_CAPACITY, MOST_GROUPS, MOST_NODES, NO_LIMIT, PLACES}

-- a group: its demand, and its list of pools with their scores and limits, the best place first
pub record Group : Type 0 where
  pub demand : ℕ
  pub choices : List Choice

-- an instance: the groups that ask pools, and the trees of nodes in which the pools stand
pub record Market : Type 0 where
  pub groups : List Group
  pub nodes : List Node

-- the group of that number
abbrev pub group_at : Market → ℕ → Group
group_at m g = slice_index_or m.groups g (record { demand = 0; choices = [] })

-- how many units a group asks for
abbrev pub demand_of : Market → ℕ → ℕ
demand_of m g = (group_at m g).demand

-- the list of a group
abbrev pub choices_of : Market → ℕ → List Choice
choices_of m g = (group_at m g).choices

-- the pool, the score and the limit at one place of a group's list
abbrev pub choice_at : Market → ℕ → ℕ → Choice
choice_at m g k = slice_index_or (choices_of m g) k (record { pool = record { 0 = 0 }; score = 0; limit = 0 })

-- the number of the pool at one place of a group's list
abbrev pub pool_of : Market → ℕ → ℕ → ℕ
pool_of m g k = (choice_at m g k).pool.0

-- the key of an offer: its score, its group and its pool
abbrev pub key_of : Market → ℕ → ℕ → Key
key_of m g k = record { score = (choice_at m g k).score; group = record { 0 = g }; pool = (choice_at m g k).pool }

-- how many units an offer may hold
abbrev pub limit_of : Market → ℕ → ℕ → ℕ
limit_of m g k = (choice_at m g k).limit

-- the node of that number
abbrev pub node_in : List Node → ℕ → Node
node_in nodes n = slice_index_or nodes n (record { capacity = 0; parent = None; is_pool = false })

-- the node of that number of an instance
abbrev pub node_at : Market → ℕ → Node
node_at m n = node_in m.nodes n

-- how many units a node can hold
abbrev pub capacity_of : Market → ℕ → ℕ
capacity_of m n = (node_at m n).capacity

-- the node right above a node, unless that is a root
abbrev pub parent_of : Market → ℕ → Option NodeId
parent_of m n = (node_at m n).parent

-- whether a node is a pool
abbrev pub is_pool_at : Market → ℕ → Bool
is_pool_at m n = (node_at m n).is_pool

-- the nodes from this one up to the root, at most so many
unfoldable pub climb : ℕ → Market → Option NodeId → List ℕ
climb zero m at = []
climb (suc steps) m None = []
climb (suc steps) m (Some n) = n.0 ∷ climb steps m (parent_of m n.0)

-- the path of a node: itself and the nodes above it, which are at most eight in an instance
abbrev pub path : Market → ℕ → List ℕ
path m n = climb 8 m (Some (record { 0 = n }))

-- a group over these nodes: 1 to 2^32-1 units, and a list of 1 to 16 distinct pools, each with a limit of 1 to 2^32-1 units
pub record IsGroup (nodes : List Node) (group : Group) : Type 0 where
  pub some : 1 ≤ group.demand
  pub fits : group.demand < 2 ^ 32
  pub asks : 1 ≤ length group.choices
  pub few : length group.choices ≤ 16
  pub there : All (λ c. c.pool.0 < length nodes) group.choices
  pub pools : All (λ c. IsTrue (node_in nodes c.pool.0).is_pool) group.choices
  pub limits : All (λ c. (1 ≤ c.limit) × (c.limit < 2 ^ 32)) group.choices
  pub distinct : AllPairs (λ c d. c.pool.0 ≡ d.pool.0 → ⊥) group.choices

-- What makes groups and nodes an instance: at most 65,536 groups; at most 8,192 nodes with capacities of at most 2^48, in trees: each parent has a lower number than its children and is no pool, and no path has nine nodes.
pub record IsMarket (m : Market) : Type 0 where
  pub few_groups : length m.groups ≤ 65536
  pub few_nodes : length m.nodes ≤ 8192
  pub groups : All (λ g. IsGroup m.nodes g) m.groups
  pub capacities : All (λ n. n.capacity ≤ 2 ^ 48) m.nodes
  pub parents : (n : ℕ) → n < length m.nodes → IfSome (parent_of m n) (λ p. p.0 < n)
  pub inner : (n : ℕ) → n < length m.nodes → IfSome (parent_of m n) (λ p. IsFalse (is_pool_at m p.0))
  pub shallow : (n : ℕ) → n < length m.nodes → length (climb 9 m (Some (record { 0 = n }))) ≤ 8

-- the constants of the code are these numerals
pub levels_is : LEVELS ≡ 8
levels_is = refl

pub places_is : PLACES ≡ 16
places_is = refl

pub most_groups_is : MOST_GROUPS ≡ 65536
most_groups_is = refl

pub most_nodes_is : MOST_NODES ≡ 8192
most_nodes_is = refl

pub most_capacity_is : MOST_CAPACITY ≡ 2 ^ 48
most_capacity_is = refl

pub no_limit_is : NO_LIMIT ≡ 2 ^ 32 - 1
no_limit_is = refl

-- two instances that differ in demands and capacities alone: the lists, their limits too, and the trees are the same
pub record IsSameShape (old new : Market) : Type 0 where
  pub groups : length new.groups ≡ length old.groups
  pub nodes : length new.nodes ≡ length old.nodes
  pub lists : (g : ℕ) → choices_of new g ≡ choices_of old g
  pub trees : (n : ℕ) → parent_of new n ≡ parent_of old n
  pub pools : (n : ℕ) → is_pool_at new n ≡ is_pool_at old n
