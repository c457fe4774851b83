-- Batches of changes: what is in range, and an instance to which a batch was applied.
use Rattle.std.specs.Prelude.{◌≡◌, ℕ, ◌<◌, ◌≤◌, ◌^◌, ◌==◌, if◌then◌else◌, List, length, Option, None, Some, All, unwrap_or}
use Rattle.std.specs.List.{filter_map, last_or}
use Rattle.map_model.specs.declared.change.Change.{Change}
use Rattle.map_model.specs.declared.change.Change.TheVariants.{Demand, Capacity}
use Rattle.map_model.specs.Market.{Market, IsSameShape, capacity_of, demand_of}

-- the number that a change gives to a group's demand
abbrev pub demand_by : ℕ → Change → Option ℕ
demand_by g (Demand group demand) = if group.0 == g then Some demand else None
demand_by g (Capacity node capacity) = None

-- the number that a change gives to a node's capacity
abbrev pub capacity_by : ℕ → Change → Option ℕ
capacity_by n (Demand group demand) = None
capacity_by n (Capacity node capacity) = if node.0 == n then Some capacity else None

-- the last number that a list of changes gives to a group's demand
abbrev pub last_demand : List Change → ℕ → Option ℕ
last_demand changes g = last_or None (filter_map (demand_by g) changes)

-- the last number that a list of changes gives to a node's capacity
abbrev pub last_capacity : List Change → ℕ → Option ℕ
last_capacity changes n = last_or None (filter_map (capacity_by n) changes)

-- a batch applied: each changed name has the number of its last change, and all else stays
pub record IsApplied (old : Market) (changes : List Change) (new : Market) : Type 0 where
  pub shape : IsSameShape old new
  pub demands : (g : ℕ) → g < length old.groups → demand_of new g ≡ unwrap_or (last_demand changes g) (demand_of old g)
  pub capacities : (n : ℕ) → n < length old.nodes → capacity_of new n ≡ unwrap_or (last_capacity changes n) (capacity_of old n)

-- a change of an instance: its group or node is there, and its number is in range
abbrev pub IsChange : Market → Change → Type 0
IsChange m (Demand group demand) = (group.0 < length m.groups) × (1 ≤ demand) × (demand < 2 ^ 32)
IsChange m (Capacity node capacity) = (node.0 < length m.nodes) × (capacity ≤ 2 ^ 48)

-- a batch for an instance: each of its changes is one of that instance
abbrev pub IsBatch : Market → List Change → Type 0
IsBatch m changes = All (λ change. IsChange m change) changes
