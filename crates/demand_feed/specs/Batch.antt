-- Changes of a topology by names.
use Rattle.std.specs.Prelude.{ℕ, ◌<◌, ◌≤◌, ◌^◌, ◌&&◌, nat_le, nat_lt, if◌then◌else◌, List, [], ◌∷◌, ◌++◌, length, Option, None, Some, Result, Ok, Err}
use Rattle.map_model.specs.declared.change.Change.{Change}
use Rattle.map_model.specs.declared.change.Change.TheVariants.{Demand, Capacity}
use Rattle.demand_feed.specs.Limits.{most_changes}
use Rattle.topology_text.specs.Plan.{Plan, number_in}
use Rattle.demand_feed.specs.declared.fault.BatchFault.{BatchFault}
use Rattle.demand_feed.specs.declared.fault.BatchFault.TheVariants.{UnknownName, Range, Full}

-- the number of a change is in its range: a demand from 1 to 2^32-1, a capacity up to 2^48
abbrev pub IsInRange : Change → Type 0
IsInRange (Demand group demand) = (1 ≤ demand) × (demand < 2 ^ 32)
IsInRange (Capacity node capacity) = capacity ≤ 2 ^ 48

-- another demand of a group, from 1 to 2^32-1
abbrev pub demand_change : Option ℕ → ℕ → Result Change BatchFault
demand_change None number = Err UnknownName
demand_change (Some g) number = if nat_le 1 number && nat_lt number (2 ^ 32) then Ok (Demand (record { 0 = g }) number) else Err Range

-- another capacity of a node, at most 2^48
abbrev pub capacity_change : Option ℕ → ℕ → Result Change BatchFault
capacity_change None number = Err UnknownName
capacity_change (Some n) number = if nat_le number (2 ^ 48) then Ok (Capacity (record { 0 = n }) number) else Err Range

-- a batch with one change more, of which there are at most 4,096
abbrev pub with_change : List Change → Result Change BatchFault → Result (List Change) BatchFault
with_change changes (Err fault) = Err fault
with_change changes (Ok change) = if nat_lt (length changes) most_changes then Ok (changes ++ change ∷ []) else Err Full

-- a batch with another demand of the group of that name
abbrev pub with_demand : Plan → List Change → List ℕ → ℕ → Result (List Change) BatchFault
with_demand t changes name number = with_change changes (demand_change (number_in t.group_names name) number)

-- a batch with another capacity of the node of that name
abbrev pub with_capacity : Plan → List Change → List ℕ → ℕ → Result (List Change) BatchFault
with_capacity t changes name number = with_change changes (capacity_change (number_in t.node_names name) number)
