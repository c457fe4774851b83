-- Inside this crate alone: where a unit goes on that leaves a node, chains of that, and numbers along them.
use Rattle.std.specs.Prelude.{◌≡◌, ℕ, ◌<◌, List, length, Option, None, Some, IfSome, slice_index, slice_index_or}
use Rattle.map_model.specs.declared.instance.NodeId.{NodeId}
use Rattle.map_model.specs.declared.lines.MapLine.{MapLine}
use Rattle.map_model.specs.Market.{Market, demand_of, limit_of, pool_of}
use Rattle.map_model.specs.Allocation.{placed}
use Rattle.map_laws.specs.Circles.{IsLastPlace, IsNextInLine}

-- each node leads to one of them, or to none
abbrev pub LeadInside : List (Option NodeId) → Type 0
LeadInside leads = (n : ℕ) → n < length leads → IfSome (slice_index_or leads n None) (λ p. p.0 < length leads)

-- Where a unit leaves a node and the group next in line there is placed whole, the node leads to the pool of the group's last place: there a unit leaves in turn.
pub record AreLeads (m : Market) (lines : List MapLine) (leads : List (Option NodeId)) : Type 0 where
  pub inside : LeadInside leads
  pub leads_on : (n g k j : ℕ) → n < length leads → IsNextInLine m (limit_of m) lines n g k → placed lines g ≡ demand_of m g → IsLastPlace lines g j → slice_index_or leads n None ≡ Some (record { 0 = pool_of m g j })

-- numbers that fall from each node to the one that it leads to
abbrev pub FallAlong : List (Option NodeId) → List ℕ → Type 0
FallAlong leads numbers = (n : ℕ) → n < length leads → IfSome (slice_index_or leads n None) (λ p. slice_index numbers p.0 < slice_index numbers n)
