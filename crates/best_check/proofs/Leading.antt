-- Where a unit leads on that leaves a node.
use Rattle.std.proofs.Common.{◌≡◌, ℕ, ◌<◌, true, List, length, Option, None, Some, IfSome, slice_index, false, sym, ap, ◌∙◌, subst, inl, inr, arith}
use Rattle.std.proofs.lemmas.Bool.{cases_lt, false≢true}
use Rattle.std.proofs.lemmas.List.{get_or_past}
use Rattle.map_model.specs.declared.instance.Node.{Node}
use Rattle.map_model.specs.declared.instance.NodeId.{NodeId}
use Rattle.map_model.specs.declared.lines.MapLine.{MapLine}
use Rattle.map_model.specs.Market.{Market, IsMarket, demand_of, is_pool_at, limit_of, pool_of}
use Rattle.map_model.specs.Allocation.{placed}
use Rattle.map_laws.specs.Circles.{IsCircleFree, IsLastPlace, IsNextInLine}
use Rattle.map_laws.proofs.Nearest.{next_one}
use Rattle.best_check.specs.declared.ranked.Ranked.{Ranked}
use Rattle.best_check.specs.Leads.{AreLeads, FallAlong}
use Rattle.best_check.specs.Tables.{IsNextAt}

-- where the group next in line at a node is placed whole, the node leads to the pool of its last place
abbrev pub IsLead : Market → List MapLine → ℕ → Option NodeId → Type 0
IsLead m lines n lead = (g k j : ℕ) → IsNextInLine m (limit_of m) lines n g k → placed lines g ≡ demand_of m g → IsLastPlace lines g j → lead ≡ Some (record { 0 = pool_of m g j })

-- what is so of the one that is next in line, is so of each
pub lead_is : (m : Market) → IsMarket m → (lines : List MapLine) (n : ℕ) (next : Option Ranked) (lead : Option NodeId) → IsNextAt m lines n next → IfSome next (λ o. (j : ℕ) → placed lines o.offer.group.0 ≡ demand_of m o.offer.group.0 → IsLastPlace lines o.offer.group.0 j → lead ≡ Some (record { 0 = pool_of m o.offer.group.0 j })) → IsLead m lines n lead
lead_is m market lines n None lead none leads = λ g k j next whole last. absurd (none g k next.in_line next.room)
lead_is m market lines n (Some o) lead is leads = λ g k j next whole last.
    let e = next_one m market (limit_of m) lines n o.offer.group.0 o.offer.place g k is next in
    subst (λ x. placed lines x ≡ demand_of m x → IsLastPlace lines x j → lead ≡ Some (record { 0 = pool_of m x j })) e.0 (leads j) whole last

-- a pool is a node of the instance
pool_inside : (m : Market) (n : ℕ) → is_pool_at m n ≡ true → n < length m.nodes
pool_inside m n pool = elim (cases_lt n (length m.nodes)) [
  | inl l ↦ l
  | inr past ↦ absurd (false≢true (sym (ap (λ (x : Node). x.is_pool) (get_or_past m.nodes n (record { capacity = 0; parent = None; is_pool = false }) past)) ∙ pool))
]

-- numbers that fall along the chains of leads tell that there is no circle
pub free_of_circles : (m : Market) (lines : List MapLine) (leads : List (Option NodeId)) (numbers : List ℕ) → AreLeads m lines leads → length leads ≡ length m.nodes → FallAlong leads numbers → IsCircleFree m (limit_of m) lines
free_of_circles m lines leads numbers are size fall = record {
  numbers = numbers;
  falls = λ n g k j pool next whole last.
      let there : n < length leads = omega (arith, pool_inside m n pool, size) in
      subst (λ o. IfSome o (λ (p : NodeId). slice_index numbers p.0 < slice_index numbers n)) (are.leads_on n g k j there next whole last) (fall n there);
}

-- places that are found
pub none_is_last : (j : ℕ) → None ≡ Some j → ⊥
none_is_last j e = cc

pub last_is : (k j : ℕ) → Some k ≡ Some j → k ≡ j
last_is k j e = cc
