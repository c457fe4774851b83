use Rattle.std.proofs.Common.{◌≡◌, ℕ, ◌+◌, ◌≤◌, ◌==◌, true, false, take}
use Rattle.std.specs.List.{list_any}
use Rattle.map_model.specs.Market.{capacity_of, limit_of}
use Rattle.map_model.specs.Allocation.{amount_at, load}
use Rattle.map_model.specs.declared.instance.NodeId.{NodeId}
use Rattle.deferred_accept.proofs.room.room_of.Given as goal

abbrev pub invariant-loop-node : goal.invariant-loop-node
invariant-loop-node l = record {
  amount : l.room ≤ l.hop.rival.units;
  limit : amount_at l.state.lines l.hop.offer.group.0 l.hop.offer.place + l.room ≤ limit_of l.instance l.hop.offer.group.0 l.hop.offer.place;
  rooms : (n : ℕ) → list_any (λ (x : NodeId). x.0 == n) (take l.node-index l.node-items) ≡ true → list_any (λ (x : NodeId). x.0 == n) l.others.items ≡ false → load l.instance l.state.lines n + l.room ≤ capacity_of l.instance n;
}
