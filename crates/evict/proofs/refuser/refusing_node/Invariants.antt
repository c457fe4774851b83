use Rattle.std.proofs.Common.{◌≡◌, ◌-◌, ◌<◌, length}
use Rattle.std.specs.Option.{IfSome}
use Rattle.std.specs.List.{find}
use Rattle.map_model.specs.Market.{climb, key_of}
use Rattle.map_model.specs.Allocation.{is_full_of_better, refusing_node}
use Rattle.evict.proofs.refuser.refusing_node.Given as goal

abbrev pub invariant-loop-step : goal.invariant-loop-step
invariant-loop-step l = record {
  there : IfSome l.at (λ n. n.0 < length l.instance.nodes);
  found : find (λ n. is_full_of_better l.instance l.held.lines n (key_of l.instance l.fn.offer.group.0 l.fn.offer.place)) (climb (8 - l._step) l.instance l.at) ≡ refusing_node l.instance l.held.lines l.fn.offer.group.0 l.fn.offer.place;
}
