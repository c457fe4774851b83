use Rattle.std.proofs.Common.{◌≡◌, ◌<◌, length}
use Rattle.std.specs.Option.{IfSome}
use Rattle.std.specs.List.{find}
use Rattle.map_model.specs.Market.{climb, key_of}
use Rattle.map_model.specs.Allocation.{is_full_of_better, refusing_node}
use Rattle.deferred_accept.proofs.Barred.{height}
use Rattle.deferred_accept.proofs.bars.refuser.Given as goal

abbrev pub invariant-loop-bar : goal.invariant-loop-bar
invariant-loop-bar l = record {
  there : IfSome l.at (λ n. n.0 < length l.instance.nodes);
  found : find (λ n. is_full_of_better l.instance l.fn.state.lines n (key_of l.instance l.fn.offer.group.0 l.fn.offer.place)) (climb 8 l.instance l.at) ≡ refusing_node l.instance l.fn.state.lines l.fn.offer.group.0 l.fn.offer.place;
}

abbrev pub decreases-loop-bar : goal.decreases-loop-bar
decreases-loop-bar l = height l.at
