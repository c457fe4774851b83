use Rattle.std.proofs.Common.{◌≡◌, ◌+◌, ◌-◌, ◌<◌, Some, length}
use Rattle.std.specs.Option.{IfSome}
use Rattle.map_model.specs.Market.{climb}
use Rattle.map_model.specs.Rows.{trees_of}
use Rattle.map_model.proofs.validity.is_shallow.Given as goal

abbrev pub invariant-loop-step : goal.invariant-loop-step
invariant-loop-step l = record {
  there : IfSome l.at (λ p. p.0 < length l.nodes);
  deep : length (climb 9 (trees_of l.nodes) (Some l.fn.node)) ≡ l._step + length (climb (9 - l._step) (trees_of l.nodes) l.at);
}
