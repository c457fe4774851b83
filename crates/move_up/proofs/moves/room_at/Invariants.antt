use Rattle.std.proofs.Common.{◌≡◌, ℕ, ◌-◌, ◌<◌, ◌≤◌, ◌==◌, true, false, length}
use Rattle.std.specs.List.{list_any}
use Rattle.std.specs.Option.{IfSome}
use Rattle.map_model.specs.Market.{capacity_of, climb}
use Rattle.map_model.specs.Allocation.{is_under, load}
use Rattle.move_up.proofs.moves.room_at.Given as goal

abbrev pub invariant-loop-step : goal.invariant-loop-step
invariant-loop-step l = record {
  there : IfSome l.at (λ n. n.0 < length l.fn.instance.nodes);
  few : l.room ≤ l.fn.units;
  passed : (n : ℕ) → is_under l.fn.instance n l.fn.pool.0 ≡ true → list_any (λ x. x == n) (climb (8 - l._step) l.fn.instance l.at) ≡ false → l.room ≤ capacity_of l.fn.instance n - load l.fn.instance l.fn.state.lines n;
}
