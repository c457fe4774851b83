use Rattle.std.proofs.Common.{◌≡◌, ◌+◌, ◌<◌, ◌≤◌, Bool, false, ◌⊎◌, ℕ, length}
use Rattle.map_model.specs.Market.{choices_of, demand_of}
use Rattle.map_model.specs.Allocation.{IsOffer, amount_at, placed, units_of}
use Rattle.reopen.specs.Cutting.{IsGroupTrimmed, IsLess, KeepsSums}
use Rattle.reopen.proofs.cutting.trim_places.Given as goal

abbrev pub invariant-loop-step : goal.invariant-loop-step
invariant-loop-step l = record {
  less : IsLess l.instance l.fn.state l.state;
  sums : KeepsSums l.fn.state l.state;
  below : (k : ℕ) → IsOffer l.instance l.group.0 k → k + l.step < length (choices_of l.instance l.group.0) → amount_at l.state.lines l.group.0 k ≡ amount_at l.fn.state.lines l.group.0 k;
  trimmed : IsGroupTrimmed l.instance l.group.0 l.fn.state.lines l.state.lines;
  elsewhere : (test : ℕ → ℕ → Bool) → ((k : ℕ) → test l.group.0 k ≡ false) → units_of test l.state.lines ≡ units_of test l.fn.state.lines;
  done : (placed l.state.lines l.group.0 ≤ demand_of l.instance l.group.0) ⊎ ((k : ℕ) → IsOffer l.instance l.group.0 k → length (choices_of l.instance l.group.0) ≤ k + l.step → amount_at l.state.lines l.group.0 k ≡ 0);
}
