use Rattle.std.proofs.Common.{Bool, false, ◌≡◌, ◌+◌, ◌<◌, ℕ, slice_index}
use Rattle.map_model.specs.Market.{demand_of}
use Rattle.map_model.specs.Allocation.{placed, units_of}
use Rattle.reopen.specs.Cutting.{IsGroupTrimmed, IsLess}
use Rattle.reopen.proofs.cutting.trim.Given as goal

abbrev pub invariant-loop-g : goal.invariant-loop-g
invariant-loop-g l = record {
  less : IsLess l.instance l.fn.state l.state;
  trimmed : (h : ℕ) → h < l.g → IsGroupTrimmed l.instance h l.fn.state.lines l.state.lines;
  rest : (test : ℕ → ℕ → Bool) → ((h k : ℕ) → h < l.g → test h k ≡ false) → units_of test l.state.lines ≡ units_of test l.fn.state.lines;
  totals : (h : ℕ) → h < l.g → placed l.state.lines h + slice_index l.state.free h ≡ demand_of l.instance h;
}
