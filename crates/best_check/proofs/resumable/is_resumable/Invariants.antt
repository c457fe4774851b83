use Rattle.std.proofs.Common.{ℕ, ◌<◌}
use Rattle.best_check.specs.Open.{AreRefused, AreWanted}
use Rattle.best_check.proofs.resumable.is_resumable.Given as goal

abbrev pub invariant-loop-g : goal.invariant-loop-g
invariant-loop-g l = record {
  wanted : (h : ℕ) → h < l.g → AreWanted l.instance l.state h;
  refused : (h : ℕ) → h < l.g → AreRefused l.instance l.state h;
}
