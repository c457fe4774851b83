use Rattle.std.proofs.Common.{◌≡◌, ℕ, ◌<◌, ◌||◌, length, take}
use Rattle.deferred_accept.specs.Work.{gave_any, is_on}
use Rattle.deferred_accept.proofs.tests.wake_first.Given as goal

abbrev pub invariant-loop-eviction : goal.invariant-loop-eviction
invariant-loop-eviction l = record {
  count : length l.work ≡ length l.fn.work;
  each : (h : ℕ) → h < length l.fn.work → is_on l.work h ≡ (is_on l.fn.work h || gave_any (take l.eviction-index l.freed) h);
}
