use Rattle.std.proofs.Common.{◌≡◌}
use Rattle.offer_pool_tests.proofs.tests.all_agree.Given as goal

abbrev pub invariant-loop-step : goal.invariant-loop-step
invariant-loop-step l = l.held.market ≡ l.instance
