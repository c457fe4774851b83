use Rattle.evict.specs.Standing.{IsReady}
use Rattle.evict_tests.proofs.tests.first_wrong.Given as goal

abbrev pub invariant-loop-turn : goal.invariant-loop-turn
invariant-loop-turn l = IsReady l.instance l.state
