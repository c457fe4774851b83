use Rattle.std.proofs.Common.{◌≡◌, ◌<◌, ℕ, false}
use Rattle.prefix_lookup.specs.Scope.{is_undivided}
use Rattle.prefix_lookup_tests.proofs.tests.plain.scope.Given as goal

abbrev pub invariant-loop-len : goal.invariant-loop-len
invariant-loop-len l = (t : ℕ) → t < l.len → is_undivided l.table l.addr t ≡ false
