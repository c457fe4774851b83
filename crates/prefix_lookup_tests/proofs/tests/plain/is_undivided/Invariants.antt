use Rattle.std.proofs.Common.{◌≡◌, take, true}
use Rattle.prefix_lookup.specs.Scope.{is_undivided}
use Rattle.prefix_lookup_tests.proofs.tests.plain.is_undivided.Given as goal

abbrev pub invariant-loop-prefix : goal.invariant-loop-prefix
invariant-loop-prefix l = is_undivided (take l.prefix-index l.table) l.addr l.len ≡ true
