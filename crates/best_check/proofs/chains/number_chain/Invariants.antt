use Rattle.std.proofs.Common.{◌≡◌, ◌<◌, length, IfSome}
use Rattle.best_check.proofs.chains.number_chain.Given as goal

abbrev pub invariant-loop-down : goal.invariant-loop-down
invariant-loop-down l = record {
  there : IfSome l.at (λ n. n.0 < length l.leads);
  size : length l.numbers ≡ length l.fn.numbers;
}
