use Rattle.std.proofs.Common.{◌≡◌, vec_len}
use Rattle.trial_runs.proofs.feeds.feeds_of.Given as goal

abbrev pub invariant-loop-number : goal.invariant-loop-number
invariant-loop-number l = vec_len l.feeds ≡ l.number
