use Rattle.std.proofs.Common.{◌<◌}
use Rattle.reopen.proofs.Removing.{IsReleasing}
use Rattle.reopen.proofs.rolling.release_past.Given as goal

abbrev pub invariant-loop-past : goal.invariant-loop-past
invariant-loop-past l = record {
  so_far : IsReleasing l.instance l.group.0 l.place l.past l.fn.state l.state;
  later : l.place < l.past;
}
