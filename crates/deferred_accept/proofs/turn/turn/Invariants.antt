use Rattle.std.proofs.Common.{take}
use Rattle.deferred_accept.specs.Turning.{IsPassed}
use Rattle.deferred_accept.proofs.turn.turn.Given as goal

abbrev pub invariant-loop-hop : goal.invariant-loop-hop
invariant-loop-hop l = IsPassed l.fn.state l.state (take l.hop-index l.hops) l.units
