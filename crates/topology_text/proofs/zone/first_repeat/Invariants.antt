use Rattle.std.proofs.Common.{map}
use Rattle.toml.specs.View.{view}
use Rattle.topology_text.proofs.Repeats.{AreSeen}
use Rattle.topology_text.proofs.zone.first_repeat.Given as goal

abbrev pub invariant-loop-i : goal.invariant-loop-i
invariant-loop-i l = AreSeen l.key (map view l.items) l.i (map (λ v. v.items) l.seen.keys)
