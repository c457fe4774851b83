use Rattle.std.proofs.Common.{map}
use Rattle.toml.specs.View.{view}
use Rattle.topology_text.specs.Code.{entries}
use Rattle.topology_text.specs.Names.{pair_of}
use Rattle.topology_text.proofs.RepeatedPairs.{AreFlagged}
use Rattle.topology_text.proofs.pairs.repeated_pairs.Given as goal

abbrev pub invariant-loop-class : goal.invariant-loop-class
invariant-loop-class l = AreFlagged (pair_of (entries l.index)) (map view l.class-items) l.class-index l.seen.keys l.repeats.items
