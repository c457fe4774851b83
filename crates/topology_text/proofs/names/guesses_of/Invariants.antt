use Rattle.std.proofs.Common.{map}
use Rattle.toml.specs.View.{view}
use Rattle.topology_text.specs.Guessed.{AreFirst}
use Rattle.topology_text.proofs.names.guesses_of.Given as goal

abbrev pub invariant-loop-entry : goal.invariant-loop-entry
invariant-loop-entry l = AreFirst (map view l.entries) l.guesses.items
