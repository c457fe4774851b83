use Rattle.std.proofs.Common.{List}
use Rattle.toml.specs.Data.{Data}
use Rattle.topology_text.specs.Guessed.{AreFirst}
use Rattle.topology_text.proofs.names.no_guesses.Given as goal

abbrev pub invariant-loop-place : goal.invariant-loop-place
invariant-loop-place l = (entries : List Data) → AreFirst entries l.guesses.items
