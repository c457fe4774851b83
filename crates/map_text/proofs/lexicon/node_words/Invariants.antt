use Rattle.std.proofs.Common.{◌≡◌, take}
use Rattle.map_text.proofs.lexicon.node_words.Given as goal

abbrev pub invariant-loop-n : goal.invariant-loop-n
invariant-loop-n l = l.words.items ≡ take l.n l.topology.node_names
