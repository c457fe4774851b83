use Rattle.std.proofs.Common.{◌≡◌, ◌≤◌, length}
use Rattle.demand_feed.specs.Line.{words_of}
use Rattle.demand_feed.proofs.words.next_word.Given as goal

abbrev pub invariant-words : goal.invariant-words
invariant-words l = (words_of l.text ≡ words_of l.rest) × (length l.rest ≤ length l.text)

abbrev pub decreases-words : goal.decreases-words
decreases-words l = length l.rest
