use Rattle.std.proofs.Common.{◌≡◌, length}
use Rattle.addr_text.specs.Numbers.{all_of, number_of}
use Rattle.text_parts.specs.Parts.{parts}
use Rattle.addr_text.proofs.Joined.{with_front}
use Rattle.addr_text.proofs.groups.joined_numbers.Given as goal

abbrev pub invariant-loop-dot : goal.invariant-loop-dot
invariant-loop-dot l = with_front l.numbers.items (all_of (number_of 255) (parts 46 l.rest)) ≡ all_of (number_of 255) (parts 46 l.text)

abbrev pub decreases-loop-dot : goal.decreases-loop-dot
decreases-loop-dot l = length l.rest
