use Rattle.std.proofs.Common.{◌≡◌, length}
use Rattle.addr_text.specs.Numbers.{all_of}
use Rattle.text_parts.specs.Parts.{parts}
use Rattle.addr_text.specs.Groups.{group_of, joined_groups}
use Rattle.addr_text.proofs.Joined.{with_front}
use Rattle.addr_text.proofs.groups.joined_groups.Given as goal

abbrev pub invariant-loop-colon : goal.invariant-loop-colon
invariant-loop-colon l = with_front l.groups.items (all_of group_of (parts 58 l.rest)) ≡ joined_groups l.text

abbrev pub decreases-loop-colon : goal.decreases-loop-colon
decreases-loop-colon l = length l.rest
