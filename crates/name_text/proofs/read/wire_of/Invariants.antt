use Rattle.std.proofs.Common.{◌≡◌, ◌==◌, ◌++◌, length}
use Rattle.std.specs.List.{slice_split}
use Rattle.name_text.specs.Wire.{wire}
use Rattle.name_text.proofs.read.wire_of.Given as goal

abbrev pub invariant-loop-dot : goal.invariant-loop-dot
invariant-loop-dot l =
    l.octets.items ++ wire (slice_split (λ b. b == 46) l.rest) ≡ wire (slice_split (λ b. b == 46) l.text)

abbrev pub decreases-loop-dot : goal.decreases-loop-dot
decreases-loop-dot l = length l.rest
