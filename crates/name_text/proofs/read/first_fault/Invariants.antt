use Rattle.std.proofs.Common.{◌≡◌, ◌==◌, length}
use Rattle.std.specs.List.{slice_split}
use Rattle.name_text.specs.Names.{first_fault}
use Rattle.name_text.proofs.read.first_fault.Given as goal

abbrev pub invariant-loop-dot : goal.invariant-loop-dot
invariant-loop-dot l = first_fault (slice_split (λ b. b == 46) l.rest) ≡ first_fault (slice_split (λ b. b == 46) l.text)

abbrev pub decreases-loop-dot : goal.decreases-loop-dot
decreases-loop-dot l = length l.rest
