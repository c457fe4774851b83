use Rattle.std.proofs.Common.{◌≡◌, ◌≤◌, ◌+◌, ◌==◌, not, length, take}
use Rattle.std.specs.List.{suffix_len}
use Rattle.text_parts.proofs.end_of_last.Given as goal

abbrev pub invariant-loop-end : goal.invariant-loop-end
invariant-loop-end l =
    record {
      within : l.end ≤ length l.text;
      so_far : l.end + suffix_len (λ b. not (b == l.octet)) l.text ≡ length l.text + suffix_len (λ b. not (b == l.octet)) (take l.end l.text);
    }

abbrev pub decreases-loop-end : goal.decreases-loop-end
decreases-loop-end l = l.end
