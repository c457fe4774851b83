use Rattle.std.proofs.Common.{◌≡◌, ◌+◌, ◌==◌, drop}
use Rattle.std.specs.List.{prefix_len}
use Rattle.addr_text.proofs.runs.zeros.Given as goal

abbrev pub invariant-loop-group : goal.invariant-loop-group
invariant-loop-group l = (l.count ≡ l.group-index) × (l.count + prefix_len (λ g. g == 0) (drop l.group-index l.groups) ≡ prefix_len (λ g. g == 0) l.groups)
