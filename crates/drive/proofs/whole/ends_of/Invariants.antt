use Rattle.std.proofs.Common.{◌≡◌, ◌≤◌, ◌-◌, ◌++◌, Some, None, map, replicate, take, vec_len}
use Rattle.drive.proofs.whole.ends_of.Given as goal

abbrev pub invariant-loop-k : goal.invariant-loop-k
invariant-loop-k g l = (l.k ≤ vec_len l.works) × (l.ends ≡ map Some (take l.k (map (λ h. h.ended) l.works.items)) ++ replicate (16 - l.k) None)
