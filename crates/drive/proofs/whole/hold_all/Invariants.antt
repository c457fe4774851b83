use Rattle.std.proofs.Common.{◌≡◌, ◌≤◌, ◌+◌, List, All, vec_len, vec_capacity}
use Rattle.published_map.specs.Version.{Version}
use Rattle.drive.specs.AllDone.{AllHeld}
use Rattle.drive.proofs.whole.hold_all.Given as goal

abbrev pub invariant-loop-viewer : goal.invariant-loop-viewer
invariant-loop-viewer g l = (vec_len l.left + vec_len l.works ≡ vec_len l.fn.viewers) × (vec_len l.fn.viewers ≤ vec_capacity l.works)
    × ((h : List Version) → All (λ e. (e.seen ≡ h) × (e.heard ≡ h)) l.fn.viewers.items
    → All (λ e. (e.seen ≡ h) × (e.heard ≡ h)) l.left.items × AllHeld (λ i w. (w.worker.number ≡ i) × (w.worker.count ≡ 0) × (w.worker.viewer.seen ≡ h) × (w.worker.viewer.heard ≡ h) × (w.turns ≡ l.fn.turns)) 0 l.works.items)

abbrev pub decreases-loop-viewer : goal.decreases-loop-viewer
decreases-loop-viewer g l = vec_len l.left
