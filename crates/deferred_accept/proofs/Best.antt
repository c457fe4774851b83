-- Proposals keep a map within a state, so a state that is ahead of all stays so, and the end of a fresh run is group-best.
use Rattle.std.proofs.Common.{ℕ, zero, suc, List, refl, sym, subst, slice_index}
use Rattle.map_model.specs.declared.lines.MapLine.{MapLine}
use Rattle.map_model.specs.Market.{Market}
use Rattle.map_model.specs.Allocation.{names_of}
use Rattle.map_model.specs.Progress.{IsEnded, IsGroupBest}
use Rattle.evict.specs.Standing.{IsReady, Standing}
use Rattle.best_laws.specs.Ahead.{IsAhead, IsRightMap, IsWithin}
use Rattle.best_laws.proofs.Ended.{best_of_stable}
use Rattle.best_laws.proofs.Step.{within_moved, within_put}
use Rattle.deferred_accept.specs.Runs.{AreProposals, AreSkips, IsProposal, offered}
use Rattle.deferred_accept.proofs.Finished.{finished}
use Rattle.deferred_accept.proofs.Many.{can_propose, ready_many}
use Rattle.deferred_accept.proofs.Skips.{lines_skip, ready_skip, ready_skips}

-- places that are skipped, since their limits leave no room for more
within_skips : (m : Market) (n : ℕ) (old new : Standing) (other : List MapLine) → IsReady m old → AreSkips m n old new → IsRightMap m other → IsWithin m other old.lines old.pointers → IsWithin m other new.lines new.pointers
within_skips m zero old new other ready made right within = subst (λ (s : Standing). IsWithin m other s.lines s.pointers) (sym made) within
within_skips m (suc n) old new other ready made right within =
    let last = ready_skips m n old made.0 ready made.1 in
    within_moved m made.0 new other last (ready_skip m made.0 new last made.2) (lines_skip m made.0 new made.2) right (within_skips m n old made.0 other ready made.1 right within)

-- a map within a state from which proposals lead on is within the one that they come to
pub within_many : (m : Market) (n : ℕ) (old new : Standing) (other : List MapLine) → IsReady m old → AreProposals m n old new → IsRightMap m other → IsWithin m other old.lines old.pointers → IsWithin m other new.lines new.pointers
within_many m zero old new other ready made right within = within_skips m made.0 old new other ready made.1 right within
within_many m (suc n) old new other ready made right within =
    let p : IsProposal m made.0 made.1 = made.4 in
    within_skips m made.2 made.1 new other p.put.ready made.5 right
    (within_put m made.0 made.1 other p.group (slice_index made.0.pointers p.group) (offered m made.0 p.group) p.freed (can_propose m made.0 made.1 (ready_many m n old made.0 ready made.3) p) p.put right (within_many m n old made.0 other ready made.3 right within))

-- so proposals keep a state ahead of all feasible and stable maps
pub ahead_many : (m : Market) (n : ℕ) (old new : Standing) → IsReady m old → AreProposals m n old new → IsAhead m old.lines old.pointers → IsAhead m new.lines new.pointers
ahead_many m n old new ready made ahead other right = within_many m n old new other ready made right (ahead other right)

-- an ended state that is ahead holds a group-best map
pub best_of_ended : (m : Market) (state : Standing) → IsReady m state → IsEnded m state.pointers state.free → IsAhead m state.lines state.pointers → IsGroupBest m state.lines
best_of_ended m state ready ended ahead =
    best_of_stable m ready.market state.lines state.pointers state.free ready.resumable (finished m state (names_of m state.lines) ready ended refl).stable ahead
