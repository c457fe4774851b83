-- A mapping from scratch: how often groups may offer, and what it ends with.
use Rattle.std.proofs.Common.{◌≡◌, ◌+◌, ◌*◌, ◌-◌, ◌≤◌, length, ap, ◌∙◌, arith}
use Rattle.map_model.specs.Market.{Market, choices_of, demand_of}
use Rattle.evict.specs.Standing.{IsFresh, Standing}
use Rattle.deferred_accept.specs.Runs.{HasRun, WantsBefore, most_proposals, proposals_of}
use Rattle.best_laws.specs.Ahead.{IsAhead}
use Rattle.best_laws.proofs.Step.{ahead_fresh}
use Rattle.best_laws.proofs.Sums.{sum-le}
use Rattle.deferred_accept.proofs.Best.{best_of_ended}
use Rattle.deferred_accept.proofs.Past.{past_of_ended}
use Rattle.map_model.specs.Progress.{IsEnded, IsGroupBest}
use Rattle.map_repair.specs.Repaired.{IsStateOf}
use Rattle.mapper.specs.Mappers.{most_offers}

pub fresh_offers : (m : Market) (state : Standing) → IsFresh m state → most_proposals m state.pointers ≤ most_offers m
fresh_offers m state fresh = sum-le (proposals_of m state.pointers) (λ g. length (choices_of m g) * (demand_of m g + 1)) (length m.groups) 0 (λ i le lt.
    let none : length (choices_of m i) - 0 ≡ length (choices_of m i) = omega arith in
    let same : proposals_of m state.pointers i ≡ length (choices_of m i) * (demand_of m i + 1) = ap (λ p. (length (choices_of m i) - p) * (demand_of m i + 1)) (fresh.pointers i (omega (arith, lt))) ∙ ap (λ n. n * (demand_of m i + 1)) none in
    omega (arith, same))

-- a run from a fresh state to its end leaves a state of a good map
pub ended_state : (m : Market) (old new : Standing) → IsFresh m old → HasRun m old new → IsEnded m new.pointers new.free → (WantsBefore m old → WantsBefore m new) → IsStateOf m new
ended_state m old new fresh run ended wanted = record {
  ready = run.ready;
  pointers = past_of_ended m new run.ready ended (wanted (λ g k o lt. absurd (omega (arith, fresh.pointers g o.group, lt))));
}

-- and its lines are group-best
pub ended_best : (m : Market) (old new : Standing) → IsFresh m old → HasRun m old new → IsEnded m new.pointers new.free → (IsAhead m old.lines old.pointers → IsAhead m new.lines new.pointers) → IsGroupBest m new.lines
ended_best m old new fresh run ended ahead = best_of_ended m new run.ready ended (ahead (ahead_fresh m old fresh))
