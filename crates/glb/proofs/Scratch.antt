-- Mapping from scratch: how many proposals it may make.
use Rattle.std.proofs.Common.{◌≡◌, ℕ, ◌+◌, ◌≤◌, List, Result, Ok, Err, arith, refl, subst}
use Rattle.std.specs.Prelude.{IfOk, OnOk}
use Rattle.map_model.specs.Market.{Market}
use Rattle.map_model.specs.Progress.{IsGroupBest}
use Rattle.map_model.specs.declared.lines.MapLine.{MapLine}
use Rattle.evict.specs.Standing.{IsFresh, Standing}
use Rattle.deferred_accept.specs.Runs.{HasProposed, most_proposals}
use Rattle.mapper.specs.Mappers.{IsFromScratch, IsMapping, most_offers}
use Rattle.mapper.proofs.Fresh.{fresh_offers}

-- a run from a fresh state, with a counter that began at 0
pub scratch_of : (m : Market) (old new : Standing) (before after : ℕ) → IsFresh m old → before ≡ 0 → HasProposed m old new before after → after ≤ before + most_proposals m old.pointers → IsGroupBest m new.lines → IsFromScratch m new.lines
scratch_of m old new before after fresh zero proposed few best = record {
  steps = after;
  counted = record { start = old; mapped = new; fresh = fresh; proposed = subst (λ (n : ℕ). HasProposed m old new n after) zero proposed; holds = refl; best = best };
  few = omega (arith, few, zero, fresh_offers m old fresh);
}

-- the same of an opening, whose result tells the lines
pub scratch_by : {A E : Type 0} (m : Market) (lines : A → List MapLine) (r : Result A E) (before after : ℕ) → before ≡ 0 → IfOk r (λ a. IsMapping m (lines a) before after) → OnOk r (after ≤ before + most_offers m) → IfOk r (λ a. IsFromScratch m (lines a))
scratch_by m lines (Ok a) before after zero mapping few = record { steps = after; counted = subst (λ (n : ℕ). IsMapping m (lines a) n after) zero mapping; few = omega (arith, few, zero) }
scratch_by m lines (Err e) before after zero mapping few = tt
