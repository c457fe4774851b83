-- What is the best of all maps, and of those within a state.
use Rattle.std.proofs.Common.{ℕ, ◌≤◌, nat_lt, List, slice_index, arith, inl, inr}
use Rattle.std.proofs.lemmas.Bool.{cases_Bool, ltb-true}
use Rattle.map_model.specs.declared.lines.MapLine.{MapLine}
use Rattle.map_model.specs.Market.{Market, IsMarket, limit_of}
use Rattle.map_model.specs.Allocation.{IsOffer, amount_at}
use Rattle.map_model.specs.Progress.{IsGroupBest}
use Rattle.best_laws.specs.Ahead.{IsRightMap, IsWithin}
use Rattle.map_laws.specs.Below.{IsBestBelow}
use Rattle.map_laws.specs.Circles.{IsCircleFree, limits_below}
use Rattle.map_laws.proofs.Free.{no_worse_if_free}

-- with the limits of the instance a right map without a circle is group-best
pub best_if_free : (m : Market) (lines : List MapLine) → IsMarket m → IsRightMap m lines → IsCircleFree m (limit_of m) lines → IsGroupBest m lines
best_if_free m lines market right free other form feasible stable g k o =
    no_worse_if_free m market (limit_of m) (λ h j p. omega arith) lines right free other (record { form = form; feasible = feasible; stable = stable }) (λ h j p. feasible.limits h j p) g k o

limited : (m : Market) (held : List MapLine) (pointers : List ℕ) (g k : ℕ) → limits_below m held pointers g k ≤ limit_of m g k
limited m held pointers g k = elim (cases_Bool (nat_lt k (slice_index pointers g))) [
  | inl e ↦ rw e (omega arith)
  | inr e ↦ rw e (omega arith)
]

within_limits : (m : Market) (held : List MapLine) (pointers : List ℕ) (other : List MapLine) → IsRightMap m other → IsWithin m other held pointers → (g k : ℕ) → IsOffer m g k → amount_at other g k ≤ limits_below m held pointers g k
within_limits m held pointers other right within g k o = elim (cases_Bool (nat_lt k (slice_index pointers g))) [
  | inl e ↦ rw e (omega (arith, right.feasible.limits g k o, within g k o (ltb-true k (slice_index pointers g) e)))
  | inr e ↦ rw e (right.feasible.limits g k o)
]

-- with what a state leaves it is the best of the maps within it
pub best_below_if_free : (m : Market) (held : List MapLine) (pointers : List ℕ) (lines : List MapLine) → IsMarket m → IsRightMap m lines → IsWithin m lines held pointers → IsCircleFree m (limits_below m held pointers) lines → IsBestBelow m held pointers lines
best_below_if_free m held pointers lines market right within free = record {
  right = right;
  below = within;
  best = λ other also below g k o. no_worse_if_free m market (limits_below m held pointers) (λ h j p. limited m held pointers h j) lines right free other also (within_limits m held pointers other also below) g k o;
}

-- and so is a group-best one that is within it
pub best_below_if_best : (m : Market) (held : List MapLine) (pointers : List ℕ) (lines : List MapLine) → IsRightMap m lines → IsWithin m lines held pointers → IsGroupBest m lines → IsBestBelow m held pointers lines
best_below_if_best m held pointers lines right within best = record {
  right = right;
  below = within;
  best = λ other also below g k o. best other also.form also.feasible also.stable g k o;
}
