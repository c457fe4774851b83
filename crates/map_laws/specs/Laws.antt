-- What maps and states are determined by, and which maps are the best.
use Rattle.std.specs.Prelude.{◌≡◌, ℕ, ◌<◌, Bool, List, length, slice_index}
use Rattle.map_model.specs.declared.change.Change.{Change}
use Rattle.map_model.specs.declared.lines.MapLine.{MapLine}
use Rattle.map_model.specs.declared.lines.NameLine.{NameLine}
use Rattle.map_model.specs.Market.{Market, IsMarket, limit_of}
use Rattle.map_model.specs.Allocation.{IsGood, IsStable}
use Rattle.map_model.specs.Batch.{IsApplied}
use Rattle.map_model.specs.Progress.{IsGroupBest}
use Rattle.evict.specs.Standing.{IsReady, Standing}
use Rattle.best_laws.specs.Ahead.{IsRightMap, IsWithin}
use Rattle.deferred_accept.specs.Runs.{AreProposals}
use Rattle.reopen.specs.Cutting.{IsCut}
use Rattle.reopen.specs.Rolling.{IsRolledBack, is_marked}
use Rattle.map_laws.specs.Below.{IsBestBelow}
use Rattle.map_laws.specs.Circles.{IsCircleFree, limits_below}

-- proposals from a resumable state that end in a stable map come to the best of the maps within that state, so to one
abbrev pub EndsAgree : Type 0
EndsAgree = (m : Market) (old : Standing) → IsReady m old → ((n : ℕ) (a : Standing) → AreProposals m n old a → IsStable m a.lines → IsBestBelow m old.lines old.pointers a.lines)
    × ((n j : ℕ) (a b : Standing) → AreProposals m n old a → AreProposals m j old b → IsStable m a.lines → IsStable m b.lines → a.lines ≡ b.lines)

-- two best maps of those within a state are the same
abbrev pub BestBelowIsOne : Type 0
BestBelowIsOne = (m : Market) → IsMarket m → (held : List MapLine) (pointers : List ℕ) (a b : List MapLine) → IsBestBelow m held pointers a → IsBestBelow m held pointers b → a ≡ b

-- two good maps that are group-best are the same, their names too
abbrev pub GroupBestIsOne : Type 0
GroupBestIsOne = (m : Market) → IsMarket m → (a b : List MapLine) (of_a of_b : List NameLine) → IsGood m a of_a → IsGood m b of_b → IsGroupBest m a → IsGroupBest m b → (a ≡ b) × (of_a ≡ of_b)

-- two cuts of states that hold the same leave the same
abbrev pub CutsAgree : Type 0
CutsAgree = (m : Market) → IsMarket m → (s t a b : Standing) → s.lines ≡ t.lines → IsCut m s a → IsCut m t b → a.lines ≡ b.lines

-- two states that hold the same, with the same pointers, hold the same once their groups went back, where the same places are marked
abbrev pub BacksAgree : Type 0
BacksAgree = (m : Market) (marks others : List Bool) (s t a b : Standing) → ((g k : ℕ) → is_marked m marks g k ≡ is_marked m others g k) → s.lines ≡ t.lines → ((g : ℕ) → g < length m.groups → slice_index s.pointers g ≡ slice_index t.pointers g)
    → IsRolledBack m marks s a → IsRolledBack m others t b → (a.lines ≡ b.lines) × ((g : ℕ) → g < length m.groups → slice_index a.pointers g ≡ slice_index b.pointers g)

-- two instances after one batch are the same
abbrev pub BatchesAgree : Type 0
BatchesAgree = (old a b : Market) (changes : List Change) → IsApplied old changes a → IsApplied old changes b → a ≡ b

-- a right map from which no circle of groups can be made better off is the best of all maps of the instance
abbrev pub IsBestIfFree : Type 0
IsBestIfFree = (m : Market) (lines : List MapLine) → IsMarket m → IsRightMap m lines → IsCircleFree m (limit_of m) lines → IsGroupBest m lines

-- and the best of those that move no group up past what a state leaves it, if it is one of them
abbrev pub IsBestBelowIfFree : Type 0
IsBestBelowIfFree = (m : Market) (held : List MapLine) (pointers : List ℕ) (lines : List MapLine) → IsMarket m → IsRightMap m lines → IsWithin m lines held pointers → IsCircleFree m (limits_below m held pointers) lines → IsBestBelow m held pointers lines

-- and a group-best map is the best of those, if it is one of them
abbrev pub IsBestBelowIfBest : Type 0
IsBestBelowIfBest = (m : Market) (held : List MapLine) (pointers : List ℕ) (lines : List MapLine) → IsRightMap m lines → IsWithin m lines held pointers → IsGroupBest m lines → IsBestBelow m held pointers lines
