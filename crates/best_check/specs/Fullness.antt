-- Inside this crate alone: the full node nearest to a node on its path.
use Rattle.std.specs.Prelude.{◌≡◌, ℕ, ◌<◌, true, List, length, Option, None, MatchOption, slice_index_or}
use Rattle.map_model.specs.declared.instance.NodeId.{NodeId}
use Rattle.map_model.specs.declared.lines.MapLine.{MapLine}
use Rattle.map_model.specs.Market.{Market, capacity_of}
use Rattle.map_model.specs.Allocation.{is_under, load}
use Rattle.map_laws.specs.Nearest.{IsFirstFull}

-- the full node nearest to a node, or none if no node of its path is full
abbrev pub FirstFull : Market → List MapLine → ℕ → Option NodeId → Type 0
FirstFull m lines n found = MatchOption found ((c : ℕ) → is_under m c n ≡ true → load m lines c ≡ capacity_of m c → ⊥) (λ f. IsFirstFull m lines n f.0)

-- the same at each of the first nodes
abbrev pub AreFirstFull : Market → List MapLine → List (Option NodeId) → Type 0
AreFirstFull m lines nearest = (n : ℕ) → n < length nearest → FirstFull m lines n (slice_index_or nearest n None)

-- and at all nodes
pub record IsFullTable (m : Market) (lines : List MapLine) (nearest : List (Option NodeId)) : Type 0 where
  pub size : length nearest ≡ length m.nodes
  pub first : AreFirstFull m lines nearest
