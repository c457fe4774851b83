-- Inside this crate alone: what places before a group's pointer are in a state that is resumable, and the ranks from which on offers are refused.
use Rattle.std.specs.Prelude.{◌≡◌, ℕ, ◌<◌, true, List, length, Option, None, IfSome, IsSome, slice_index, slice_index_or}
use Rattle.map_model.specs.declared.instance.Key.{Key}
use Rattle.map_model.specs.declared.lines.MapLine.{MapLine}
use Rattle.map_model.specs.Market.{Market}
use Rattle.map_model.specs.Allocation.{is_full_of_better, is_under, is_wanted, key_le, refuser_of}
use Rattle.evict.specs.Standing.{Standing}

-- each offer before a group's pointer is refused
abbrev pub AreRefused : Market → Standing → ℕ → Type 0
AreRefused m state g = (k : ℕ) → k < slice_index state.pointers g → IsSome (refuser_of m state.lines g k)

-- each is wanted
abbrev pub AreWanted : Market → Standing → ℕ → Type 0
AreWanted m state g = (k : ℕ) → k < slice_index state.pointers g → is_wanted m state.lines g k ≡ true

-- from the key on, offers are refused at the node n: a node of its path is full and holds only offers that are ranked at least as high
pub record IsBar (m : Market) (lines : List MapLine) (n : ℕ) (bar : Key) : Type 0 where
  pub node : ℕ
  pub on : is_under m node n ≡ true
  pub refuses : (key : Key) → key_le bar key ≡ true → is_full_of_better m lines node key ≡ true

-- such keys for the first nodes
abbrev pub AreBars : Market → List MapLine → List (Option Key) → Type 0
AreBars m lines bars = (n : ℕ) → n < length bars → IfSome (slice_index_or bars n None) (λ bar. IsBar m lines n bar)

-- and for all nodes
pub record IsBarTable (m : Market) (lines : List MapLine) (bars : List (Option Key)) : Type 0 where
  pub size : length bars ≡ length m.nodes
  pub bars_at : AreBars m lines bars
