-- Inside this crate alone: the full nodes nearest to nodes, and the ranks from which on they refuse.
use Rattle.std.specs.Prelude.{◌≡◌, ℕ, ◌<◌, ◌≤◌, ◌==◌, List, length, Option, None, IfSome, find, slice_index_or}
use Rattle.std.specs.Option.{option_map}
use Rattle.map_model.specs.declared.instance.Key.{Key}
use Rattle.map_model.specs.declared.lines.MapLine.{MapLine}
use Rattle.map_model.specs.Market.{Market, capacity_of, path}
use Rattle.map_model.specs.Allocation.{key_le, load, none_worse}
use Rattle.deferred_accept.specs.declared.bars.Bar.{Bar}

-- the first full node of a node's path, if there is one, and the key from which on it refuses
pub record IsBarAt (m : Market) (lines : List MapLine) (n : ℕ) (bar : Option Bar) : Type 0 where
  pub first : option_map (λ b. b.node.0) bar ≡ find (λ c. load m lines c == capacity_of m c) (path m n)
  pub refuses : IfSome bar (λ b. (b.node.0 ≤ n) × ((key : Key) → none_worse m lines b.node.0 key ≡ key_le b.key key))

-- such bars for the first nodes
abbrev pub AreBars : Market → List MapLine → List (Option Bar) → Type 0
AreBars m lines bars = (n : ℕ) → n < length bars → IsBarAt m lines n (slice_index_or bars n None)

-- and for all nodes
pub record IsBarTable (m : Market) (lines : List MapLine) (bars : List (Option Bar)) : Type 0 where
  pub size : length bars ≡ length m.nodes
  pub bars_at : AreBars m lines bars
