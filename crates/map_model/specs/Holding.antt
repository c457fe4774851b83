-- Units that come to an offer or go from it, the worst held offer under a node, and a node full of better units.
use Rattle.std.specs.Prelude.{◌≡◌, ℕ, ◌+◌, ◌<◌, ◌≤◌, Bool, not, ◌&&◌, if◌then◌else◌, List, IsTrue}
use Rattle.map_model.specs.declared.instance.Key.{Key}
use Rattle.map_model.specs.declared.lines.MapLine.{MapLine}
use Rattle.map_model.specs.Market.{Market, capacity_of, key_of}
use Rattle.map_model.specs.Allocation.{IsOffer, amount_at, counts_at, key_le, units_of}

-- some units come to an offer, and nothing else changes: said of the units that pass any test of group and place
abbrev pub Puts : List MapLine → List MapLine → ℕ → ℕ → ℕ → Type 0
Puts old new g k units = (test : ℕ → ℕ → Bool) → units_of test new ≡ units_of test old + (if test g k then units else 0)

-- some units of an offer go, and nothing else changes
abbrev pub Takes : List MapLine → List MapLine → ℕ → ℕ → ℕ → Type 0
Takes old new g k units = (test : ℕ → ℕ → Bool) → units_of test new + (if test g k then units else 0) ≡ units_of test old

-- the offer stands under the node and is ranked at least as high as a key
abbrev pub under_within : Market → ℕ → Key → ℕ → ℕ → Bool
under_within m n key g k = counts_at m n g k && key_le (key_of m g k) key

-- the offer stands under the node and is ranked lower than a key
abbrev pub under_worse : Market → ℕ → Key → ℕ → ℕ → Bool
under_worse m n key g k = counts_at m n g k && not (key_le (key_of m g k) key)

-- the worst held offer under a node, with all its units: it stands there, and no units there are ranked lower
pub record IsWorst (m : Market) (lines : List MapLine) (n g k units : ℕ) : Type 0 where
  pub offer : IsOffer m g k
  pub under : IsTrue (counts_at m n g k)
  pub some : 0 < units
  pub held : amount_at lines g k ≡ units
  pub worst : units_of (under_worse m n (key_of m g k)) lines ≡ 0

-- the key of the worst held offer under a node
abbrev pub IsWorstKey : Market → List MapLine → ℕ → Key → Type 0
IsWorstKey m lines n key = (g : ℕ) × (k : ℕ) × (units : ℕ) × IsWorst m lines n g k units × (key_of m g k ≡ key)

-- the node is full of units ranked at least as high as a key, whatever else it holds
abbrev pub IsSaturated : Market → List MapLine → ℕ → Key → Type 0
IsSaturated m lines n key = capacity_of m n ≤ units_of (under_within m n key) lines
