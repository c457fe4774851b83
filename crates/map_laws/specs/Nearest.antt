-- The full node nearest to a node, and the best of the offers in line whose pools have one node for it: by these who is next in line is found.
use Rattle.std.specs.Prelude.{◌≡◌, ℕ, true, List}
use Rattle.map_model.specs.declared.lines.MapLine.{MapLine}
use Rattle.map_model.specs.Market.{Market, capacity_of, key_of, pool_of}
use Rattle.map_model.specs.Allocation.{is_under, key_le, load}
use Rattle.map_laws.specs.Circles.{IsInLine}

-- f is on the path of n and full, and all other full nodes of that path stand above f
pub record IsFirstFull (m : Market) (lines : List MapLine) (n f : ℕ) : Type 0 where
  pub on : is_under m f n ≡ true
  pub full : load m lines f ≡ capacity_of m f
  pub nearest : (c : ℕ) → is_under m c n ≡ true → load m lines c ≡ capacity_of m c → is_under m c f ≡ true

-- the best ranked of the offers in line whose nearest full node is this one
pub record IsBestAt (m : Market) (limits : ℕ → ℕ → ℕ) (lines : List MapLine) (n g k : ℕ) : Type 0 where
  pub in_line : IsInLine m limits lines g k
  pub near : IsFirstFull m lines (pool_of m g k) n
  pub best : (h j : ℕ) → IsInLine m limits lines h j → IsFirstFull m lines (pool_of m h j) n → key_le (key_of m g k) (key_of m h j) ≡ true
