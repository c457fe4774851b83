-- What offers give up in a put, and what that does to free units and pointers.
use Rattle.std.specs.Prelude.{◌≡◌, ℕ, ◌+◌, ◌<◌, ◌≤◌, ◌^◌, length, slice_index, Bool, ◌&&◌, ◌==◌, if◌then◌else◌, List, All, sum_by}
use Rattle.std.specs.List.{list_any}
use Rattle.map_model.specs.Market.{Market}
use Rattle.map_model.specs.Allocation.{IsOffer}
use Rattle.evict.specs.declared.freed.Eviction.{Eviction}

-- the units that were given up at the offers that pass a test
abbrev pub freed_units : (ℕ → ℕ → Bool) → List Eviction → ℕ
freed_units test freed = sum_by (λ e. if test e.offer.group.0 e.offer.place then e.units else 0) freed

-- some units were given up at an offer
abbrev pub gave_up : List Eviction → ℕ → ℕ → Bool
gave_up freed g k = list_any (λ e. (e.offer.group.0 == g) && (e.offer.place == k)) freed

-- what is given up: at least one unit of an offer
pub record IsEviction (m : Market) (e : Eviction) : Type 0 where
  pub offer : IsOffer m e.offer.group.0 e.offer.place
  pub some : 0 < e.units

-- what free units and pointers need, so that a put of a group's units can be settled
pub record CanSettle (free pointers : List ℕ) (g units : ℕ) (freed : List Eviction) : Type 0 where
  pub size : length pointers ≡ length free
  pub group : g < length free
  pub enough : units ≤ slice_index free g
  pub room : (h : ℕ) → h < length free → slice_index free h + freed_units (λ x _. x == h) freed < 2 ^ 64
  pub groups : All (λ e. e.offer.group.0 < length free) freed
  pub places : All (λ e. (e.offer.place ≤ slice_index pointers e.offer.group.0) × (e.offer.place < 16)) freed
