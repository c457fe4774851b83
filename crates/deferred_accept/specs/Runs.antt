-- What a run does to a state, and how many proposals it makes.
use Rattle.std.specs.Prelude.{◌≡◌, ℕ, ◌+◌, ◌-◌, ◌*◌, ◌^◌, ◌<◌, ◌≤◌, nat_lt, true, if◌then◌else◌, zero, suc, List, length, IsTrue, min, slice_index, slice_set, sum_by}
use Rattle.std.specs.List.{range_with_len}
use Rattle.map_model.specs.Market.{Market, choices_of, demand_of, limit_of}
use Rattle.map_model.specs.Allocation.{IsOffer, amount_at, is_at_limit, placed_through, is_wanted}
use Rattle.evict.specs.declared.freed.Eviction.{Eviction}
use Rattle.evict.specs.Standing.{IsPut, IsReady, Standing}

-- how often a group may still offer: once for each unit of its demand and once more, at each place from its pointer on
abbrev pub proposals_of : Market → List ℕ → ℕ → ℕ
proposals_of m pointers g = (length (choices_of m g) - slice_index pointers g) * (demand_of m g + 1)

-- how many proposals there may still be
abbrev pub most_proposals : Market → List ℕ → ℕ
most_proposals m pointers = sum_by (proposals_of m pointers) (range_with_len 0 (length m.groups))

-- Offers were made from one state to another: the later one is resumable too, no pointer falls, and no group has more at its places up to one that is before its old pointer.
pub record HasRun (m : Market) (old new : Standing) : Type 0 where
  pub ready : IsReady m new
  pub pointers : (g : ℕ) → g < length m.groups → slice_index old.pointers g ≤ slice_index new.pointers g
  pub through : (g k : ℕ) → IsOffer m g k → k < slice_index old.pointers g → placed_through new.lines g k ≤ placed_through old.lines g k

-- each place before a group's pointer is wanted
abbrev pub WantsBefore : Market → Standing → Type 0
WantsBefore m state = (g k : ℕ) → IsOffer m g k → k < slice_index state.pointers g → is_wanted m state.lines g k ≡ true

-- the group has free units, and a place left at which to offer them
pub record IsWaiting (m : Market) (state : Standing) (h : ℕ) : Type 0 where
  pub group : h < length m.groups
  pub free : 0 < slice_index state.free h
  pub place : slice_index state.pointers h < length (choices_of m h)

-- how many units a group offers at its pointer: its free ones, as many as fit under the limit there
abbrev pub offered : Market → Standing → ℕ → ℕ
offered m state g = min (slice_index state.free g) (limit_of m g (slice_index state.pointers g) - amount_at state.lines g (slice_index state.pointers g))

-- one proposal: a waiting group offered its free units at its pointer, as many as fit under the limit there, which is not full, and offers lost what is listed
pub record IsProposal (m : Market) (old new : Standing) : Type 0 where
  pub group : ℕ
  pub freed : List Eviction
  pub waiting : IsWaiting m old group
  pub some : 0 < offered m old group
  pub put : IsPut m old new group (slice_index old.pointers group) (offered m old group) freed

-- the offer at a waiting group's pointer is at its limit, and the pointer goes to the next place; nothing else changes
pub record IsSkip (m : Market) (old new : Standing) : Type 0 where
  pub group : ℕ
  pub waiting : IsWaiting m old group
  pub full : IsTrue (is_at_limit m old.lines group (slice_index old.pointers group))
  pub skipped : new ≡ record old { pointers = slice_set old.pointers group (slice_index old.pointers group + 1) }

-- so many places are skipped, one after another
abbrev pub AreSkips : Market → ℕ → Standing → Standing → Type 0
AreSkips m zero old new = new ≡ old
AreSkips m (suc n) old new = (last : Standing) × AreSkips m n old last × IsSkip m last new

-- so many proposals lead from one state to the other, with places that are skipped between them
abbrev pub AreProposals : Market → ℕ → Standing → Standing → Type 0
AreProposals m zero old new = (skips : ℕ) × AreSkips m skips old new
AreProposals m (suc n) old new = (last : Standing) × (next : Standing) × (skips : ℕ) × AreProposals m n old last × IsProposal m last next × AreSkips m skips next new

-- Proposals lead from one state to the other, and a counter rose by their number. It stands still at 2^64 - 1.
pub record HasProposed (m : Market) (old new : Standing) (before after : ℕ) : Type 0 where
  pub count : ℕ
  pub proposals : AreProposals m count old new
  pub counted : before < 2 ^ 64 → after ≡ (if nat_lt (before + count) (2 ^ 64) then before + count else 2 ^ 64 - 1)
