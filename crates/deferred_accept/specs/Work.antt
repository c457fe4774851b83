-- Inside this crate alone: the list of work, and a run between two proposals.
use Rattle.std.specs.Prelude.{◌≡◌, ◌⊎◌, ℕ, ◌+◌, ◌-◌, ◌^◌, ◌<◌, [], Bool, false, ◌||◌, ◌==◌, if◌then◌else◌, List, length, All, IsTrue, slice_index, slice_index_or, sum_by}
use Rattle.std.specs.List.{list_any, range_with_len}
use Rattle.map_model.specs.declared.instance.GroupId.{GroupId}
use Rattle.map_model.specs.declared.instance.Offer.{Offer}
use Rattle.map_model.specs.Market.{Market}
use Rattle.map_model.specs.Allocation.{amount_at}
use Rattle.evict.specs.Standing.{IsPut, Standing}
use Rattle.evict.specs.declared.freed.Eviction.{Eviction}
use Rattle.deferred_accept.specs.Runs.{IsSkip, IsWaiting, offered, proposals_of}

-- whether a group is on the list of work, by what that tells of each group
abbrev pub is_on : List Bool → ℕ → Bool
is_on work h = slice_index_or work h false

-- how often a list of groups names a group
abbrev pub times : List GroupId → ℕ → ℕ
times groups h = sum_by (λ (x : GroupId). if x.0 == h then 1 else 0) groups

-- a list of groups that names once each group that is on, and no other
pub record HoldsEachOnce (groups : List GroupId) (on : List Bool) : Type 0 where
  pub there : All (λ x. x.0 < length on) groups
  pub once : (h : ℕ) → h < length on → times groups h ≡ (if is_on on h then 1 else 0)

-- a list of work for the groups of the instance, with each waiting one on it
pub record CoversWork (m : Market) (state : Standing) (work : List Bool) : Type 0 where
  pub count : length work ≡ length m.groups
  pub waiting : (h : ℕ) → IsWaiting m state h → IsTrue (is_on work h)

-- the same, but for one group that was taken off
pub record CoversRest (m : Market) (state : Standing) (g : ℕ) (work : List Bool) : Type 0 where
  pub count : length work ≡ length m.groups
  pub waiting : (h : ℕ) → IsWaiting m state h → IsTrue (is_on work h || (g == h))

-- an offer that is due: a waiting group at its pointer
pub record IsDueOffer (m : Market) (state : Standing) (o : Offer) : Type 0 where
  pub waiting : IsWaiting m state o.group.0
  pub pointer : o.place ≡ slice_index state.pointers o.group.0

-- a place was skipped: nothing was given up, and nothing counted
pub record HasSkipped (m : Market) (old new : Standing) (g : ℕ) (freed : List Eviction) (before after : ℕ) : Type 0 where
  pub skip : IsSkip m old new
  pub group : skip.group ≡ g
  pub nothing : freed ≡ []
  pub same : after ≡ before

-- a group offered what fits under the limit at its pointer, which was counted once
pub record HasOffered (m : Market) (old new : Standing) (g : ℕ) (freed : List Eviction) (before after : ℕ) : Type 0 where
  pub waiting : IsWaiting m old g
  pub some : 0 < offered m old g
  pub put : IsPut m old new g (slice_index old.pointers g) (offered m old g) freed
  pub counted : after ≡ (if before == 2 ^ 64 - 1 then before else before + 1)

-- one step of a run
abbrev pub HasStepped : Market → Standing → Standing → ℕ → List Eviction → ℕ → ℕ → Type 0
HasStepped m old new g freed before after = HasSkipped m old new g freed before after ⊎ HasOffered m old new g freed before after

-- the group gave up units at some place
abbrev pub gave_any : List Eviction → ℕ → Bool
gave_any freed h = list_any (λ (e : Eviction). e.offer.group.0 == h) freed

-- what a group may still offer, less what it holds at its pointer
abbrev pub worth_of : Market → Standing → ℕ → ℕ
worth_of m state g = proposals_of m state.pointers g - amount_at state.lines g (slice_index state.pointers g)

-- the sum of that over all groups: it falls with each proposal
abbrev pub worth : Market → Standing → ℕ
worth m state = sum_by (worth_of m state) (range_with_len 0 (length m.groups))
