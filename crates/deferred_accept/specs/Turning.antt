-- Inside this crate alone: groups that displace each other round a circle, and whole rounds of it at once.
use Rattle.std.specs.Prelude.{◌≡◌, ℕ, ◌+◌, ◌<◌, ◌≤◌, Bool, false, not, ◌&&◌, if◌then◌else◌, List, [], ◌∷◌, ◌++◌, All, AllPairs, IsTrue, length, map, slice_index, sum_by, ◌-◌, ◌^◌, nat_lt}
use Rattle.map_model.specs.Market.{Market, capacity_of, key_of, limit_of}
use Rattle.map_model.specs.Allocation.{AreLines, IsOffer, amount_at, counts_at, key_le, load, units_of}
use Rattle.evict.specs.Standing.{CanShift, IsRival, Standing}
use Rattle.deferred_accept.specs.declared.circle.Hop.{Hop}
use Rattle.deferred_accept.specs.Runs.{AreProposals}

-- the group that offers
abbrev pub hopper : Hop → ℕ
hopper hop = hop.offer.group.0

-- the group that would be displaced
abbrev pub displaced : Hop → ℕ
displaced hop = hop.rival.offer.group.0

-- A group's next offer would displace units of another offer, which is ranked lower and stands before the pointer of its own group. So no pointer moves.
pub record IsHop (m : Market) (state : Standing) (hop : Hop) : Type 0 where
  pub offer : IsOffer m hop.offer.group.0 hop.offer.place
  pub pointer : hop.offer.place ≡ slice_index state.pointers hop.offer.group.0
  pub rival : IsRival m state.lines hop.offer.group.0 hop.offer.place hop.rival
  pub better : key_le (key_of m hop.rival.offer.group.0 hop.rival.offer.place) (key_of m hop.offer.group.0 hop.offer.place) ≡ false
  pub behind : hop.rival.offer.place < slice_index state.pointers hop.rival.offer.group.0

-- Hops round a circle: each displaces the group of the next one, and the last displaces the group of the first, which is that of no other hop. All free units of the circle are the first group's.
pub record IsCircle (m : Market) (state : Standing) (first : Hop) (rest : List Hop) (units : ℕ) : Type 0 where
  pub hops : All (λ h. IsHop m state h) (first ∷ rest)
  pub linked : map displaced (first ∷ rest) ≡ map hopper rest ++ hopper first ∷ []
  pub once : All (λ h. hopper h ≡ hopper first → ⊥) rest
  pub some : 0 < units
  pub free : slice_index state.free (hopper first) ≡ units
  pub idle : All (λ h. slice_index state.free (hopper h) ≡ 0) rest

-- the hops of a circle as one list, the first one in front
pub record AreRound (m : Market) (state : Standing) (hops : List Hop) (units : ℕ) : Type 0 where
  pub first : Hop
  pub rest : List Hop
  pub listed : hops ≡ first ∷ rest
  pub circle : IsCircle m state first rest units

-- a hop raises the load of a node: its offer stands under the node, and the one that it displaces does not
abbrev pub raises : Market → ℕ → Hop → Bool
raises m n hop = counts_at m n hop.offer.group.0 hop.offer.place && not (counts_at m n hop.rival.offer.group.0 hop.rival.offer.place)

-- so many units may go round: each offer that is displaced has them, each offer of a hop may hold as many more, and each node whose load a hop raises has room for them
pub record HasRoomFor (m : Market) (state : Standing) (hops : List Hop) (units : ℕ) : Type 0 where
  pub amounts : All (λ h. units ≤ h.rival.units) hops
  pub limits : All (λ h. amount_at state.lines h.offer.group.0 h.offer.place + units ≤ limit_of m h.offer.group.0 h.offer.place) hops
  pub rooms : (n : ℕ) → n < length m.nodes → All (λ h. IsTrue (raises m n h) → load m state.lines n + units ≤ capacity_of m n) hops

-- the units that came to the offers of the hops that pass a test
abbrev pub came : (ℕ → ℕ → Bool) → ℕ → List Hop → ℕ
came test units hops = sum_by (λ (h : Hop). if test h.offer.group.0 h.offer.place then units else 0) hops

-- the units that were displaced at the offers that pass a test
abbrev pub gone : (ℕ → ℕ → Bool) → ℕ → List Hop → ℕ
gone test units hops = sum_by (λ (h : Hop). if test h.rival.offer.group.0 h.rival.offer.place then units else 0) hops

-- So many units went round a circle: each hop's offer has as many more, and each displaced offer as many fewer. Pointers and free units are as before.
pub record IsTurned (m : Market) (old new : Standing) (hops : List Hop) (units : ℕ) : Type 0 where
  pub market : new.market ≡ old.market
  pub whole : IsTrue new.is_whole
  pub form : AreLines m new.lines
  pub pointers : new.pointers ≡ old.pointers
  pub free : new.free ≡ old.free
  pub held : (test : ℕ → ℕ → Bool) → units_of test new.lines + gone test units hops ≡ units_of test old.lines + came test units hops

-- the units that come to the next offers of the displaced groups, at the offers that pass a test
abbrev pub passed : (ℕ → ℕ → Bool) → List ℕ → ℕ → List Hop → ℕ
passed test pointers units hops = sum_by (λ (h : Hop). if test (displaced h) (slice_index pointers (displaced h)) then units else 0) hops

-- units may be passed on round some hops: in a whole state each displaced offer has them, and may give them to the next offer of its own group, which no other hop displaces
pub record CanPass (state : Standing) (hops : List Hop) (units : ℕ) : Type 0 where
  pub whole : IsTrue state.is_whole
  pub form : AreLines state.market state.lines
  pub groups : All (λ h. displaced h < length state.pointers) hops
  pub shifts : All (λ h. CanShift state (displaced h) h.rival.offer.place (slice_index state.pointers (displaced h)) units) hops
  pub apart : AllPairs (λ a b. displaced a ≡ displaced b → ⊥) hops

-- each displaced offer gave so many units to the next offer of its own group
pub record IsPassed (old new : Standing) (hops : List Hop) (units : ℕ) : Type 0 where
  pub market : new.market ≡ old.market
  pub whole : IsTrue new.is_whole
  pub form : AreLines new.market new.lines
  pub pointers : new.pointers ≡ old.pointers
  pub free : new.free ≡ old.free
  pub held : (test : ℕ → ℕ → Bool) → units_of test new.lines + gone test units hops ≡ units_of test old.lines + passed test old.pointers units hops

-- Whole rounds of a circle were made, or none: so many proposals lead from one state to the other as the counter rose by, which stands still at 2^64 - 1. Pointers and free units are as before.
pub record HasTurned (m : Market) (old new : Standing) (before after : ℕ) : Type 0 where
  pub count : ℕ
  pub proposals : AreProposals m count old new
  pub small : before < 2 ^ 64
  pub counted : after ≡ (if nat_lt (before + count) (2 ^ 64) then before + count else 2 ^ 64 - 1)
  pub pointers : new.pointers ≡ old.pointers
  pub free : new.free ≡ old.free
