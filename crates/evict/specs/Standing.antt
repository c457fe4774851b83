-- States, and what each of their calls asks and gives.
use Rattle.std.specs.Prelude.{◌≡◌, ℕ, ◌+◌, ◌-◌, ◌<◌, ◌≤◌, ◌^◌, Bool, nat_lt, ◌==◌, if◌then◌else◌, List, [], length, All, IsSome, IsTrue, slice_index, slice_set}
use Rattle.map_model.specs.declared.instance.Key.{Key}
use Rattle.map_model.specs.declared.lines.MapLine.{MapLine}
use Rattle.map_model.specs.Market.{Market, IsMarket, IsSameShape, capacity_of, choices_of, demand_of, limit_of}
use Rattle.map_model.specs.Allocation.{AreLines, IsOffer, amount_at, counts_at, is_full_of_better, is_under, is_wanted, load, placed, refusing_node, units_of}
use Rattle.map_model.specs.Holding.{IsWorst, Puts, Takes}
use Rattle.map_model.specs.Progress.{IsResumable}
use Rattle.evict.specs.declared.freed.Eviction.{Eviction}
use Rattle.evict.specs.declared.rival.Rival.{Rival}
use Rattle.evict.specs.Evictions.{IsEviction, freed_units, gave_up}

-- A state of deferred acceptance: the instance on whose lists and trees it rests, what is held, the pointer and the free units of each group, and whether it is whole. Want of memory in the middle of a put, a grant or a shift leaves one that is not whole: no call that changes its loads or tells them takes it, and it is only to be dropped.
pub record Standing : Type 0 where
  pub market : Market
  pub lines : List MapLine
  pub pointers : List ℕ
  pub free : List ℕ
  pub is_whole : Bool

-- a whole state that is resumable for an instance, which differs from its own in demands and capacities alone
pub record IsReady (m : Market) (state : Standing) : Type 0 where
  pub market : IsMarket m
  pub whole : IsTrue state.is_whole
  pub shape : IsSameShape state.market m
  pub resumable : IsResumable m state.lines state.pointers state.free

-- All that a resumable state has, but that places before a pointer need not be refused.
pub record IsOpen (m : Market) (state : Standing) : Type 0 where
  pub market : IsMarket m
  pub whole : IsTrue state.is_whole
  pub shape : IsSameShape state.market m
  pub form : AreLines m state.lines
  pub pointers_for : length state.pointers ≡ length m.groups
  pub free_for : length state.free ≡ length m.groups
  pub capacities : (n : ℕ) → n < length m.nodes → load m state.lines n ≤ capacity_of m n
  pub limits : (g k : ℕ) → IsOffer m g k → amount_at state.lines g k ≤ limit_of m g k
  pub totals : (g : ℕ) → g < length m.groups → placed state.lines g + slice_index state.free g ≡ demand_of m g
  pub in_list : (g : ℕ) → g < length m.groups → slice_index state.pointers g ≤ length (choices_of m g)
  pub none_past : (g k : ℕ) → IsOffer m g k → slice_index state.pointers g < k → amount_at state.lines g k ≡ 0

-- who refuses an offer may be asked: the state is whole, and the instance differs from its own in demands and capacities alone
pub record CanAsk (m : Market) (state : Standing) (g k : ℕ) : Type 0 where
  pub market : IsMarket m
  pub whole : IsTrue state.is_whole
  pub shape : IsSameShape state.market m
  pub offer : IsOffer m g k

-- some units may be offered: a place of the group's list at its pointer, and no more units than are free and fit under the offer's limit
pub record CanPut (m : Market) (state : Standing) (g k units : ℕ) : Type 0 where
  pub ready : IsReady m state
  pub offer : IsOffer m g k
  pub pointer : k ≡ slice_index state.pointers g
  pub free : units ≤ slice_index state.free g
  pub limit : amount_at state.lines g k + units ≤ limit_of m g k

-- what a node refused before is refused after by it or by a node above it
abbrev pub KeepsRefusals : Market → List MapLine → List MapLine → Type 0
KeepsRefusals m old new = (n : ℕ) (key : Key) → n < length m.nodes → IsTrue (is_full_of_better m old n key) → (o : ℕ) × IsTrue (is_under m o n) × IsTrue (is_full_of_better m new o key)

-- A put of units at (g, k), with a list of what offers lost by it. What is held now and what is listed make up what was held before and the units put. Each group's free units count what it lost, and no longer what was put. A pointer goes to the next place where its group lost units at the place before it, and nowhere else. The new state is resumable, and no node takes a refusal back. An offer that lost units is refused by a node, also where its limit refused it.
pub record IsPut (m : Market) (old new : Standing) (g k units : ℕ) (freed : List Eviction) : Type 0 where
  pub ready : IsReady m new
  pub evictions : All (λ e. IsEviction m e) freed
  pub held : (test : ℕ → ℕ → Bool) → units_of test new.lines + freed_units test freed ≡ units_of test old.lines + (if test g k then units else 0)
  pub free : (h : ℕ) → h < length m.groups → slice_index new.free h + (if g == h then units else 0) ≡ slice_index old.free h + freed_units (λ x _. x == h) freed
  pub pointers : (h : ℕ) → h < length m.groups → slice_index new.pointers h ≡ (if gave_up freed h (slice_index old.pointers h) then slice_index old.pointers h + 1 else slice_index old.pointers h)
  pub refusals : KeepsRefusals m old.lines new.lines
  pub turned : (h j : ℕ) → IsOffer m h j → IsTrue (gave_up freed h j) → IsSome (refusing_node m new.lines h j)

-- a fresh state: whole and resumable, with nothing held and all pointers at the first place, so that all units are free
pub record IsFresh (m : Market) (state : Standing) : Type 0 where
  pub ready : IsReady m state
  pub nothing : state.lines ≡ []
  pub pointers : (g : ℕ) → g < length m.groups → slice_index state.pointers g ≡ 0

-- a place of a group's list, or its end, that stands behind exactly the wanted places: their number
pub record IsPastWanted (m : Market) (lines : List MapLine) (g place : ℕ) : Type 0 where
  pub in_list : place ≤ length (choices_of m g)
  pub wanted : (k : ℕ) → IsOffer m g k → is_wanted m lines g k ≡ nat_lt k place

-- the state of a good map: whole and resumable, it holds the map's lines, and each pointer is the number of its group's wanted places
pub record IsOfMap (m : Market) (held : List MapLine) (state : Standing) : Type 0 where
  pub ready : IsReady m state
  pub market : state.market ≡ m
  pub lines : state.lines ≡ held
  pub pointers : (g : ℕ) → g < length m.groups → IsPastWanted m held g (slice_index state.pointers g)

-- the full node of an offer's path that is nearest to its pool
pub record IsNearestFull (m : Market) (lines : List MapLine) (g k n : ℕ) : Type 0 where
  pub path : IsTrue (counts_at m n g k)
  pub full : load m lines n ≡ capacity_of m n
  pub nearest : (c : ℕ) → IsTrue (counts_at m c g k) → IsTrue (is_under m n c) → load m lines c ≡ capacity_of m c → c ≡ n

-- whom an offer would displace: at the nearest full node of its path, the worst offer that is held there, with all its units
pub record IsRival (m : Market) (lines : List MapLine) (g k : ℕ) (rival : Rival) : Type 0 where
  pub node : IsNearestFull m lines g k rival.node.0
  pub worst : IsWorst m lines rival.node.0 rival.offer.group.0 rival.offer.place rival.units

-- an offer displaces nobody as things stand: no node of its path is full, or nothing is held under the nearest full one
pub record HasNoRival (m : Market) (lines : List MapLine) (g k : ℕ) : Type 0 where
  pub nothing : (n : ℕ) → IsNearestFull m lines g k n → load m lines n ≡ 0

-- held units of an offer may go to another place of its group's list: the state is whole, and the offer holds them
pub record CanShift (state : Standing) (g from to units : ℕ) : Type 0 where
  pub whole : IsTrue state.is_whole
  pub source : IsOffer state.market g from
  pub target : IsOffer state.market g to
  pub held : units ≤ amount_at state.lines g from
  pub room : amount_at state.lines g to + units < 2 ^ 32

-- some units of a group went from one place of its list to another, and nothing else changed: said of the units that pass any test of group and place
pub record IsShifted (old new : Standing) (g from to units : ℕ) : Type 0 where
  pub market : new.market ≡ old.market
  pub whole : IsTrue new.is_whole
  pub form : AreLines new.market new.lines
  pub pointers : new.pointers ≡ old.pointers
  pub free : new.free ≡ old.free
  pub held : (test : ℕ → ℕ → Bool) → units_of test new.lines + (if test g from then units else 0) ≡ units_of test old.lines + (if test g to then units else 0)

-- held units may be released: the state is whole, and the offer holds them
pub record CanRelease (state : Standing) (g k units : ℕ) : Type 0 where
  pub whole : IsTrue state.is_whole
  pub offer : IsOffer state.market g k
  pub group : g < length state.free
  pub held : units ≤ amount_at state.lines g k

-- held units of an offer are free, and nothing else changed
pub record IsReleased (old new : Standing) (g k units : ℕ) : Type 0 where
  pub market : new.market ≡ old.market
  pub whole : IsTrue new.is_whole
  pub form : AreLines new.market new.lines
  pub lines : Takes old.lines new.lines g k units
  pub free : new.free ≡ slice_set old.free g (slice_index old.free g + units)
  pub pointers : new.pointers ≡ old.pointers

-- free units of a group may be held at a place of its list: the state is whole, and the group has them free
pub record CanGrant (state : Standing) (g k units : ℕ) : Type 0 where
  pub whole : IsTrue state.is_whole
  pub offer : IsOffer state.market g k
  pub group : g < length state.free
  pub free : units ≤ slice_index state.free g

-- free units of a group are held at a place, and nothing else changed
pub record IsGranted (old new : Standing) (g k units : ℕ) : Type 0 where
  pub market : new.market ≡ old.market
  pub whole : IsTrue new.is_whole
  pub form : AreLines new.market new.lines
  pub lines : Puts old.lines new.lines g k units
  pub free : new.free ≡ slice_set old.free g (slice_index old.free g - units)
  pub pointers : new.pointers ≡ old.pointers
