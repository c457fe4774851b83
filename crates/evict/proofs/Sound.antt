-- Whole states, after a put and after a release.
use Rattle.std.proofs.Common.{◌≡◌, ℕ, ◌+◌, ◌-◌, ◌<◌, ◌≤◌, ◌^◌, ◌==◌, true, if◌then◌else◌, List, length, slice_index, slice_set, get_or-set_same, get_or-set_other, refl, sym, ap, ◌∙◌, subst, inl, inr, arith}
use Rattle.std.proofs.Math.ListN.{length-set}
use Rattle.std.proofs.lemmas.Bool.{cases_eq, eq-eqb, ne_eqb}
use Rattle.capacity_tree.specs.Loads.{AddsUnits, Loads, TakesUnits}
use Rattle.map_model.specs.Market.{Market, IsMarket, pool_of}
use Rattle.map_model.specs.Allocation.{IsOffer, amount_at, is_under, placed}
use Rattle.map_model.specs.Holding.{Puts, Takes}
use Rattle.map_model.proofs.Shapes.{shape_sym}
use Rattle.map_model.proofs.Paths.{pool_there}
use Rattle.map_model.proofs.Units.{amount-le-placed}
use Rattle.offer_pool.specs.Holdings.{Holdings}
use Rattle.evict.specs.declared.freed.Eviction.{Eviction}
use Rattle.evict.specs.Evictions.{freed_units}
use Rattle.evict.specs.Putting.{AgreesWith, IsRelieved, IsSound}
use Rattle.evict.proofs.Done.{agrees-shape}
use Rattle.evict.proofs.Placing.{agrees-put}
use Rattle.evict.proofs.Relieving.{agrees-take, taken_fits}

-- a whole state after a put
pub sound_put : (m : Market) (g k units : ℕ) (held held' : Holdings) (tree tree' : Loads) (free free' totals : List ℕ) (freed : List Eviction) → IsSound held tree free totals → IsRelieved m (record { lines = held.lines; units = units }) g k held' tree' freed
    → held'.market ≡ held.market → length free' ≡ length free → ((h : ℕ) → h < length free' → slice_index free' h + (if g == h then units else 0) ≡ slice_index free h + freed_units (λ x _. x == h) freed) → IsSound held' tree' free' totals
sound_put m g k units held held' tree tree' free free' totals freed sound done same flen frees = record {
  market = subst (λ (x : Market). IsMarket x) (sym same) sound.market;
  agrees = agrees-shape m held'.market (shape_sym held'.market m done.accounted.shape) held'.lines tree' done.accounted.agrees;
  groups = ap (λ (x : Market). length x.groups) same ∙ sound.groups ∙ sym flen;
  count = sound.count ∙ sym flen;
  sums = λ h l. omega (arith, done.accounted.accounts (λ x _. x == h), frees h l, sound.sums h (omega (arith, flen)));
  small = λ h l. sound.small h (omega (arith, flen));
}

-- the pool of an offer is a node of the trees
pub pool_in : (held : Holdings) (tree : Loads) (free totals : List ℕ) (g k pool : ℕ) → IsSound held tree free totals → IsOffer held.market g k → pool ≡ pool_of held.market g k → pool < length tree.trees.nodes
pool_in held tree free totals g k pool sound o is =
    let there = pool_there held.market sound.market g k o in
    omega (arith, there, sound.agrees.trees.nodes, is)

pub release_fits : (held : Holdings) (tree : Loads) (free totals : List ℕ) (n g k units pool : ℕ) → IsSound held tree free totals → pool ≡ pool_of held.market g k → n < length tree.trees.nodes → is_under tree.trees n pool ≡ true → units ≤ amount_at held.lines g k
    → units ≤ slice_index tree.units n
release_fits held tree free totals n g k units pool sound is within on enough =
    taken_fits held.market held.lines tree n g k units pool sound.agrees is (omega (arith, sound.agrees.trees.nodes)) on enough

pub release_room : (held : Holdings) (tree : Loads) (free totals : List ℕ) (g k units : ℕ) → IsSound held tree free totals → g < length free → units ≤ amount_at held.lines g k → slice_index free g + units < 2 ^ 64
release_room held tree free totals g k units sound within enough = omega (arith, sound.sums g within, sound.small g within, amount-le-placed held.lines g k)

-- a whole state after a release
pub sound_release : (held held' : Holdings) (tree tree' : Loads) (free totals : List ℕ) (g k units pool now : ℕ) → IsSound held tree free totals → held'.market ≡ held.market → Takes held.lines held'.lines g k units → pool ≡ pool_of held.market g k → TakesUnits tree tree' pool units
    → g < length free → now ≡ slice_index free g + units → IsSound held' tree' (slice_set free g now) totals
sound_release held held' tree tree' free totals g k units pool now sound same takes is taken within made = record {
  market = subst (λ (x : Market). IsMarket x) (sym same) sound.market;
  agrees = subst (λ (x : Market). AgreesWith x held'.lines tree') (sym same)
      (agrees-take held.market held.lines held'.lines tree tree' g k units sound.agrees takes (subst (λ x. TakesUnits tree tree' x units) is taken));
  groups = ap (λ (x : Market). length x.groups) same ∙ sound.groups ∙ sym (length-set free g now);
  count = sound.count ∙ sym (length-set free g now);
  sums = λ h l. sum h (omega (arith, length-set free g now));
  small = λ h l. sound.small h (omega (arith, length-set free g now));
}
  where
    sum : (h : ℕ) → h < length free → placed held'.lines h + slice_index (slice_set free g now) h ≡ slice_index totals h
    sum h l = elim (cases_eq g h) [
      | inl e ↦
          let one : (if g == h then units else 0) ≡ units = rw (eq-eqb g h e) refl in
          let at : slice_index (slice_set free g now) h ≡ now = ap (slice_index (slice_set free g now)) (sym e) ∙ get_or-set_same free g now 0 within in
          let was : slice_index free g ≡ slice_index free h = ap (slice_index free) e in
          omega (arith, takes (λ x _. x == h), sound.sums h l)
      | inr ne ↦
          let none : (if g == h then units else 0) ≡ 0 = rw (ne_eqb g h ne) refl in
          let at : slice_index (slice_set free g now) h ≡ slice_index free h = get_or-set_other free g h now 0 (λ e. ne (sym e)) in
          omega (arith, takes (λ x _. x == h), sound.sums h l)
    ]

-- there is room for free units of a group beside what it holds
pub grant_held : (held : Holdings) (tree : Loads) (free totals : List ℕ) (g k units : ℕ) → IsSound held tree free totals → g < length free → units ≤ slice_index free g → amount_at held.lines g k + units < 2 ^ 32
grant_held held tree free totals g k units sound within some = omega (arith, sound.sums g within, sound.small g within, amount-le-placed held.lines g k)

-- what a group holds with some of its free units is still few
pub grant_placed : (held held' : Holdings) (tree : Loads) (free totals : List ℕ) (g k units : ℕ) → IsSound held tree free totals → Puts held.lines held'.lines g k units → g < length free → units ≤ slice_index free g → (h : ℕ) → h < length free → placed held'.lines h < 2 ^ 32
grant_placed held held' tree free totals g k units sound puts within some h l = elim (cases_eq g h) [
  | inl e ↦
      let one : (if g == h then units else 0) ≡ units = rw (eq-eqb g h e) refl in
      omega (arith, puts (λ x _. x == h), one, ap (slice_index free) e, sound.sums h l, sound.small h l)
  | inr ne ↦
      let none : (if g == h then units else 0) ≡ 0 = rw (ne_eqb g h ne) refl in
      omega (arith, puts (λ x _. x == h), none, sound.sums h l, sound.small h l)
]

-- a whole state after a grant
pub sound_grant : (held held' : Holdings) (tree tree' : Loads) (free totals : List ℕ) (g k units pool now : ℕ) → IsSound held tree free totals → held'.market ≡ held.market → Puts held.lines held'.lines g k units → pool ≡ pool_of held.market g k → AddsUnits tree tree' pool units
    → g < length free → units ≤ slice_index free g → now ≡ slice_index free g - units → IsSound held' tree' (slice_set free g now) totals
sound_grant held held' tree tree' free totals g k units pool now sound same puts is added within some made = record {
  market = subst (λ (x : Market). IsMarket x) (sym same) sound.market;
  agrees = subst (λ (x : Market). AgreesWith x held'.lines tree') (sym same)
      (agrees-put held.market held.lines held'.lines tree tree' g k units sound.agrees puts (subst (λ x. AddsUnits tree tree' x units) is added));
  groups = ap (λ (x : Market). length x.groups) same ∙ sound.groups ∙ sym (length-set free g now);
  count = sound.count ∙ sym (length-set free g now);
  sums = λ h l. sum h (omega (arith, length-set free g now));
  small = λ h l. sound.small h (omega (arith, length-set free g now));
}
  where
    sum : (h : ℕ) → h < length free → placed held'.lines h + slice_index (slice_set free g now) h ≡ slice_index totals h
    sum h l = elim (cases_eq g h) [
      | inl e ↦
          let one : (if g == h then units else 0) ≡ units = rw (eq-eqb g h e) refl in
          let at : slice_index (slice_set free g now) h ≡ now = ap (slice_index (slice_set free g now)) (sym e) ∙ get_or-set_same free g now 0 within in
          let was : slice_index free g ≡ slice_index free h = ap (slice_index free) e in
          omega (arith, puts (λ x _. x == h), sound.sums h l)
      | inr ne ↦
          let none : (if g == h then units else 0) ≡ 0 = rw (ne_eqb g h ne) refl in
          let at : slice_index (slice_set free g now) h ≡ slice_index free h = get_or-set_other free g h now 0 (λ e. ne (sym e)) in
          omega (arith, puts (λ x _. x == h), sound.sums h l)
    ]
