-- The beginning of a put.
use Rattle.std.proofs.Common.{◌≡◌, ℕ, ◌+◌, ◌<◌, ◌≤◌, ◌^◌, Bool, true, false, if◌then◌else◌, is_some, List, [], ◌∷◌, ◌++◌, length, None, slice_index, refl, sym, ap, ◌∙◌, subst, arith}
use Rattle.std.proofs.lemmas.List.Elements.{All-cons, All-nil}
use Rattle.std.proofs.lemmas.List.Sums.{sum_by-cons}
use Rattle.capacity_tree.specs.Loads.{AddsUnits, AreTreesOf, Loads}
use Rattle.map_model.specs.declared.lines.MapLine.{MapLine}
use Rattle.map_model.specs.Market.{Market, IsSameShape, capacity_of, key_of, pool_of}
use Rattle.map_model.specs.Allocation.{AreLines, counts_at, is_under, load, refusing_node}
use Rattle.map_model.specs.Holding.{IsSaturated, Puts}
use Rattle.map_model.proofs.Trees.{under_itself}
use Rattle.map_model.proofs.Paths.{pool_there}
use Rattle.offer_pool.specs.Holdings.{Holdings}
use Rattle.evict.specs.declared.freed.Eviction.{Eviction}
use Rattle.evict.specs.Evictions.{IsEviction, freed_units}
use Rattle.evict.specs.Putting.{AgreesWith, IsPlacing, IsRelieved, IsRelieving, Origin}
use Rattle.evict.proofs.Putting.{IsPutting-start}
use Rattle.evict.proofs.Refusals.{refused_by, saturated_from_full}
use Rattle.evict.proofs.Shaped.{AreLines-shape, is_under-trees}

-- there is room for the units at each node
pub room_at : (m : Market) (origin : Origin) (g k units : ℕ) (held : Holdings) (tree : Loads) (freed : List Eviction) → IsPlacing m origin g k units held tree freed → (n : ℕ) → n < length m.nodes → slice_index tree.units n + units < 2 ^ 64
room_at m origin g k units held tree freed p n l =
    let capacity : capacity_of m n ≤ 2 ^ 48 = p.market.capacities n (record { capacity = 0; parent = None; is_pool = false }) l in
    omega (arith, p.agrees.loads n l, p.fits n l, p.room, capacity)

-- the loads after some units of an offer came
pub agrees-put : (m : Market) (old new : List MapLine) (tree tree' : Loads) (g k t : ℕ) → AgreesWith m old tree → Puts old new g k t → AddsUnits tree tree' (pool_of m g k) t → AgreesWith m new tree'
agrees-put m old new tree tree' g k t agrees puts added = record {
  trees = subst (λ (x : Market). AreTreesOf m x) (sym added.trees) agrees.trees;
  size = added.count ∙ agrees.size;
  loads = λ n l.
      let same : is_under tree.trees n (pool_of m g k) ≡ counts_at m n g k = is_under-trees m tree.trees agrees.trees n (pool_of m g k) in
      let made = added.each n (omega (arith, agrees.size)) ∙ ap (λ b. if b then slice_index tree.units n + t else slice_index tree.units n) same in
      more (counts_at m n g k) (slice_index tree.units n) (slice_index tree'.units n) (load m old n) (load m new n) t made (agrees.loads n l) (puts (counts_at m n));
}
  where
    more : (b : Bool) (x y a c t : ℕ) → y ≡ (if b then x + t else x) → x ≡ a → c ≡ a + (if b then t else 0) → y ≡ c
    more true x y a c t e f g = omega arith
    more false x y a c t e f g = omega arith

-- the start of the evictions of a put
pub relieving_start : (m : Market) (origin : Origin) (g k units : ℕ) (held held' : Holdings) (tree tree' : Loads) (freed : List Eviction) → IsPlacing m origin g k units held tree freed → held'.market ≡ held.market
    → Puts held.lines held'.lines g k units → AreLines held'.market held'.lines → AddsUnits tree tree' (pool_of m g k) units → IsRelieving m origin g k (pool_of m g k) units held' tree' freed
relieving_start m origin g k units held held' tree tree' freed p same puts form added =
    let pool = pool_there m p.market g k p.offer in
    let shape : IsSameShape held'.market m = subst (λ (x : Market). IsSameShape x m) (sym same) p.shape in
    let start : Origin = record { lines = held.lines; units = units } in
    let done : IsRelieving m start g k (pool_of m g k) units held' tree' [] = record {
      market = p.market;
      offer = p.offer;
      there = pool;
      accounted = record {
        shape = shape;
        form = AreLines-shape held'.market m shape held'.lines form;
        agrees = agrees-put m held.lines held'.lines tree tree' g k units p.agrees puts added;
        accounts = λ test. let none : freed_units test [] ≡ 0 = refl in omega (arith, puts test, none);
        evictions = λ i d l. absurd (omega arith);
      };
      putting = IsPutting-start m p.market held.lines held'.lines g k units puts pool p.fits;
      turned = λ i d l. absurd (omega arith);
    } in
    subst (λ (o : Origin). IsRelieving m o g k (pool_of m g k) units held' tree' freed) (sym p.start) (subst (λ (xs : List Eviction). IsRelieving m start g k (pool_of m g k) units held' tree' xs) (sym p.nothing) done)

-- units of an offer that some node refuses are given up as they come
pub turned_away : (m : Market) (origin : Origin) (g k units : ℕ) (held : Holdings) (tree : Loads) (freed freed' : List Eviction) (e : Eviction) → IsPlacing m origin g k units held tree freed → 0 < units → is_some (refusing_node m held.lines g k) ≡ true
    → e ≡ record { offer = record { group = record { 0 = g }; place = k }; units = units } → freed' ≡ freed ++ e ∷ [] → IsRelieved m origin g k held tree freed'
turned_away m origin g k units held tree freed freed' e p some refused itself listed =
    let start : Origin = record { lines = held.lines; units = units } in
    let eviction : Eviction = record { offer = record { group = record { 0 = g }; place = k }; units = units } in
    let by = refused_by m held.lines g k refused in
    let away : Eviction → Type 0 = λ x. (o : ℕ) × (counts_at m o x.offer.group.0 x.offer.place ≡ true) × IsSaturated m held.lines o (key_of m x.offer.group.0 x.offer.place) in
    let done : IsRelieved m start g k held tree (eviction ∷ []) = record {
      accounted = record {
        shape = p.shape;
        form = p.form;
        agrees = p.agrees;
        accounts = λ test. let one : freed_units test (eviction ∷ []) ≡ (if test g k then units else 0) + freed_units test [] = sum_by-cons (λ x. if test x.offer.group.0 x.offer.place then x.units else 0) eviction [] in let none : freed_units test [] ≡ 0 = refl in omega arith;
        evictions = All-cons (λ x. IsEviction m x) eviction [] (record { offer = p.offer; some = some }) (All-nil (λ x. IsEviction m x));
      };
      settled = record { fits = p.fits; kept = λ n l key full. (n, under_itself m n, full) };
      turned = All-cons away eviction [] (by.0, by.1, saturated_from_full m held.lines by.0 (key_of m g k) p.form by.2) (All-nil away);
    } in
    let is : freed' ≡ eviction ∷ [] = listed ∙ ap (λ xs. xs ++ e ∷ []) p.nothing ∙ ap (λ x. x ∷ []) itself in
    subst (λ (o : Origin). IsRelieved m o g k held tree freed') (sym p.start) (subst (λ (xs : List Eviction). IsRelieved m start g k held tree xs) (sym is) done)
