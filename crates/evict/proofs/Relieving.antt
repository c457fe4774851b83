-- A node in the middle of its evictions.
use Rattle.std.proofs.Common.{◌≡◌, ℕ, ◌+◌, ◌-◌, ◌<◌, ◌≤◌, ◌==◌, ◌&&◌, min, Bool, true, false, if◌then◌else◌, List, [], ◌∷◌, ◌++◌, length, All, slice_index, slice_index_or, sym, ap, ◌∙◌, subst, arith}
use Rattle.std.proofs.lemmas.Bool.{and_parts, eqb-true}
use Rattle.std.proofs.lemmas.List.Sums.{sum_by_push}
use Rattle.std.proofs.lemmas.List.Elements.{All-push}
use Rattle.capacity_tree.specs.Loads.{AreTreesOf, Loads, TakesUnits}
use Rattle.map_model.specs.declared.lines.MapLine.{MapLine}
use Rattle.map_model.specs.Market.{Market, IsSameShape, capacity_of, key_of, pool_of}
use Rattle.map_model.specs.Allocation.{AreLines, IsOffer, amount_at, counts_at, is_under, load, units_of}
use Rattle.map_model.specs.Holding.{IsWorst, Takes, under_worse}
use Rattle.map_model.proofs.Paths.{pool_there}
use Rattle.map_model.proofs.Units.{units_of-le}
use Rattle.offer_pool.specs.Holdings.{Holdings}
use Rattle.evict.specs.declared.freed.Eviction.{Eviction}
use Rattle.evict.specs.Evictions.{IsEviction, freed_units}
use Rattle.evict.specs.Putting.{AgreesWith, IsAccounted, IsRelieving, IsTurnedAway, Origin}
use Rattle.evict.proofs.Putting.{IsPutting-evict}
use Rattle.evict.proofs.Shaped.{AreLines-shape, IsWorst-shape, is_under-trees}
use Rattle.evict.proofs.Turned.{turned_here, turned_still}

-- what an offer holds is held under each node of its path
pub amount-le-load : (m : Market) (lines : List MapLine) (n g k : ℕ) → counts_at m n g k ≡ true → amount_at lines g k ≤ load m lines n
amount-le-load m lines n g k here = units_of-le _ (counts_at m n) (λ h j t. grouped h j t) lines
  where
    grouped : (h j : ℕ) → ((h == g) && (j == k)) ≡ true → counts_at m n h j ≡ true
    grouped h j t =
        let p = and_parts (h == g) (j == k) t in
        let eg : h ≡ g = eqb-true h g p.0 in
        let ek : j ≡ k = eqb-true j k p.1 in
        rw (eg, ek) here

-- one more eviction on the list
pub freed_units-push : (test : ℕ → ℕ → Bool) (freed : List Eviction) (e : Eviction) → freed_units test (freed ++ e ∷ []) ≡ freed_units test freed + (if test e.offer.group.0 e.offer.place then e.units else 0)
freed_units-push test freed e = sum_by_push (λ (x : Eviction). if test x.offer.group.0 x.offer.place then x.units else 0) freed e

-- the loads after some units of an offer went
pub agrees-take : (m : Market) (old new : List MapLine) (tree tree' : Loads) (h j t : ℕ) → AgreesWith m old tree → Takes old new h j t → TakesUnits tree tree' (pool_of m h j) t → AgreesWith m new tree'
agrees-take m old new tree tree' h j t agrees takes taken = record {
  trees = subst (λ (x : Market). AreTreesOf m x) (sym taken.trees) agrees.trees;
  size = taken.count ∙ agrees.size;
  loads = λ n l.
      let same : is_under tree.trees n (pool_of m h j) ≡ counts_at m n h j = is_under-trees m tree.trees agrees.trees n (pool_of m h j) in
      let made = taken.each n (omega (arith, agrees.size)) ∙ ap (λ b. if b then slice_index tree.units n - t else slice_index tree.units n) same in
      less (counts_at m n h j) (slice_index tree.units n) (slice_index tree'.units n) (load m old n) (load m new n) t made (agrees.loads n l) (takes (counts_at m n));
}
  where
    less : (b : Bool) (x y a c t : ℕ) → y ≡ (if b then x - t else x) → x ≡ a → c + (if b then t else 0) ≡ a → y ≡ c
    less true x y a c t e f g = omega arith
    less false x y a c t e f g = omega arith

-- the accounts after some units of an offer went
accounted-take : (m : Market) (origin : Origin) (g k h j t : ℕ) (held held' : Holdings) (tree tree' : Loads) (freed freed' : List Eviction) (e : Eviction) → IsAccounted m origin g k held tree freed → e.offer.group.0 ≡ h → e.offer.place ≡ j → e.units ≡ t → IsEviction m e
    → held'.market ≡ held.market → Takes held.lines held'.lines h j t → AreLines held'.market held'.lines → TakesUnits tree tree' (pool_of m h j) t → freed' ≡ freed ++ e ∷ [] → IsAccounted m origin g k held' tree' freed'
accounted-take m origin g k h j t held held' tree tree' freed freed' e before eh ej et some same takes form taken push =
    let shape : IsSameShape held'.market m = subst (λ (x : Market). IsSameShape x m) (sym same) before.shape in
    record {
      shape = shape;
      form = AreLines-shape held'.market m shape held'.lines form;
      agrees = agrees-take m held.lines held'.lines tree tree' h j t before.agrees takes taken;
      accounts = λ test.
          let more : freed_units test freed' ≡ freed_units test freed + (if test h j then t else 0) = ap (freed_units test) push ∙ freed_units-push test freed e ∙ rewritten test in
          omega (arith, more, takes test, before.accounts test);
      evictions = subst (λ (xs : List Eviction). All (λ e. IsEviction m e) xs) (sym push) (All-push (λ e. IsEviction m e) freed e before.evictions some);
    }
  where
    rewritten : (test : ℕ → ℕ → Bool) → freed_units test freed + (if test e.offer.group.0 e.offer.place then e.units else 0) ≡ freed_units test freed + (if test h j then t else 0)
    rewritten test = ap (λ x. freed_units test freed + (if test x e.offer.place then e.units else 0)) eh ∙ ap (λ x. freed_units test freed + (if test h x then e.units else 0)) ej ∙ ap (λ x. freed_units test freed + (if test h j then x else 0)) et

-- what the eviction of a node's worst offer needs, and how many units it takes
pub record IsDue (m : Market) (lines : List MapLine) (c h j t : ℕ) : Type 0 where
  pub offer : IsOffer m h j
  pub under : counts_at m c h j ≡ true
  pub some : 0 < t
  pub held : t ≤ amount_at lines h j
  pub worst : units_of (under_worse m c (key_of m h j)) lines ≡ 0
  pub over : capacity_of m c + t ≤ load m lines c

pub due : (m : Market) (held : Holdings) (tree : Loads) (c h j most t : ℕ) → IsSameShape held.market m → AgreesWith m held.lines tree → c < length m.nodes → IsWorst held.market held.lines c h j most
    → capacity_of m c < slice_index tree.units c → t ≡ min (slice_index tree.units c - capacity_of m c) most → IsDue m held.lines c h j t
due m held tree c h j most t shape agrees there worst over is =
    let w = IsWorst-shape held.market m shape held.lines c h j most worst in
    let loads = agrees.loads c there in
    record { offer = w.offer; under = w.under; some = omega (arith, w.some); held = omega (arith, w.held); worst = w.worst; over = omega arith }

-- one eviction in the middle of a put
pub relieving_step : (m : Market) (origin : Origin) (g k c r h j t : ℕ) (held held' : Holdings) (tree tree' : Loads) (freed freed' : List Eviction) (e : Eviction) → IsRelieving m origin g k c r held tree freed → IsDue m held.lines c h j t
    → e.offer.group.0 ≡ h → e.offer.place ≡ j → e.units ≡ t
    → held'.market ≡ held.market → Takes held.lines held'.lines h j t → AreLines held'.market held'.lines → TakesUnits tree tree' (pool_of m h j) t → freed' ≡ freed ++ e ∷ []
    → IsRelieving m origin g k c (r - t) held' tree' freed'
relieving_step m origin g k c r h j t held held' tree tree' freed freed' e before d eh ej et same takes form taken push =
    let pool = pool_there m before.market h j d.offer in
    let eviction : IsEviction m e = record { offer = subst (λ x. IsOffer m e.offer.group.0 x) (sym ej) (subst (λ x. IsOffer m x j) (sym eh) d.offer); some = omega (arith, d.some) } in
    let here : IsTurnedAway m held'.lines c e = turned_here m held.lines held'.lines c e (λ test. ap (λ x. units_of test held'.lines + x) (again test) ∙ takes test) (at_offer (λ x y. counts_at m c x y ≡ true) d.under)
    (at_offer (λ x y. units_of (under_worse m c (key_of m x y)) held.lines ≡ 0) d.worst) (omega (arith, d.over, et)) in
    record {
      market = before.market;
      offer = before.offer;
      there = before.there;
      accounted = accounted-take m origin g k h j t held held' tree tree' freed freed' e before.accounted eh ej et eviction same takes form taken push;
      putting = IsPutting-evict m before.market origin.lines held.lines held'.lines g k c r before.putting h j t takes pool d.under d.worst before.there d.some d.over;
      turned = subst (λ (xs : List Eviction). All (λ e. IsTurnedAway m held'.lines c e) xs) (sym push)
          (All-push (λ e. IsTurnedAway m held'.lines c e) freed e (still freed before.accounted.evictions before.turned) here);
    }
  where
    again : (test : ℕ → ℕ → Bool) → (if test e.offer.group.0 e.offer.place then e.units else 0) ≡ (if test h j then t else 0)
    again test = ap (λ x. if test x e.offer.place then e.units else 0) eh ∙ ap (λ x. if test h x then e.units else 0) ej ∙ ap (λ x. if test h j then x else 0) et

    at_offer : (P : ℕ → ℕ → Type 0) → P h j → P e.offer.group.0 e.offer.place
    at_offer P p = subst (λ x. P e.offer.group.0 x) (sym ej) (subst (λ x. P x j) (sym eh) p)

    still : (xs : List Eviction) → All (λ e. IsEviction m e) xs → All (λ e. IsTurnedAway m held.lines c e) xs → All (λ e. IsTurnedAway m held'.lines c e) xs
    still xs all turned k d' l =
        let e' : Eviction = slice_index_or xs k d' in
        turned_still m before.market held.lines held'.lines c h j t before.there takes d.under d.worst d.over e' (pool_there m before.market e'.offer.group.0 e'.offer.place (all k d' l).offer) (turned k d' l)

-- the measure of the evictions of a node
pub load_falls : (m : Market) (lines : List MapLine) (tree tree' : Loads) (c h j t : ℕ) → AgreesWith m lines tree → c < length m.nodes → IsDue m lines c h j t → TakesUnits tree tree' (pool_of m h j) t → slice_index tree'.units c < slice_index tree.units c
load_falls m lines tree tree' c h j t agrees there d taken =
    let under : is_under tree.trees c (pool_of m h j) ≡ true = is_under-trees m tree.trees agrees.trees c (pool_of m h j) ∙ d.under in
    let made = taken.each c (omega (arith, agrees.size)) ∙ ap (λ b. if b then slice_index tree.units c - t else slice_index tree.units c) under in
    omega (arith, made, d.some, d.over, agrees.loads c there)

-- the units that an offer holds are under each node of its path
pub taken_fits : (m : Market) (lines : List MapLine) (tree : Loads) (n h j t pool : ℕ) → AgreesWith m lines tree → pool ≡ pool_of m h j → n < length m.nodes → is_under tree.trees n pool ≡ true → t ≤ amount_at lines h j → t ≤ slice_index tree.units n
taken_fits m lines tree n h j t pool agrees is within on held =
    let here : counts_at m n h j ≡ true = sym (is_under-trees m tree.trees agrees.trees n (pool_of m h j)) ∙ ap (is_under tree.trees n) (sym is) ∙ on in
    omega (arith, amount-le-load m lines n h j here, held, agrees.loads n within)
