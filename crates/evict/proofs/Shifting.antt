-- Units that go from one place of a group's list to another.
use Rattle.std.proofs.Common.{◌≡◌, ℕ, ◌+◌, ◌*◌, ◌<◌, ◌≤◌, ◌^◌, ◌==◌, Bool, true, false, if◌then◌else◌, List, [], ◌∷◌, length, All, slice_index, slice_index_or, refl, sym, ap, ◌∙◌, subst, arith}
use Rattle.std.proofs.lemmas.Bool.{eq-eqb}
use Rattle.std.proofs.lemmas.List.Elements.{All-head, All-tail}
use Rattle.std.proofs.lemmas.List.Sums.{sum_by-cons, sum_by_more_le}
use Rattle.capacity_tree.specs.Loads.{AddsUnits, Loads, TakesUnits}
use Rattle.map_model.specs.declared.lines.MapLine.{MapLine}
use Rattle.map_model.specs.Market.{Market, IsMarket, pool_of}
use Rattle.map_model.specs.Allocation.{AreLines, counts_at, placed, units_of}
use Rattle.map_model.specs.Holding.{Puts, Takes}
use Rattle.map_model.proofs.MapForm.{length-AreLines, offers-AreLines}
use Rattle.offer_pool.specs.Holdings.{Holdings}
use Rattle.evict.specs.Putting.{AgreesWith, IsSound}
use Rattle.evict.proofs.Placing.{agrees-put}
use Rattle.evict.proofs.Relieving.{agrees-take}
use Rattle.evict.proofs.Sound.{grant_placed}

-- each line has fewer than 2^32 units
few_units : (test : ℕ → ℕ → Bool) (lines : List MapLine) → All (λ l. l.amount ≤ 2 ^ 32) lines → units_of test lines ≤ length lines * 2 ^ 32
few_units test [] all = omega arith
few_units test (l ∷ ls) all =
    omega (
      arith,
      sum_by-cons (λ (x : MapLine). if test x.group.0 x.place then x.amount else 0) l ls,
      one (test l.group.0 l.place) (All-head (λ (x : MapLine). x.amount ≤ 2 ^ 32) l ls all),
      few_units test ls (All-tail (λ (x : MapLine). x.amount ≤ 2 ^ 32) l ls all),
    )
  where
    one : (b : Bool) → l.amount ≤ 2 ^ 32 → (if b then l.amount else 0) ≤ 2 ^ 32
    one true le = le
    one false le = omega arith

-- so all lines together have fewer than 2^53
units_bound : (m : Market) → IsMarket m → (lines : List MapLine) → AreLines m lines → ((g : ℕ) → g < length m.groups → placed lines g < 2 ^ 32) → (test : ℕ → ℕ → Bool) → units_of test lines < 2 ^ 53
units_bound m market lines form small test = omega (arith, few_units test lines each, length-AreLines m market lines form)
  where
    each : All (λ l. l.amount ≤ 2 ^ 32) lines
    each i d l =
        let x : MapLine = slice_index_or lines i d in
        let all : (if x.group.0 == x.group.0 then x.amount else 0) ≡ x.amount = rw (eq-eqb x.group.0 x.group.0 refl) refl in
        omega (arith, sum_by_more_le (λ (y : MapLine). if y.group.0 == x.group.0 then y.amount else 0) lines i d l, all, small x.group.0 (offers-AreLines m lines form i d l).group)

-- the loads after the units went from their place
pub shift_taken : (held held' : Holdings) (tree tree' : Loads) (free totals : List ℕ) (g k units pool : ℕ) → IsSound held tree free totals → held'.market ≡ held.market → Takes held.lines held'.lines g k units → pool ≡ pool_of held.market g k → TakesUnits tree tree' pool units → AgreesWith held.market held'.lines tree'
shift_taken held held' tree tree' free totals g k units pool sound same takes is taken = agrees-take held.market held.lines held'.lines tree tree' g k units sound.agrees takes (subst (λ x. TakesUnits tree tree' x units) is taken)

-- there is room for them at each node
pub shift_room : (held held' : Holdings) (tree tree' : Loads) (free totals : List ℕ) (g k units n : ℕ) → IsSound held tree free totals → held'.market ≡ held.market → AreLines held'.market held'.lines → Takes held.lines held'.lines g k units → AgreesWith held.market held'.lines tree'
    → n < length tree'.trees.nodes → units < 2 ^ 32 → slice_index tree'.units n + units < 2 ^ 64
shift_room held held' tree tree' free totals g k units n sound same form takes agrees l small =
    let form' : AreLines held.market held'.lines = subst (λ (x : Market). AreLines x held'.lines) same form in
    let few = units_bound held.market sound.market held'.lines form' (λ h lh. omega (arith, takes (λ x _. x == h), sound.sums h (omega (arith, sound.groups)), sound.small h (omega (arith, sound.groups)))) (counts_at held.market n) in
    omega (arith, few, agrees.loads n (omega (arith, agrees.trees.nodes)))

-- a whole state after the units came to their new place
pub sound_shift : (held held' held'' : Holdings) (tree tree' tree'' : Loads) (free totals : List ℕ) (g from to units pool : ℕ) → IsSound held tree free totals → held'.market ≡ held.market → Takes held.lines held'.lines g from units → AgreesWith held.market held'.lines tree'
    → held''.market ≡ held'.market → Puts held'.lines held''.lines g to units → pool ≡ pool_of held.market g to → AddsUnits tree' tree'' pool units → IsSound held'' tree'' free totals
sound_shift held held' held'' tree tree' tree'' free totals g from to units pool sound same takes agrees same' puts is added =
    let all : held''.market ≡ held.market = same' ∙ same in
    record {
      market = subst (λ (x : Market). IsMarket x) (sym all) sound.market;
      agrees = subst (λ (x : Market). AgreesWith x held''.lines tree'') (sym all) (agrees-put held.market held'.lines held''.lines tree' tree'' g to units agrees puts (subst (λ x. AddsUnits tree' tree'' x units) is added));
      groups = ap (λ (x : Market). length x.groups) all ∙ sound.groups;
      count = sound.count;
      sums = λ h l. omega (arith, takes (λ x _. x == h), puts (λ x _. x == h), sound.sums h l);
      small = sound.small;
    }

-- there is room for granted units at each node
pub grant_room : (held held' : Holdings) (tree : Loads) (free totals : List ℕ) (g k units n : ℕ) → IsSound held tree free totals → held'.market ≡ held.market → AreLines held'.market held'.lines → Puts held.lines held'.lines g k units → g < length free → units ≤ slice_index free g
    → n < length tree.trees.nodes → slice_index tree.units n + units < 2 ^ 64
grant_room held held' tree free totals g k units n sound same form puts within some l =
    let form' : AreLines held.market held'.lines = subst (λ (x : Market). AreLines x held'.lines) same form in
    let few = units_bound held.market sound.market held'.lines form' (λ h lh. grant_placed held held' tree free totals g k units sound puts within some h (omega (arith, lh, sound.groups))) (counts_at held.market n) in
    omega (arith, few, puts (counts_at held.market n), sound.agrees.loads n (omega (arith, sound.agrees.trees.nodes)), sound.sums g within, sound.small g within)
