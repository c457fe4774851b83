-- What is stable has no less than a map within it; so what is ahead and stable is group-best.
use Rattle.std.proofs.Common.{ℕ, ◌≤◌, ◌==◌, ◌&&◌, nat_le, List, inl, inr, arith}
use Rattle.std.proofs.lemmas.Bool.{and_parts, and_from, cases_lt, leb-true, le-leb, lt-ltb}
use Rattle.map_model.specs.declared.lines.MapLine.{MapLine}
use Rattle.map_model.specs.Market.{Market, IsMarket, demand_of}
use Rattle.map_model.specs.Allocation.{IsOffer, IsStable, placed_through}
use Rattle.map_model.specs.Progress.{IsGroupBest, IsResumable}
use Rattle.map_model.proofs.Units.{through-le-placed, units_of-le}
use Rattle.best_laws.specs.Ahead.{IsAhead, IsRightMap, IsWithin}
use Rattle.best_laws.proofs.Wants.{no_more_refused, through_le, wants_less}

-- a wanted place is refused, as those before its group's pointer are
pub best_within : (m : Market) → IsMarket m → (lines other : List MapLine) (pointers free : List ℕ) → IsResumable m lines pointers free → IsStable m lines → IsRightMap m other → IsWithin m other lines pointers → (g k : ℕ) → IsOffer m g k → placed_through other g k ≤ placed_through lines g k
best_within m market lines other pointers free r stable right within g k o = elim (cases_lt (placed_through lines g k) (demand_of m g)) [
  | inr full ↦ omega (arith, full, through-le-placed other g k, right.feasible.demands g o.group)
  | inl wanted ↦ through_le other lines g k (λ j l.
      let more = units_of-le (λ x y. (x == g) && nat_le y j) (λ x y. (x == g) && nat_le y k) (λ x y t.
      let p = and_parts (x == g) (nat_le y j) t in
      and_from (x == g) (nat_le y k) p.0 (le-leb y k (omega (arith, leb-true y j p.1, l)))) lines in
      let oj : IsOffer m g j = record { group = o.group; place = omega (arith, o.place, l) } in
      no_more_refused m market lines other right r.form r.capacities r.limits (λ h i oh less. wants_less m lines lines other pointers free r (λ a b oa. omega arith) within h i oh less) g j oj
      (stable g j oj (lt-ltb (placed_through lines g j) (demand_of m g) (omega (arith, more, wanted)))))
]

-- all maps are within what is ahead
pub best_of_stable : (m : Market) → IsMarket m → (lines : List MapLine) (pointers free : List ℕ) → IsResumable m lines pointers free → IsStable m lines → IsAhead m lines pointers → IsGroupBest m lines
best_of_stable m market lines pointers free r stable ahead other form feasible other_stable =
    let right : IsRightMap m other = record { form = form; feasible = feasible; stable = other_stable } in
    best_within m market lines other pointers free r stable right (ahead other right)
