-- What the sums of a group-best map say: no feasible and stable map has more of all groups at the places up to one.
use Rattle.std.proofs.Common.{◌≡◌, ℕ, zero, suc, ◌+◌, ◌-◌, ◌<◌, ◌≤◌, ◌==◌, ◌&&◌, nat_le, nat_lt, List, [], length, ap, ◌∙◌, inl, inr, arith}
use Rattle.std.specs.Prelude.{sum_by}
use Rattle.std.specs.List.{range_with_len}
use Rattle.std.proofs.lemmas.Bool.{and_from, and_parts, cases_lt, le-leb, leb-true}
use Rattle.std.proofs.lemmas.Bool.Decides.{nat_tests}
use Rattle.map_model.specs.declared.lines.MapLine.{MapLine}
use Rattle.map_model.specs.Market.{Market, IsMarket, choices_of}
use Rattle.map_model.specs.Allocation.{AreLines, IsFeasible, IsOffer, IsStable, amount_at, placed_through}
use Rattle.map_model.specs.Progress.{IsGroupBest}
use Rattle.map_model.proofs.MapForm.{offers-AreLines}
use Rattle.map_model.proofs.Units.{none-units, placed_below, placed_through-below, placed_through-split, sum_by-add, sum_by-same, through-le-placed, units_of-le}
use Rattle.best_laws.proofs.Sums.{sum-le, sum-zeros, sum_more}
use Rattle.deferred_accept.proofs.Finished.{placed-le-through}
use Rattle.place_counts.specs.Places.{units_at}

-- the units below a place, group by group and place by place
below_sum : (m : Market) (lines : List MapLine) (k : ℕ) → sum_by (λ g. placed_below lines g k) (range_with_len 0 (length m.groups)) ≡ sum_by (λ j. units_at m lines j) (range_with_len 0 k)
below_sum m lines zero = sum-zeros (λ g. placed_below lines g 0) (length m.groups) 0 (λ g l. none-units (λ h j. (h == g) && nat_lt j 0) lines (λ h j. grind (arith, nat_tests)))
below_sum m lines (suc k) =
    let one : k + 1 ≡ suc k = omega arith in
    let parts = sum_by-add (λ g. placed_below lines g (suc k)) (λ g. placed_below lines g k) (λ g. amount_at lines g k)
    (λ g. let next : placed_below lines g (k + 1) ≡ placed_below lines g (suc k) = ap (placed_below lines g) one in omega (arith, next, placed_through-below lines g k, placed_through-split lines g k)) (range_with_len 0 (length m.groups)) in
    let last : sum_by (λ j. units_at m lines j) (range_with_len 0 (k + 1)) ≡ sum_by (λ j. units_at m lines j) (range_with_len 0 (suc k)) = ap (λ n. sum_by (λ j. units_at m lines j) (range_with_len 0 n)) one in
    omega (arith, parts, last, sum_more (λ j. units_at m lines j) k, below_sum m lines k)

-- the units of all groups at the places up to one, place by place
pub through_sum : (m : Market) (lines : List MapLine) (k : ℕ) → sum_by (λ g. placed_through lines g k) (range_with_len 0 (length m.groups)) ≡ sum_by (λ j. units_at m lines j) (range_with_len 0 (k + 1))
through_sum m lines k = sum_by-same (λ g. placed_through lines g k) (λ g. placed_below lines g (k + 1)) (λ g. placed_through-below lines g k) (range_with_len 0 (length m.groups)) ∙ below_sum m lines (k + 1)

-- up to a place that may be past the end of a group's list, it has no more in another map either
through_best : (m : Market) → IsMarket m → (lines other : List MapLine) → IsGroupBest m lines → AreLines m other → IsFeasible m other → IsStable m other → (g k : ℕ) → g < length m.groups → placed_through other g k ≤ placed_through lines g k
through_best m market lines other best form feasible stable g k there = elim (cases_lt k (length (choices_of m g))) [
  | inl within ↦ best other form feasible stable g k (record { group = there; place = within })
  | inr past ↦
      let asks = (market.groups g (record { demand = 0; choices = [] }) there).asks in
      let last : ℕ = length (choices_of m g) - 1 in
      let o : IsOffer m g last = record { group = there; place = omega (arith, asks) } in
      let all = placed-le-through m other g last (offers-AreLines m other form) (λ j oj l. absurd (omega (arith, oj.place, l))) in
      let more = units_of-le (λ x y. (x == g) && nat_le y last) (λ x y. (x == g) && nat_le y k) (λ x y t.
      let p = and_parts (x == g) (nat_le y last) t in
      and_from (x == g) (nat_le y k) p.0 (le-leb y k (omega (arith, leb-true y last p.1, past)))) lines in
      omega (arith, through-le-placed other g k, all, best other form feasible stable g last o, more)
]

-- no feasible and stable map has more of all groups at the places up to one than a group-best one
pub places_best : (m : Market) → IsMarket m → (lines other : List MapLine) → IsGroupBest m lines → AreLines m other → IsFeasible m other → IsStable m other → (k : ℕ)
    → sum_by (λ g. placed_through other g k) (range_with_len 0 (length m.groups)) ≤ sum_by (λ j. units_at m lines j) (range_with_len 0 (k + 1))
places_best m market lines other best form feasible stable k =
    omega (arith, through_sum m lines k, sum-le (λ g. placed_through other g k) (λ g. placed_through lines g k) (length m.groups) 0 (λ g l h. through_best m market lines other best form feasible stable g k (omega (arith, h))))
