-- The amounts of a group, and their sum.
use Rattle.std.proofs.Common.{zero, suc, ◌≡◌, ℕ, ◌+◌, ◌<◌, ◌≤◌, ◌^◌, ◌==◌, ◌&&◌, Bool, true, false, nat_lt, cond, List, [], ◌∷◌, length, get_or, refl, sym, subst, ◌∙◌, arith}
use Rattle.std.specs.Prelude.{map, sum, if◌then◌else◌, All}
use Rattle.std.specs.List.{range_with_len}
use Rattle.std.proofs.lemmas.Bool.Decides.{nat_tests}
use Rattle.std.proofs.lemmas.List.FromFn.{sum_by-map-range_with_len_more}
use Rattle.std.proofs.lemmas.List.Sums.{sum_by-cons}
use Rattle.std.proofs.lemmas.List.Elements.{All-head, All-tail}
use Rattle.map_model.specs.declared.lines.MapLine.{MapLine}
use Rattle.map_model.specs.Market.{Market, choices_of, demand_of}
use Rattle.map_model.specs.Allocation.{IsOffer, amount_at, placed}
use Rattle.map_model.proofs.MapForm.{offers-AreLines}
use Rattle.map_model.proofs.Units.{placed_below, placed_through-below, placed_through-split}
use Rattle.published_map.specs.Version.{Version, IsVersion, amounts_of}

none_below : (lines : List MapLine) (g : ℕ) → placed_below lines g 0 ≡ 0
none_below [] g = refl
none_below (l ∷ ls) g = omega (arith, sum_by-cons (λ l. if (l.group.0 == g) && nat_lt l.place 0 then l.amount else 0) l ls, none_below ls g, nothing (l.group.0 == g) l.amount)
  where
    nothing : (b : Bool) (n : ℕ) → cond (b && nat_lt l.place 0) n 0 ≡ 0
    nothing true n = grind (arith, nat_tests)
    nothing false n = refl

-- the amounts at the first places add up
one_more : (lines : List MapLine) (g n : ℕ) → sum (map (amount_at lines g) (range_with_len 0 n)) ≡ placed_below lines g n → sum (map (amount_at lines g) (range_with_len 0 (n + 1))) ≡ placed_below lines g (n + 1)
one_more lines g n so_far = omega (arith, sum_by-map-range_with_len_more (λ x. x) (amount_at lines g) 0 n n (omega arith), so_far, placed_through-below lines g n, placed_through-split lines g n)

pub added : (lines : List MapLine) (g n : ℕ) → sum (map (amount_at lines g) (range_with_len 0 n)) ≡ placed_below lines g n
added lines g zero = sym (none_below lines g)
added lines g (suc n) =
    let e : n + 1 ≡ suc n = omega arith in
    subst (λ (k : ℕ). sum (map (amount_at lines g) (range_with_len 0 k)) ≡ placed_below lines g k) e (one_more lines g n (added lines g n))

-- each place of the group's lines is below that number
abbrev pub IsBelow : ℕ → ℕ → MapLine → Type 0
IsBelow g n l = l.group.0 ≡ g → l.place < n

all_below : (lines : List MapLine) (g n : ℕ) → All (IsBelow g n) lines → placed_below lines g n ≡ placed lines g
all_below [] g n all = refl
all_below (l ∷ ls) g n all =
    omega (arith, sum_by-cons (λ l. if (l.group.0 == g) && nat_lt l.place n then l.amount else 0) l ls, sum_by-cons (λ l. if l.group.0 == g then l.amount else 0) l ls, all_below ls g n (All-tail (IsBelow g n) l ls all), same (All-head (IsBelow g n) l ls all))
  where
    same : (l.group.0 ≡ g → l.place < n) → (if (l.group.0 == g) && nat_lt l.place n then l.amount else 0) ≡ (if l.group.0 == g then l.amount else 0)
    same h = grind (arith, nat_tests)

places_below : (m : Market) (g : ℕ) (lines : List MapLine) → All (λ l. IsOffer m l.group.0 l.place) lines → All (IsBelow g (length (choices_of m g))) lines
places_below m g lines all = λ i d lt is. let o = all i d lt in subst (λ (h : ℕ). (get_or lines i d).place < length (choices_of m h)) is o.place

-- the amounts of a group add up to what is placed of it
pub total : (v : Version) (g : ℕ) → IsVersion v → sum (amounts_of v g) ≡ placed v.lines g
total v g is = added v.lines g (length (choices_of v.market g)) ∙ all_below v.lines g _ (places_below v.market g v.lines (offers-AreLines v.market v.lines is.good.form))

-- which is within its demand, and so a number of 32 bits
pub placed_fits : (v : Version) (g : ℕ) → IsVersion v → g < length v.market.groups → placed v.lines g < 2 ^ 32
placed_fits v g is lt =
    let fits : demand_of v.market g < 2 ^ 32 = (is.market.groups g _ lt).fits in
    let within : placed v.lines g ≤ demand_of v.market g = is.good.feasible.demands g lt in
    omega arith
