-- The state of a good map.
use Rattle.std.proofs.Common.{◌≡◌, ℕ, ◌+◌, ◌<◌, ◌≤◌, ◌^◌, ◌==◌, true, false, ◌&&◌, nat_lt, nat_le, if◌then◌else◌, List, [], ◌∷◌, None, Some, length, take, slice_index, get_or, refl, sym, ap, ◌∙◌, subst, inl, inr, arith}
use Rattle.std.proofs.lemmas.Bool.{and_parts, cases_lt, lt-ltb}
use Rattle.std.proofs.lemmas.Bool.Decides.{nat_tests}
use Rattle.std.proofs.lemmas.List.Sums.{sum_by-cons, sum_by_more, sum_by_more_le, sum_by-take-le}
use Rattle.std.proofs.lemmas.List.{get_or_append_left, get_or_push}
use Rattle.map_model.specs.declared.lines.MapLine.{MapLine}
use Rattle.map_model.specs.declared.lines.NameLine.{NameLine}
use Rattle.map_model.specs.Market.{Market, IsMarket, capacity_of, choices_of, demand_of}
use Rattle.map_model.specs.Allocation.{IsFeasible, IsGood, IsOffer, amount_at, counts_at, placed_through, is_wanted, placed}
use Rattle.map_model.specs.Holding.{Puts}
use Rattle.map_model.proofs.Shapes.{shape_itself}
use Rattle.map_model.proofs.Units.{placed_below, placed_through-split, units_of-le}
use Rattle.offer_pool.specs.Holdings.{Holdings}
use Rattle.capacity_tree.specs.Loads.{AddsUnits, AreTreesOf, Loads}
use Rattle.evict.specs.Putting.{AgreesWith, IsSound}
use Rattle.evict.specs.Standing.{IsOfMap, IsPastWanted}
use Rattle.evict.proofs.Settled.{small_demand}
use Rattle.evict.proofs.Placing.{agrees-put}
use Rattle.map_model.specs.Market.{pool_of}
use Rattle.map_model.specs.Progress.{root_of}
use Rattle.map_model.proofs.Markets.{climb-same}
use Rattle.std.proofs.lemmas.Bool.{cases_eq, eq-eqb, ne_eqb}
use Rattle.std.proofs.Common.{slice_set, ◌-◌, ◌++◌, get_or-set_same, get_or-set_other}

-- one line more
pub line_more : (lines : List MapLine) (i : ℕ) (d : MapLine) → i < length lines → Puts (take i lines) (take (i + 1) lines) (get_or lines i d).group.0 (get_or lines i d).place (get_or lines i d).amount
line_more lines i d l = λ test. sum_by_more (λ (x : MapLine). if test x.group.0 x.place then x.amount else 0) lines i d l

-- nothing is at places below the first
pub below_none : (lines : List MapLine) (g : ℕ) → placed_below lines g 0 ≡ 0
below_none [] g = refl
below_none (l ∷ ls) g =
    let f : MapLine → ℕ = λ x. if (x.group.0 == g) && nat_lt x.place 0 then x.amount else 0 in
    let none : f l ≡ 0 = grind (arith, nat_tests) in
    omega (arith, sum_by-cons f l ls, none, below_none ls g)

-- what a group has up to one place and at a later one is among all that it has
pub placed_through-and-later : (lines : List MapLine) (g p k : ℕ) → p < k → placed_through lines g p + amount_at lines g k ≤ placed lines g
placed_through-and-later lines g p k later =
    omega (
      arith,
      placed_through-split lines g k,
      units_of-le (λ h j. (h == g) && nat_le j p) (λ h j. (h == g) && nat_lt j k) (λ h j t. grind (arith, nat_tests, t, later)) lines,
      units_of-le (λ h j. (h == g) && nat_le j k) (λ h _. h == g) (λ h j t. (and_parts (h == g) (nat_le j k) t).0) lines,
    )

-- a place up to which all that a group asks for is held is not wanted, nor is a later one
placed_through-rises : (lines : List MapLine) (g p k : ℕ) → p ≤ k → placed_through lines g p ≤ placed_through lines g k
placed_through-rises lines g p k later = units_of-le (λ h j. (h == g) && nat_le j p) (λ h j. (h == g) && nat_le j k) (λ h j t. grind (arith, nat_tests, t, later)) lines

-- the wanted places are those before the first that is not
pub past_wanted : (m : Market) (lines : List MapLine) (g p : ℕ) → p ≤ length (choices_of m g) → ((j : ℕ) → j < p → is_wanted m lines g j ≡ true) → (p < length (choices_of m g) → demand_of m g ≤ placed_through lines g p) → IsPastWanted m lines g p
past_wanted m lines g p in_list before at = record {
  in_list = in_list;
  wanted = λ k o. elim (cases_lt k p) [
    | inl l ↦ before k l ∙ sym (lt-ltb k p l)
    | inr past ↦ let held = at (omega (arith, o.place)) in let more = placed_through-rises lines g p k past in grind (arith, nat_tests, held, more, past)
  ];
}

-- the state of a good map is resumable
pub of_good : (m : Market) → IsMarket m → (lines : List MapLine) (names : List NameLine) → IsGood m lines names → (pointers free : List ℕ) → length pointers ≡ length m.groups → length free ≡ length m.groups
    → ((g : ℕ) → g < length m.groups → IsPastWanted m lines g (slice_index pointers g)) → ((g : ℕ) → g < length m.groups → placed lines g + slice_index free g ≡ demand_of m g) → IsOfMap m lines (record { market = m; lines = lines; pointers = pointers; free = free; is_whole = true })
of_good m market lines names good pointers free pcount fcount past sums = record {
  ready = record {
    market = market;
    whole = refl;
    shape = shape_itself m;
    resumable = record {
      form = good.form;
      pointers_for = pcount;
      free_for = fcount;
      capacities = good.feasible.capacities;
      limits = good.feasible.limits;
      totals = sums;
      in_list = λ g l. (past g l).in_list;
      none_past = λ g k o later. none g k o later;
      refused = λ g k o before. good.stable g k o ((past g o.group).wanted k o ∙ lt-ltb k (slice_index pointers g) before);
    };
  };
  market = refl;
  lines = refl;
  pointers = past;
}
  where
    none : (g k : ℕ) → IsOffer m g k → slice_index pointers g < k → amount_at lines g k ≡ 0
    none g k o later =
        let p : ℕ = slice_index pointers g in
        let op : IsOffer m g p = record { group = o.group; place = omega (arith, o.place) } in
        let unwanted : is_wanted m lines g p ≡ nat_lt p p = (past g o.group).wanted p op in
        let held : demand_of m g ≤ placed_through lines g p = grind (arith, nat_tests, unwanted) in
        omega (arith, held, placed_through-and-later lines g p k later, good.feasible.demands g o.group)

-- and it is a whole one
pub sound_of : (m : Market) (held : Holdings) (tree : Loads) (lines : List MapLine) (free totals : List ℕ) → IsMarket m → held ≡ record { market = m; lines = lines } → AgreesWith m lines tree → length free ≡ length m.groups
    → ((g : ℕ) → g < length m.groups → placed lines g + slice_index free g ≡ demand_of m g) → length totals ≡ length m.groups → ((g : ℕ) → g < length m.groups → slice_index totals g ≡ demand_of m g) → IsSound held tree free totals
sound_of m held tree lines free totals market is agrees count sums count' each =
    let start : IsSound (record { market = m; lines = lines }) tree free totals = record {
      market = market;
      agrees = agrees;
      groups = sym count;
      count = count' ∙ sym count;
      sums = λ g l. omega (arith, sums g (omega (arith, count)), each g (omega (arith, count)));
      small = λ g l. omega (arith, each g (omega (arith, count)), small_demand m market g (omega (arith, count)));
    } in
    subst (λ (x : Holdings). IsSound x tree free totals) (sym is) start

-- the root of a node, in trees that are an instance's
pub root-trees : (m trees : Market) → AreTreesOf m trees → (n : ℕ) → root_of trees n ≡ root_of m n
root-trees m trees are n = ap (λ (xs : List ℕ). slice_index xs (length xs - 1)) (climb-same m trees are.parents 8 (Some (record { 0 = n })))

-- the amount of a line is within what its group still has
pub line_fits : (m : Market) (lines : List MapLine) (i : ℕ) (d : MapLine) → IsFeasible m lines → i < length lines → (get_or lines i d).group.0 < length m.groups → placed (take i lines) (get_or lines i d).group.0 + (get_or lines i d).amount ≤ demand_of m (get_or lines i d).group.0
line_fits m lines i d feasible l there =
    let x : MapLine = get_or lines i d in
    let all : (if x.group.0 == x.group.0 then x.amount else 0) ≡ x.amount = rw (eq-eqb x.group.0 x.group.0 refl) refl in
    omega (arith, sum_by_more_le (λ (y : MapLine). if y.group.0 == x.group.0 then y.amount else 0) lines i d l, all, feasible.demands x.group.0 there)

-- one line more is loaded
pub loaded_more : (m : Market) (lines : List MapLine) (i : ℕ) (d : MapLine) → i < length lines → (tree tree' : Loads) (pool units : ℕ) → AgreesWith m (take i lines) tree → pool ≡ pool_of m (get_or lines i d).group.0 (get_or lines i d).place → units ≡ (get_or lines i d).amount
    → AddsUnits tree tree' pool units → AgreesWith m (take (i + 1) lines) tree'
loaded_more m lines i d l tree tree' pool units agrees at is added =
    let x : MapLine = get_or lines i d in
    agrees-put m (take i lines) (take (i + 1) lines) tree tree' x.group.0 x.place x.amount agrees (line_more lines i d l) (subst (λ p. AddsUnits tree tree' p x.amount) at (subst (λ u. AddsUnits tree tree' pool u) is added))

-- and there is room for it
pub loaded_room : (m : Market) → IsMarket m → (lines : List MapLine) (i : ℕ) → IsFeasible m lines → (tree : Loads) → AgreesWith m (take i lines) tree → (n units : ℕ) → n < length tree.trees.nodes → units < 2 ^ 32 → slice_index tree.units n + units < 2 ^ 64
loaded_room m market lines i feasible tree agrees n units there small =
    let l : n < length m.nodes = omega (arith, agrees.trees.nodes) in
    let capacity : capacity_of m n ≤ 2 ^ 48 = market.capacities n (record { capacity = 0; parent = None; is_pool = false }) l in
    omega (arith, agrees.loads n l, sum_by-take-le (λ (y : MapLine). if counts_at m n y.group.0 y.place then y.amount else 0) lines i, feasible.capacities n l)

-- and is no longer free
pub free_more : (m : Market) (lines : List MapLine) (i : ℕ) (d : MapLine) → i < length lines → (free : List ℕ) (now : ℕ) → length free ≡ length m.groups → (get_or lines i d).group.0 < length m.groups
    → ((g : ℕ) → g < length m.groups → placed (take i lines) g + slice_index free g ≡ demand_of m g) → now + (get_or lines i d).amount ≡ slice_index free (get_or lines i d).group.0
    → (g : ℕ) → g < length m.groups → placed (take (i + 1) lines) g + slice_index (slice_set free (get_or lines i d).group.0 now) g ≡ demand_of m g
free_more m lines i d l free now count there sums is g lg =
    let x : MapLine = get_or lines i d in
    let more : placed (take (i + 1) lines) g ≡ placed (take i lines) g + (if x.group.0 == g then x.amount else 0) = line_more lines i d l (λ h _. h == g) in
    elim (cases_eq x.group.0 g) [
      | inl e ↦
          let one : (if x.group.0 == g then x.amount else 0) ≡ x.amount = rw (eq-eqb x.group.0 g e) refl in
          let at : slice_index (slice_set free x.group.0 now) g ≡ now = ap (slice_index (slice_set free x.group.0 now)) (sym e) ∙ get_or-set_same free x.group.0 now 0 (omega (arith, count, there)) in
          let was : slice_index free x.group.0 ≡ slice_index free g = ap (slice_index free) e in
          omega (arith, sums g lg)
      | inr ne ↦
          let none : (if x.group.0 == g then x.amount else 0) ≡ 0 = rw (ne_eqb x.group.0 g ne) refl in
          let at : slice_index (slice_set free x.group.0 now) g ≡ slice_index free g = get_or-set_other free x.group.0 g now 0 (λ e. ne (sym e)) in
          omega (arith, sums g lg)
    ]

-- what holds of each number of a list holds with one more
pub each_push : (P : ℕ → ℕ → Type 0) (xs : List ℕ) (y i : ℕ) → length xs ≡ i → ((k : ℕ) → k < i → P k (slice_index xs k)) → P i y → (k : ℕ) → k < i + 1 → P k (slice_index (xs ++ y ∷ []) k)
each_push P xs y i count before here k l = elim (cases_lt k i) [
  | inl low ↦ subst (λ z. P k z) (sym (get_or_append_left xs (y ∷ []) 0 k (omega (arith, count)))) (before k low)
  | inr high ↦ let e : k ≡ i = omega arith in subst (λ j. P j (slice_index (xs ++ y ∷ []) j)) (sym e) (subst (λ z. P i z) (sym (get_or_push xs y 0 i count)) here)
]
