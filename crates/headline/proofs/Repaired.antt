-- The repaired map of the program is that of the page, which is said of maps alone.
use Rattle.std.proofs.Common.{◌≡◌, inl, inr, ℕ, ◌-◌, ◌<◌, ◌≤◌, ◌==◌, ◌&&◌, nat_lt, nat_le, Bool, true, false, List, length, map, slice_index, slice_index_or, refl, ap, ap₂, sym, subst, ◌∙◌, arith}
use Rattle.std.proofs.lemmas.Bool.{cases_Bool, cases_eq, cases_lt, and_parts, and_from, eqb-true, eq-eqb, ltb-true, lt-ltb, le-leb, false≢true}
use Rattle.map_model.specs.declared.lines.MapLine.{MapLine}
use Rattle.map_model.specs.Market.{Market, IsSameShape, capacity_of, choice_at, demand_of, group_at, node_at, pool_of}
use Rattle.map_model.specs.Allocation.{AreLines, IsOffer, amount_at, is_wanted, load, units_of}
use Rattle.map_model.specs.Allocation as code
use Rattle.map_model.specs.Progress as progress
use Rattle.map_model.specs.Progress.{root_of, tree_of}
use Rattle.map_model.proofs.Shapes.{IsOffer-shape, root_of-shape, shape_sym, tree_of-shape}
use Rattle.evict.specs.Standing.{Standing}
use Rattle.evict.proofs.Shaped.{load-shape, units_of-same}
use Rattle.best_laws.specs.Ahead.{IsRightMap}
use Rattle.best_laws.specs.Ahead as state
use Rattle.reopen.specs.Cutting.{IsFitting}
use Rattle.reopen.specs.Rolling.{is_marked}
use Rattle.map_repair.specs.Determined.{IsRepairedOf}
use Rattle.map_repair.specs.Repaired as repair
use Rattle.headline.specs.Headline.{AreClosed, Has, HoldsIn, IsBestOf, IsLeft, IsReached, IsRepaired, IsSpread, IsWithin, WantsIn, tree}
use Rattle.headline.specs.View.{Choice, Line, choice, group, instance, line, node}
use Rattle.headline.proofs.Lists.{In, contains_from, from_map, in_from, in_map}
use Rattle.headline.proofs.Trees.{IsForest}
use Rattle.headline.proofs.Good.{amount_is, at_least, demand_is, group_has, has_of, node_has, node_of_page, offer_of, path_is, pool_there, some_line, some_units_in, wanted_from, wants_from}
use Rattle.headline.proofs.Best.{best_of}

-- TREES

tree_is : (m : Market) → IsForest m → (n : ℕ) → n < length m.nodes → tree (instance m) n ≡ root_of m n
tree_is m ok n l = ap (λ (ns : List ℕ). slice_index_or ns (length ns - 1) 0) (path_is m ok n l)

pool_tree : (m : Market) → IsForest m → (g k : ℕ) (c : Choice) → IsOffer m g k → choice (choice_at m g k) ≡ c → tree (instance m) c.pool ≡ tree_of m g k
pool_tree m ok g k c o is = subst (λ (x : Choice). tree (instance m) x.pool ≡ tree_of m g k) is (tree_is m ok (pool_of m g k) (pool_there m ok g k o))

-- WHO HOLDS AND WHO WANTS WHAT

module _ (m : Market) (ok : IsForest m) (xs : List MapLine) (form : AreLines m xs) where
  holds_from : (g root : ℕ) → HoldsIn (instance m) (map line xs) g root → progress.HoldsIn m xs g root
  holds_from g root (l, c, on, of, has, at) = by (from_map line xs l (in_from (map line xs) l on))
    where
      by : (x : MapLine) × In xs x × (line x ≡ l) → progress.HoldsIn m xs g root
      by (x, i, e) =
          let r = offer_of m g l.place c has in
          let of' : x.group.0 ≡ g = ap (λ (v : Line). v.group) e ∙ of in
          let place : x.place ≡ l.place = ap (λ (v : Line). v.place) e in
          let test : ((x.group.0 == g) && (x.place == l.place)) ≡ true = and_from _ _ (eq-eqb _ _ of') (eq-eqb _ _ place) in
          (l.place, r.0, sym (pool_tree m ok g l.place c r.0 r.1) ∙ at, let a = at_least (λ h j. (h == g) && (j == l.place)) xs x i test in let b = some_units_in m xs form x i in omega (arith, a, b))

  holds_to : (g root : ℕ) → progress.HoldsIn m xs g root → HoldsIn (instance m) (map line xs) g root
  holds_to g root (k, o, at, some) = by (some_line (λ h j. (h == g) && (j == k)) xs some)
    where
      by : (x : MapLine) × In xs x × (((x.group.0 == g) && (x.place == k)) ≡ true) × (0 < x.amount) → HoldsIn (instance m) (map line xs) g root
      by (x, i, test, units) =
          let p = and_parts (x.group.0 == g) (x.place == k) test in
          let place : x.place ≡ k = eqb-true _ _ p.1 in
          (line x, choice (choice_at m g k), contains_from (map line xs) (line x) (in_map line xs x i), eqb-true _ _ p.0, subst (λ j. Has (instance m) g j (choice (choice_at m g k))) (sym place) (has_of m g k o), pool_tree m ok g k (choice (choice_at m g k)) o refl ∙ at)

  wants_in_to : (g root : ℕ) → progress.WantsIn m xs g root → WantsIn (instance m) (map line xs) g root
  wants_in_to g root (k, o, at, wanted) = (k, choice (choice_at m g k), has_of m g k o, pool_tree m ok g k (choice (choice_at m g k)) o refl ∙ at, wants_from m xs g k o.group wanted)

  wants_in_from : ((g : ℕ) → g < length m.groups → code.placed xs g ≤ demand_of m g) → (g root : ℕ) → WantsIn (instance m) (map line xs) g root → progress.WantsIn m xs g root
  wants_in_from fits g root (k, c, has, at, wants) =
      let r = offer_of m g k c has in
      (k, r.0, sym (pool_tree m ok g k c r.0 r.1) ∙ at, wanted_from m xs g k (fits g r.0.group) wants)

-- REACHED AND SPREAD TREES

module _ (m m' : Market) (ok : IsForest m) (shape : IsSameShape m m') (xs : List MapLine) (form : AreLines m xs) (fits : (g : ℕ) → g < length m.groups → code.placed xs g ≤ demand_of m g) where
  group_there : (g : ℕ) → g < length m.groups → g < length m'.groups
  group_there g l = let e = shape.groups in omega (arith, l, e)

  node_there : (n : ℕ) → n < length m.nodes → n < length m'.nodes
  node_there n l = let e = shape.nodes in omega (arith, l, e)

  closed_to : (trees : ℕ → Bool) → progress.IsClosedUnderRepair m xs m' trees → AreClosed (instance m) (instance m') (map line xs) trees
  closed_to trees c = record {
    capacity = λ n x y old new differ.
        let a = node_of_page m n x old in
        let b = node_of_page m' n y new in
        ap trees (tree_is m ok n a.0) ∙ c.capacity n a.0 (λ e. differ (b.1 ∙ e ∙ sym a.1));
    lowered = λ g root x y old new less holds.
        let a = demand_is m g x old in
        let b = demand_is m' g y new in
        c.lowered g root a.0 (omega (arith, less, a.1, b.1)) (holds_from m ok xs form g root holds);
    wanting = λ g from to on wants holds.
        let w = wants_in_from m ok xs form fits g from wants in
        c.wanting g from to w.1.group on w (holds_from m ok xs form g to holds);
  }

  closed_from : (trees : ℕ → Bool) → AreClosed (instance m) (instance m') (map line xs) trees → progress.IsClosedUnderRepair m xs m' trees
  closed_from trees c = record {
    capacity = λ n l differ. ap trees (sym (tree_is m ok n l)) ∙ c.capacity n (node (node_at m n)) (node (node_at m' n)) (node_has m n l) (node_has m' n (node_there n l)) differ;
    lowered = λ g root l less holds. c.lowered g root (group (group_at m g)) (group (group_at m' g)) (group_has m g l) (group_has m' g (group_there g l)) less (holds_to m ok xs form g root holds);
    wanting = λ g from to l on wants holds. c.wanting g from to on (wants_in_to m ok xs form g from wants) (holds_to m ok xs form g to holds);
  }

  reached_to : (root : ℕ) → progress.IsReached m xs m' root → IsReached (instance m) (instance m') (map line xs) root
  reached_to root r trees c = r trees (closed_from trees c)

  reached_from : (root : ℕ) → IsReached (instance m) (instance m') (map line xs) root → progress.IsReached m xs m' root
  reached_from root r trees c = r trees (closed_to trees c)

  spread_from : (root : ℕ) → progress.IsSpread m xs m' root → IsSpread (instance m) (instance m') (map line xs) root
  spread_from root s trees c = s trees (record {
    reached = λ r reached. c.reached r (reached_to r reached);
    raised = λ g k o less.
        ap trees (sym (pool_tree m ok g k (choice (choice_at m g k)) o refl))
        ∙ c.raised g k (choice (choice_at m g k)) (group (group_at m g)) (group (group_at m' g)) (group_has m g o.group) (group_has m' g (group_there g o.group)) less (has_of m g k o);
    lists = λ g k j o p on.
        ap trees (sym (pool_tree m ok g j (choice (choice_at m g j)) p refl))
        ∙ c.lists g k j (choice (choice_at m g k)) (choice (choice_at m g j)) (has_of m g k o) (has_of m g j p) (ap trees (pool_tree m ok g k (choice (choice_at m g k)) o refl) ∙ on);
  })

  -- WHAT A GROUP DOES NOT GET BACK

  module _ (ys : List MapLine) (r : IsRepairedOf m xs m' ys) where
    back_shape : IsSameShape m' m
    back_shape = shape_sym m m' shape

    abbrev from : Standing
    from = r.begun.from

    abbrev marks : List Bool
    marks = r.begun.marks

    marked_is : (g k : ℕ) → is_marked m' marks g k ≡ slice_index_or marks (tree_of m g k) false
    marked_is g k = ap (λ n. slice_index_or marks n false) (tree_of-shape m m' shape g k)

    -- all places before the pointer of the rolled-back state stand in trees that are not reached
    unreached : (g k : ℕ) → g < length m'.groups → k < slice_index r.back.pointers g → progress.IsReached m xs m' (tree_of m g k) → ⊥
    unreached g k l low reached = false≢true (sym ((r.rolled_back.pointers g l).before k low) ∙ marked_is g k ∙ r.begun.all_reached (tree_of m g k) reached)

    old_pointer : (g : ℕ) → slice_index r.begun.cut.pointers g ≡ slice_index from.pointers g
    old_pointer g = ap (λ ps. slice_index ps g) r.begun.is_cut.less.pointers

    wanted_is : (g k : ℕ) → IsOffer m g k → is_wanted m xs g k ≡ nat_lt k (slice_index from.pointers g)
    wanted_is g k o = subst (λ (ls : List MapLine). is_wanted m ls g k ≡ nat_lt k (slice_index from.pointers g)) r.begun.holds ((r.begun.of_map.pointers g o.group).wanted k o)

    -- a place that is left stands before that pointer
    left_before : (g k : ℕ) → IsOffer m g k → IsLeft (instance m) (instance m') (map line xs) g k → k < slice_index r.back.pointers g
    left_before g k o left =
        let l : g < length m'.groups = group_there g o.group in
        let at = r.rolled_back.pointers g l in
        let before : k < slice_index from.pointers g = ltb-true _ _ (sym (wanted_is g k o) ∙ wanted_from m xs g k (fits g o.group) left.0) in
        let place : ℕ = slice_index r.back.pointers g in
        elim (cases_lt k place) [
          | inl low ↦ low
          | inr high ↦
              let within : place < slice_index r.begun.cut.pointers g = omega (arith, high, before, old_pointer g) in
              let on : slice_index_or marks (tree_of m g place) false ≡ true = sym (marked_is g place) ∙ at.at within in
              let p : IsOffer m g place = record { group = o.group; place = let k_in = o.place in omega (arith, high, k_in) } in
              absurd (left.1 place (choice (choice_at m g place)) high (has_of m g place p)
              (subst (IsReached (instance m) (instance m') (map line xs)) (sym (pool_tree m ok g place (choice (choice_at m g place)) p refl)) (reached_to (tree_of m g place) (r.begun.reached (tree_of m g place) on))))
        ]

    -- and the other way round
    before_left : (g k : ℕ) → IsOffer m g k → k < slice_index r.back.pointers g → IsLeft (instance m) (instance m') (map line xs) g k
    before_left g k o low =
        let l : g < length m'.groups = group_there g o.group in
        let at = r.rolled_back.pointers g l in
        let within = at.within in (
          wants_from m xs g k o.group (wanted_is g k o ∙ lt-ltb k (slice_index from.pointers g) (omega (arith, low, within, old_pointer g))),
          λ j c le has reached.
              let p = offer_of m g j c has in
              unreached g j l (omega (arith, le, low)) (reached_from (tree_of m g j) (subst (IsReached (instance m) (instance m') (map line xs)) (pool_tree m ok g j c p.0 p.1) reached)),
        )

    -- in a tree that is not reached no unit has to go
    fitting : (root : ℕ) → (progress.IsReached m xs m' root → ⊥) → IsFitting m' from.lines root
    fitting root not_reached = subst (λ (ls : List MapLine). IsFitting m' ls root) (sym r.begun.holds) (record {
      capacities = λ n l e.
          let there : n < length m.nodes = let s = shape.nodes in omega (arith, l, s) in
          let at : root_of m n ≡ root = sym (root_of-shape m m' shape n) ∙ e in
          let held : load m xs n ≤ capacity_of m n = was n there in
          elim (cases_eq (capacity_of m' n) (capacity_of m n)) [
            | inl same ↦ omega (arith, load-shape m m' shape xs n, held, same)
            | inr differ ↦ absurd (not_reached (λ trees c. ap trees (sym at) ∙ c.capacity n there differ))
          ];
      demands = λ g h.
          let o : IsOffer m g h.0 = IsOffer-shape m' m back_shape g h.0 h.1 in
          elim (cases_lt (demand_of m' g) (demand_of m g)) [
            | inl less ↦ absurd (not_reached (λ trees c. c.lowered g root o.group less (h.0, o, sym (tree_of-shape m m' shape g h.0) ∙ h.2, h.3)))
            | inr more ↦ let f = fits g o.group in omega (arith, f, more)
          ];
    })
      where
        was : (n : ℕ) → n < length m.nodes → load m xs n ≤ capacity_of m n
        was n l = subst (λ (ls : List MapLine). load m ls n ≤ capacity_of m n) r.begun.holds (r.begun.of_map.ready.resumable.capacities n l)

    -- before the pointer of the rolled-back state each group holds what it held
    held_before : (g k : ℕ) → IsOffer m g k → k < slice_index r.back.pointers g → amount_at r.back.lines g k ≡ amount_at xs g k
    held_before g k o low =
        r.rolled_back.units (λ h j. (h == g) && (j == k))
        ∙ units_of-same (λ h j. ((h == g) && (j == k)) && nat_le j (slice_index r.back.pointers h)) (λ h j. (h == g) && (j == k)) same r.begun.cut.lines
        ∙ r.begun.is_cut.less.still (λ h j. (h == g) && (j == k)) fits_there
        ∙ ap (λ (ls : List MapLine). amount_at ls g k) r.begun.holds
      where
        same : (h j : ℕ) → (((h == g) && (j == k)) && nat_le j (slice_index r.back.pointers h)) ≡ ((h == g) && (j == k))
        same h j = elim (cases_Bool ((h == g) && (j == k))) [
          | inr n ↦ rw n refl
          | inl y ↦
              let p = and_parts (h == g) (j == k) y in
              let at : slice_index r.back.pointers h ≡ slice_index r.back.pointers g = ap (slice_index r.back.pointers) (eqb-true h g p.0) in
              let le : nat_le j (slice_index r.back.pointers h) ≡ true = le-leb j (slice_index r.back.pointers h) (omega (arith, at, eqb-true j k p.1, low)) in
              rw (y, le) refl
        ]

        fits_there : (h j : ℕ) → IsOffer m' h j → ((h == g) && (j == k)) ≡ true → IsFitting m' from.lines (tree_of m' h j)
        fits_there h j oh t =
            let p = and_parts (h == g) (j == k) t in
            let root : tree_of m' h j ≡ tree_of m g k = tree_of-shape m m' shape h j ∙ ap₂ (tree_of m) (eqb-true h g p.0) (eqb-true j k p.1) in
            subst (IsFitting m' from.lines) (sym root) (fitting (tree_of m g k) (unreached g k (group_there g o.group) low))

    to_new : (g k : ℕ) → IsOffer m g k → IsOffer m' g k
    to_new g k o = IsOffer-shape m m' shape g k o

    pub repaired_best : IsForest m' → IsBestOf (instance m') (IsWithin (instance m) (instance m') (map line xs)) (map line ys)
    repaired_best ok' = best_of m' ok' (λ zs. state.IsWithin m' zs r.back.lines r.back.pointers) (IsWithin (instance m) (instance m') (map line xs)) ys within among r.best.best
      where
        within : IsWithin (instance m) (instance m') (map line xs) (map line ys)
        within g k c has left =
            let o = (offer_of m g k c has).0 in
            let low = left_before g k o left in
            let b = r.best.below g k (to_new g k o) low in
            omega (arith, b, amount_is ys g k, amount_is xs g k, held_before g k o low)

        among : (zs : List MapLine) → IsRightMap m' zs → IsWithin (instance m) (instance m') (map line xs) (map line zs) → state.IsWithin m' zs r.back.lines r.back.pointers
        among zs right w g k o' low =
            let o : IsOffer m g k = IsOffer-shape m' m back_shape g k o' in
            let a = w g k (choice (choice_at m g k)) (has_of m g k o) (before_left g k o low) in
            omega (arith, a, amount_is zs g k, amount_is xs g k, held_before g k o low)

  pub repaired_is : IsForest m' → (ys : List MapLine) → IsRepairedOf m xs m' ys → repair.IsLocal m xs m' ys → IsRepaired (instance m) (instance m') (map line xs) (map line ys)
  repaired_is ok' ys r local = record {
    best = repaired_best ys r ok';
    local = λ g k c has out.
        let o = offer_of m g k c has in
        amount_is ys g k ∙ local.amounts g k o.0 (λ spread. out (subst (IsSpread (instance m) (instance m') (map line xs)) (sym (pool_tree m ok g k c o.0 o.1)) (spread_from (tree_of m g k) spread))) ∙ sym (amount_is xs g k);
  }
