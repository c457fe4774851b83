-- Between the old map and the new one.
use Rattle.std.proofs.Common.{◌≡◌, ◌≢◌, ℕ, ◌+◌, ◌-◌, ◌*◌, ◌<◌, ◌≤◌, ◌==◌, Bool, true, false, ◌&&◌, nat_lt, nat_le, if◌then◌else◌, List, [], length, get_or, slice_index, IsFalse, IsSome, Option, None, refl, sym, ap, ◌∙◌, subst, inl, inr, arith}
use Rattle.std.specs.Option.{option_map}
use Rattle.std.proofs.Math.Nat.{mul-le-mul_right}
use Rattle.std.proofs.lemmas.Bool.{and_parts, cases_Bool, cases_eq, cases_lt, eqb-true, false≢true, leb-false, leb-true, lt-ltb, ltb-true, ltb-false}
use Rattle.map_model.specs.declared.lines.By.{By}
use Rattle.map_model.specs.declared.lines.MapLine.{MapLine}
use Rattle.map_model.specs.Market.{Market, IsMarket, IsSameShape, capacity_of, choices_of, demand_of}
use Rattle.map_model.specs.Allocation.{IsOffer, amount_at, placed_through, is_wanted, name_of, placed, refuser_of, units_of}
use Rattle.map_model.specs.Progress.{HoldsIn, IsClosedUnderRepair, IsClosedUnderSpread, IsEnded, root_of, tree_of}
use Rattle.map_model.proofs.MapForm.{offers-AreLines, line-some}
use Rattle.map_model.proofs.Shapes.{IsOffer-shape, limit_of-shape, root_of-shape, shape_sym, shape_trans, tree_of-shape}
use Rattle.map_model.proofs.Units.{units_of-le, through-le-placed, units-agree, none-units}
use Rattle.evict.specs.Standing.{IsReady, Standing}
use Rattle.evict.proofs.Shaped.{load-shape}
use Rattle.reopen.specs.Cutting.{IsCut, IsFitting}
use Rattle.reopen.specs.Rolling.{CanRollBack, IsRolledBack}
use Rattle.reopen.proofs.Lessening.{placed_none}
use Rattle.reopen.proofs.Sameness.{refuser-same}
use Rattle.deferred_accept.specs.Runs.{HasRun, WantsBefore, proposals_of}
use Rattle.deferred_accept.specs.Spreading.{HoldsWork, StaysInside, is_inside}
use Rattle.deferred_accept.proofs.Past.{past_of_ended}
use Rattle.best_laws.proofs.Sums.{sum-le}
use Rattle.map_repair.specs.Marks.{AreReached, IsClosedFor, IsWithin, is_on}
use Rattle.map_repair.specs.Repaired.{IsKept, IsStateOf, most_inside}

-- the lines and names of each group outside a set of trees are the same
pub record IsLocalOutside (old : Market) (lines : List MapLine) (new : Market) (repaired : List MapLine) (trees : ℕ → Bool) : Type 0 where
  pub amounts : (g k : ℕ) → IsOffer old g k → IsFalse (trees (tree_of old g k)) → amount_at repaired g k ≡ amount_at lines g k
  pub names : (g k : ℕ) → IsOffer old g k → IsFalse (trees (tree_of old g k)) → name_of new repaired (record { group = record { 0 = g }; place = k }) ≡ name_of old lines (record { group = record { 0 = g }; place = k })

leb-from : (a b : ℕ) → a ≤ b → nat_le a b ≡ true
leb-from a b le = elim (cases_Bool (nat_le a b)) [ inl y ↦ y | inr n ↦ absurd (omega (arith, leb-false a b n, le)) ]

ltb-itself : (p : ℕ) → nat_lt p p ≡ false
ltb-itself p = elim (cases_Bool (nat_lt p p)) [ inr n ↦ n | inl y ↦ absurd (omega (arith, ltb-true p p y)) ]

-- the marks that are made stand at exactly the reached trees
pub are_reached : (old new : Market) (s : Standing) (a b c : List Bool) → IsStateOf old s → length c ≡ length old.nodes
    → ((n : ℕ) → n < length old.nodes → capacity_of new n ≢ capacity_of old n → is_on a (root_of old n) ≡ true)
    → ((trees : ℕ → Bool) → IsClosedUnderRepair old s.lines new trees → IsWithin a trees)
    → ((n : ℕ) → is_on a n ≡ true → is_on b n ≡ true)
    → ((g root : ℕ) → g < length old.groups → demand_of new g < demand_of old g → HoldsIn old s.lines g root → is_on b root ≡ true)
    → ((trees : ℕ → Bool) → IsClosedUnderRepair old s.lines new trees → IsWithin a trees → IsWithin b trees)
    → ((n : ℕ) → is_on b n ≡ true → is_on c n ≡ true)
    → ((g : ℕ) → g < length old.groups → IsClosedFor old s g (λ n. is_on c n))
    → ((trees : ℕ → Bool) → ((g : ℕ) → g < length old.groups → IsClosedFor old s g trees) → IsWithin b trees → IsWithin c trees)
    → AreReached old s.lines new c
are_reached old new s a b c of size all1 within1 kept2 all2 within2 kept3 closed3 within3 = record {
  size = size;
  closed = record {
    capacity = λ n l ne. kept3 (root_of old n) (kept2 (root_of old n) (all1 n l ne));
    lowered = λ g root l less holds. kept3 root (all2 g root l less holds);
    wanting = λ g from to l on wants holds.
        let before : wants.0 < slice_index s.pointers g = ltb-true wants.0 (slice_index s.pointers g) (sym ((of.pointers g l).wanted wants.0 wants.1) ∙ wants.3) in
        ap (is_on c) (sym holds.2) ∙ closed3 g l wants.0 holds.0 wants.1 before (ap (is_on c) wants.2 ∙ on) holds.1 holds.3;
  };
  least = λ n on trees closed. within3 trees (λ g l k j o before t oj some. closed.wanting g (tree_of old g k) (tree_of old g j) l t (k, o, refl, (of.pointers g l).wanted k o ∙ lt-ltb k (slice_index s.pointers g) before) (j, oj, refl, some)) (within2 trees closed (within1 trees closed)) n on;
}

-- what is known once the trees are marked and the state of the old map is cut for the new instance
pub record IsMiddle (old new : Market) (s mid : Standing) (marks : List Bool) : Type 0 where
  pub market : IsMarket new
  pub shape : IsSameShape old new
  pub of : IsStateOf old s
  pub reached : AreReached old s.lines new marks
  pub cut : IsCut new s mid

-- A state was opened in marked trees alone: it is resumable, and each place before a pointer is wanted. In all other trees offers hold what they held, and a group with no place in a marked tree before its pointer keeps that.
pub record IsReopened (m : Market) (marks : List Bool) (from to : Standing) : Type 0 where
  pub ready : IsReady m to
  pub wanted : WantsBefore m to
  pub units : (test : ℕ → ℕ → Bool) → ((g k : ℕ) → IsOffer m g k → test g k ≡ true → is_on marks (tree_of m g k) ≡ false) → units_of test to.lines ≡ units_of test from.lines
  pub pointers : (g : ℕ) → g < length m.groups → ((k : ℕ) → k < slice_index from.pointers g → is_on marks (tree_of m g k) ≡ false) → slice_index to.pointers g ≡ slice_index from.pointers g

module _ (old new : Market) (s mid : Standing) (marks : List Bool) (k0 : IsMiddle old new s mid marks) where
  back : IsSameShape new old
  back = shape_sym old new k0.shape

  to_old : (g k : ℕ) → IsOffer new g k → IsOffer old g k
  to_old g k o = IsOffer-shape new old back g k o

  to_new : (g k : ℕ) → IsOffer old g k → IsOffer new g k
  to_new g k o = IsOffer-shape old new k0.shape g k o

  same_tree : (g k : ℕ) → tree_of new g k ≡ tree_of old g k
  same_tree g k = tree_of-shape old new k0.shape g k

  -- in a tree that is not marked no capacity changed
  capacity_same : (n : ℕ) → n < length old.nodes → is_on marks (root_of old n) ≡ false → capacity_of new n ≡ capacity_of old n
  capacity_same n l off = elim (cases_eq (capacity_of new n) (capacity_of old n)) [ inl e ↦ e | inr ne ↦ absurd (false≢true (sym off ∙ k0.reached.closed.capacity n l ne)) ]

  -- nor does any unit have to go
  fitting : (root : ℕ) → is_on marks root ≡ false → IsFitting new s.lines root
  fitting root off = record {
    capacities = λ n l e.
        let there : n < length old.nodes = omega (arith, l, k0.shape.nodes) in
        let at : root_of old n ≡ root = sym (root_of-shape old new k0.shape n) ∙ e in
        let same = capacity_same n there (ap (is_on marks) at ∙ off) in
        omega (arith, load-shape old new k0.shape s.lines n, k0.of.ready.resumable.capacities n there, same);
    demands = λ g h.
        let o : IsOffer old g h.0 = to_old g h.0 h.1 in
        elim (cases_lt (demand_of new g) (demand_of old g)) [
          | inl less ↦ absurd (false≢true (sym off ∙ k0.reached.closed.lowered g root o.group less (h.0, o, sym (same_tree g h.0) ∙ h.2, h.3)))
          | inr more ↦ omega (arith, k0.of.ready.resumable.totals g o.group, more)
        ];
  }

  -- so the offers there hold what they held
  still : (test : ℕ → ℕ → Bool) → ((g k : ℕ) → IsOffer old g k → test g k ≡ true → is_on marks (tree_of old g k) ≡ false) → units_of test mid.lines ≡ units_of test s.lines
  still test off = k0.cut.less.still test (λ g k o t. fitting (tree_of new g k) (ap (is_on marks) (same_tree g k) ∙ off g k (to_old g k o) t))

  pointer_same : (g : ℕ) → slice_index mid.pointers g ≡ slice_index s.pointers g
  pointer_same g = ap (λ xs. slice_index xs g) k0.cut.less.pointers

  wanted_before : (g k : ℕ) → IsOffer old g k → k < slice_index s.pointers g → is_wanted old s.lines g k ≡ true
  wanted_before g k o before = (k0.of.pointers g o.group).wanted k o ∙ lt-ltb k (slice_index s.pointers g) before

  -- The state may be rolled back.
  pub can_roll_back : CanRollBack new marks mid
  can_roll_back =
      let r = k0.of.ready.resumable in
      record {
        is_open = record {
          market = k0.market;
          whole = k0.cut.less.whole;
          shape = subst (λ (x : Market). IsSameShape x new) (sym k0.cut.less.market) (shape_trans s.market old new k0.of.ready.shape k0.shape);
          form = k0.cut.less.form;
          pointers_for = ap length k0.cut.less.pointers ∙ r.pointers_for ∙ sym k0.shape.groups;
          free_for = k0.cut.less.count ∙ r.free_for ∙ sym k0.shape.groups;
          capacities = k0.cut.capacities;
          limits = λ g k o.
              let was = r.limits g k (to_old g k o) in
              omega (arith, k0.cut.less.fewer (λ h j. (h == g) && (j == k)), was, limit_of-shape old new k0.shape g k);
          totals = k0.cut.totals;
          in_list = λ g l. omega (arith, pointer_same g, r.in_list g (omega (arith, l, k0.shape.groups)), ap length (k0.shape.lists g));
          none_past = λ g k o past. omega (arith, k0.cut.less.fewer (λ h j. (h == g) && (j == k)), r.none_past g k (to_old g k o) (omega (arith, past, pointer_same g)));
        };
        marks_for = k0.reached.size ∙ sym k0.shape.nodes;
        refused = λ g k o before off.
            let was : IsSome (refuser_of old s.lines g k) = r.refused g k (to_old g k o) (omega (arith, before, pointer_same g)) in
            let clear : is_on marks (tree_of old g k) ≡ false = ap (is_on marks) (sym (same_tree g k)) ∙ off in
            let keeps = refuser-same old new k0.shape k0.of.ready.market s.lines mid.lines r.form k0.cut.less.form g k (to_old g k o) (λ n l e. capacity_same n l (ap (is_on marks) e ∙ clear)) (λ test only. still test (λ h j oh t. ap (is_on marks) (only h j oh t) ∙ clear)) in
            subst (λ x. IsSome x) (sym keeps) was;
        closed = λ g k j o before on oj some.
            let ok : IsOffer old g k = to_old g k o in
            let had : 0 < amount_at s.lines g j = omega (arith, some, k0.cut.less.fewer (λ h i. (h == g) && (i == j))) in
            ap (is_on marks) (same_tree g j)
            ∙ k0.reached.closed.wanting g (tree_of old g k) (tree_of old g j) ok.group (ap (is_on marks) (sym (same_tree g k)) ∙ on) (k, ok, refl, wanted_before g k ok (omega (arith, before, pointer_same g))) (j, to_old g j oj, refl, had);
      }

  module _ (rolled : Standing) (rb : IsRolledBack new marks mid rolled) where
    fewer : (test : ℕ → ℕ → Bool) → units_of test rolled.lines ≤ units_of test s.lines
    fewer test = omega (arith, rb.units test, units_of-le (λ g k. test g k && nat_le k (slice_index rolled.pointers g)) test (λ g k t. (and_parts (test g k) (nat_le k (slice_index rolled.pointers g)) t).0) mid.lines, k0.cut.less.fewer test)

    -- each place before a pointer is still wanted
    wants_rolled : WantsBefore new rolled
    wants_rolled g k o below =
        let ok : IsOffer old g k = to_old g k o in
        let b = rb.pointers g o.group in
        let before : k < slice_index s.pointers g = omega (arith, below, b.within, pointer_same g) in
        let had : placed_through s.lines g k < demand_of old g = ltb-true (placed_through s.lines g k) (demand_of old g) (wanted_before g k ok before) in
        let now : placed_through rolled.lines g k ≤ placed_through s.lines g k = fewer (λ h j. (h == g) && nat_le j k) in
        lt-ltb (placed_through rolled.lines g k) (demand_of new g) (elim (cases_lt (demand_of new g) (demand_of old g)) [
          | inr more ↦ omega (arith, now, had, more)
          | inl less ↦
              let asks : 1 ≤ demand_of new g = (k0.market.groups g (record { demand = 0; choices = [] }) o.group).some in
              let none : placed_through s.lines g k ≡ 0 = units-agree (λ h j. (h == g) && nat_le j k) (λ h j. false) s.lines (λ i d l. agree less (get_or s.lines i d) (offers-AreLines old s.lines k0.of.ready.resumable.form i d l) (line-some old s.lines k0.of.ready.resumable.form i d l)) ∙ none-units (λ h j. false) s.lines (λ h j. refl) in
              omega (arith, now, none, asks)
        ])
      where
        agree : demand_of new g < demand_of old g → (x : MapLine) → IsOffer old x.group.0 x.place → 0 < amount_at s.lines x.group.0 x.place → ((x.group.0 == g) && nat_le x.place k) ≡ false
        agree less x ox some = elim (cases_Bool ((x.group.0 == g) && nat_le x.place k)) [
          | inr n ↦ n
          | inl y ↦
              let p = and_parts (x.group.0 == g) (nat_le x.place k) y in
              let e : x.group.0 ≡ g = eqb-true x.group.0 g p.0 in
              let og : IsOffer old g x.place = subst (λ h. IsOffer old h x.place) e ox in
              let held : 0 < amount_at s.lines g x.place = subst (λ h. 0 < amount_at s.lines h x.place) e some in
              let off : is_on marks (tree_of new g x.place) ≡ false = (rb.pointers g o.group).before x.place (omega (arith, below, leb-true x.place k p.1)) in
              absurd (false≢true (sym off ∙ ap (is_on marks) (same_tree g x.place) ∙ k0.reached.closed.lowered g (tree_of old g x.place) og.group less (x.place, og, refl, held)))
        ]

    -- in trees that are not marked all offers hold what they held: a group that went back held units in marked trees alone
    units_off : (test : ℕ → ℕ → Bool) → ((g k : ℕ) → IsOffer new g k → test g k ≡ true → is_on marks (tree_of new g k) ≡ false) → units_of test rolled.lines ≡ units_of test mid.lines
    units_off test off =
        rb.units test
        ∙ units-agree (λ g k. test g k && nat_le k (slice_index rolled.pointers g)) test mid.lines (λ i d l. agree (get_or mid.lines i d) (offers-AreLines new mid.lines k0.cut.less.form i d l) (line-some new mid.lines k0.cut.less.form i d l))
      where
        low : (g k : ℕ) → IsOffer new g k → is_on marks (tree_of new g k) ≡ false → 0 < amount_at mid.lines g k → k ≤ slice_index rolled.pointers g
        low g k o clear some =
            let b = rb.pointers g o.group in
            let p : ℕ = slice_index rolled.pointers g in
            elim (cases_lt p (slice_index mid.pointers g)) [
              | inl less ↦
                  let op : IsOffer new g p = record { group = o.group; place = omega (arith, less, can_roll_back.is_open.in_list g o.group) } in
                  absurd (false≢true (sym clear ∙ can_roll_back.closed g p k op less (b.at less) o some))
              | inr kept ↦ elim (cases_lt (slice_index mid.pointers g) k) [
                | inr l ↦ omega (arith, l, kept)
                | inl past ↦ absurd (omega (arith, some, can_roll_back.is_open.none_past g k o past))
              ]
            ]

        agree : (x : MapLine) → IsOffer new x.group.0 x.place → 0 < amount_at mid.lines x.group.0 x.place → (test x.group.0 x.place && nat_le x.place (slice_index rolled.pointers x.group.0)) ≡ test x.group.0 x.place
        agree x o some = elim (cases_Bool (test x.group.0 x.place)) [
          | inr n ↦ rw n refl
          | inl y ↦
              let within : nat_le x.place (slice_index rolled.pointers x.group.0) ≡ true = leb-from x.place (slice_index rolled.pointers x.group.0) (low x.group.0 x.place o (off x.group.0 x.place o y) some) in
              rw (y, within) refl
        ]

    -- What is rolled back is opened in marked trees alone.
    pub reopened_back : IsReopened new marks mid rolled
    reopened_back = record {
      ready = rb.ready;
      wanted = wants_rolled;
      units = λ test off. units_off test off;
      pointers = λ g l off.
          let b = rb.pointers g l in
          elim (cases_lt (slice_index rolled.pointers g) (slice_index mid.pointers g)) [
            | inr kept ↦ omega (arith, kept, b.within)
            | inl less ↦ absurd (false≢true (sym (off (slice_index rolled.pointers g) less) ∙ b.at less))
          ];
    }

  module _ (opened : Standing) (ro : IsReopened new marks mid opened) where
    -- a group with no marked place before its pointer keeps its pointer
    stays_at : (g : ℕ) → g < length old.groups → ((k : ℕ) → IsOffer old g k → k < slice_index s.pointers g → is_on marks (tree_of old g k) ≡ true → ⊥) → slice_index opened.pointers g ≡ slice_index s.pointers g
    stays_at g l off = ro.pointers g (omega (arith, l, k0.shape.groups)) (λ k below. clear k (omega (arith, below, pointer_same g))) ∙ pointer_same g
      where
        clear : (k : ℕ) → k < slice_index s.pointers g → is_on marks (tree_of new g k) ≡ false
        clear k below = elim (cases_Bool (is_on marks (tree_of old g k))) [
          | inr n ↦ ap (is_on marks) (same_tree g k) ∙ n
          | inl y ↦ absurd (off k (record { group = l; place = omega (arith, below, k0.of.ready.resumable.in_list g l) }) below y)
        ]

    -- A group with no old wanted place in a reached tree is not moved up.
    pub kept : (final : Standing) → HasRun new opened final → IsKept old s.lines new final.lines
    kept final run g k o unreached wanted =
        let before : k < slice_index s.pointers g = ltb-true k (slice_index s.pointers g) (sym ((k0.of.pointers g o.group).wanted k o) ∙ wanted) in
        let off : (j : ℕ) → IsOffer old g j → j < slice_index s.pointers g → is_on marks (tree_of old g j) ≡ true → ⊥ = λ j oj bj on. unreached j oj (wanted_before g j oj bj) (k0.reached.least (tree_of old g j) on) in
        let at = stays_at g o.group off in
        omega (arith, run.through g k (to_new g k o) (omega (arith, before, at)), same before off, k0.cut.less.fewer (λ h j. (h == g) && nat_le j k))
      where
        same : k < slice_index s.pointers g → ((j : ℕ) → IsOffer old g j → j < slice_index s.pointers g → is_on marks (tree_of old g j) ≡ true → ⊥) → placed_through opened.lines g k ≡ placed_through mid.lines g k
        same before off = ro.units (λ h j. (h == g) && nat_le j k) (λ h j oh t.
            let p = and_parts (h == g) (nat_le j k) t in
            let e : h ≡ g = eqb-true h g p.0 in
            let oj : IsOffer old g j = subst (λ x. IsOffer old x j) e (to_old h j oh) in
            elim (cases_Bool (is_on marks (tree_of old g j))) [
              | inr n ↦ ap (λ x. is_on marks (tree_of new x j)) e ∙ ap (is_on marks) (same_tree g j) ∙ n
              | inl y ↦ absurd (off j oj (omega (arith, leb-true j k p.1, before)) y)
            ])

    -- A run that ends from there leaves a state of its own map.
    pub state_of : (final : Standing) → HasRun new opened final → IsEnded new final.pointers final.free → (WantsBefore new opened → WantsBefore new final) → IsStateOf new final
    state_of final run ended wanted = record { ready = run.ready; pointers = past_of_ended new final run.ready ended (wanted ro.wanted) }

    module _ (trees : ℕ → Bool) (spread : IsClosedUnderSpread old s.lines new trees) where
      off_marks : (root : ℕ) → trees root ≡ false → is_on marks root ≡ false
      off_marks root out = elim (cases_Bool (is_on marks root)) [ inr n ↦ n | inl y ↦ absurd (false≢true (sym out ∙ spread.reached root (k0.reached.least root y))) ]

      -- with one place of a group outside all are
      all_out : (g k j : ℕ) → IsOffer old g k → IsOffer old g j → trees (tree_of old g k) ≡ false → trees (tree_of old g j) ≡ false
      all_out g k j ok oj out = elim (cases_Bool (trees (tree_of old g j))) [ inr n ↦ n | inl y ↦ absurd (false≢true (sym out ∙ spread.lists g j k oj ok y)) ]

      pointer_out : (g k : ℕ) → IsOffer old g k → trees (tree_of old g k) ≡ false → slice_index opened.pointers g ≡ slice_index s.pointers g
      pointer_out g k o out = stays_at g o.group (λ j oj bj on. false≢true (sym (off_marks (tree_of old g j) (all_out g k j o oj out)) ∙ on))

      -- offers outside hold what they held
      opened_units : (test : ℕ → ℕ → Bool) → ((g k : ℕ) → IsOffer old g k → test g k ≡ true → trees (tree_of old g k) ≡ false) → units_of test opened.lines ≡ units_of test s.lines
      opened_units test out =
          ro.units test (λ g k o t. ap (is_on marks) (same_tree g k) ∙ off_marks (tree_of old g k) (out g k (to_old g k o) t))
          ∙ still test (λ g k o t. off_marks (tree_of old g k) (out g k o t))

      first_offer : (g : ℕ) → g < length old.groups → IsOffer old g 0
      first_offer g l = record { group = l; place = omega (arith, (k0.of.ready.market.groups g (record { demand = 0; choices = [] }) l).asks) }

      -- the trees hold the work of the run to come
      pub holds_work : HoldsWork new trees opened
      holds_work = record {
        lists = λ g k o.
            let ok : IsOffer old g k = to_old g k o in
            let o0 : IsOffer old g 0 = first_offer g ok.group in
            ap trees (same_tree g k) ∙ elim (cases_Bool (trees (tree_of old g k))) [
              | inl y ↦ y ∙ sym (spread.lists g k 0 ok o0 y) ∙ ap trees (sym (same_tree g 0))
              | inr n ↦ n ∙ sym (all_out g k 0 ok o0 n) ∙ ap trees (sym (same_tree g 0))
            ];
        waiting = λ g w.
            let l : g < length old.groups = omega (arith, w.group, k0.shape.groups) in
            let o0 : IsOffer old g 0 = first_offer g l in
            elim (cases_Bool (trees (tree_of old g 0))) [
              | inl y ↦ ap trees (same_tree g 0) ∙ y
              | inr out ↦
                  let all : units_of (λ h _. h == g) opened.lines ≡ units_of (λ h _. h == g) s.lines = opened_units (λ h _. h == g) (λ h j o t.
                  let e : h ≡ g = eqb-true h g t in
                  subst (λ x. trees (tree_of old x j) ≡ false) (sym e) (all_out g 0 j o0 (subst (λ x. IsOffer old x j) e o) out)) in
                  let p : ℕ = slice_index s.pointers g in
                  let at = pointer_out g 0 o0 out in
                  let op : IsOffer old g p = record { group = l; place = omega (arith, w.place, at, ap length (k0.shape.lists g)) } in
                  let unwanted : is_wanted old s.lines g p ≡ nat_lt p p = (k0.of.pointers g l).wanted p op in
                  let held : demand_of old g ≤ placed_through s.lines g p = ltb-false (placed_through s.lines g p) (demand_of old g) (unwanted ∙ ltb-itself p) in
                  let lower : demand_of new g ≤ demand_of old g = elim (cases_lt (demand_of old g) (demand_of new g)) [ inr le ↦ le | inl raised ↦ absurd (false≢true (sym out ∙ spread.raised g 0 o0 raised)) ] in
                  absurd (omega (arith, all, held, lower, through-le-placed s.lines g p, ro.ready.resumable.totals g w.group, w.free))
            ];
      }

      -- Groups outside keep their lines and names.
      pub local : (final : Standing) (before after : ℕ) → IsReady new final → StaysInside new trees opened final before after → IsLocalOutside old s.lines new final.lines trees
      local final before after ready inside = record {
        amounts = λ g k o out. final_units (λ h j. (h == g) && (j == k)) (λ h j oh t.
            let p = and_parts (h == g) (j == k) t in
            ap (λ x. trees (tree_of old x j)) (eqb-true h g p.0) ∙ ap (λ x. trees (tree_of old g x)) (eqb-true j k p.1) ∙ out);
        names = λ g k o out. named g k o out;
      }
        where
          final_units : (test : ℕ → ℕ → Bool) → ((g k : ℕ) → IsOffer old g k → test g k ≡ true → trees (tree_of old g k) ≡ false) → units_of test final.lines ≡ units_of test s.lines
          final_units test out = inside.units test (λ g k o t. ap trees (same_tree g 0) ∙ all_out g k 0 (to_old g k o) (first_offer g (to_old g k o).group) (out g k (to_old g k o) t)) ∙ opened_units test out

          named : (g k : ℕ) → IsOffer old g k → trees (tree_of old g k) ≡ false → name_of new final.lines (record { group = record { 0 = g }; place = k }) ≡ name_of old s.lines (record { group = record { 0 = g }; place = k })
          named g k o out =
              ap (λ b. if b then option_map (λ by. record { group = record { 0 = g }; place = k; by = by }) (refuser_of new final.lines g k) else None) wants
              ∙ ap (λ (r : Option By). if is_wanted old s.lines g k then option_map (λ by. record { group = record { 0 = g }; place = k; by = by }) r else None) refuses
            where
              of_group : (j : ℕ) → IsOffer old g j → trees (tree_of old g j) ≡ false
              of_group j oj = all_out g k j o oj out

              through : placed_through final.lines g k ≡ placed_through s.lines g k
              through = final_units (λ h j. (h == g) && nat_le j k) (λ h j oh t.
                  let e : h ≡ g = eqb-true h g (and_parts (h == g) (nat_le j k) t).0 in
                  subst (λ x. trees (tree_of old x j) ≡ false) (sym e) (of_group j (subst (λ x. IsOffer old x j) e oh)))

              lower : demand_of new g ≤ demand_of old g
              lower = elim (cases_lt (demand_of old g) (demand_of new g)) [ inr le ↦ le | inl raised ↦ absurd (false≢true (sym out ∙ spread.raised g k o raised)) ]

              wants : is_wanted new final.lines g k ≡ is_wanted old s.lines g k
              wants = elim (cases_lt (demand_of new g) (demand_of old g)) [
                | inr le ↦
                    let same : demand_of new g ≡ demand_of old g = omega (arith, le, lower) in
                    ap (λ x. nat_lt x (demand_of new g)) through ∙ ap (nat_lt (placed_through s.lines g k)) same
                | inl less ↦
                    let nothing : placed s.lines g ≡ 0 = placed_none old s.lines g (offers-AreLines old s.lines k0.of.ready.resumable.form) (λ j oj. elim (cases_lt 0 (amount_at s.lines g j)) [
                      | inr none ↦ omega (arith, none)
                      | inl some ↦ absurd (false≢true (sym (off_marks (tree_of old g j) (of_group j oj)) ∙ k0.reached.closed.lowered g (tree_of old g j) o.group less (j, oj, refl, some)))
                    ]) in
                    let none : placed_through s.lines g k ≡ 0 = omega (arith, nothing, through-le-placed s.lines g k) in
                    let asks : 1 ≤ demand_of new g = (k0.market.groups g (record { demand = 0; choices = [] }) (omega (arith, o.group, k0.shape.groups))).some in
                    lt-ltb (placed_through final.lines g k) (demand_of new g) (omega (arith, through, none, asks)) ∙ sym (lt-ltb (placed_through s.lines g k) (demand_of old g) (omega (arith, none, asks, less)))
              ]

              refuses : refuser_of new final.lines g k ≡ refuser_of old s.lines g k
              refuses = refuser-same old new k0.shape k0.of.ready.market s.lines final.lines k0.of.ready.resumable.form ready.resumable.form g k o (λ n l e. capacity_same n l (ap (is_on marks) e ∙ off_marks (tree_of old g k) out)) (λ test only. final_units test (λ h j oh t. ap trees (only h j oh t) ∙ out))

      -- The proposals are within those that groups inside may make.
      pub bounded : (final : Standing) (before after : ℕ) → StaysInside new trees opened final before after → after ≤ before + most_inside new trees
      bounded final before after inside = omega (arith, inside.steps, sum-le (λ g. if is_inside new trees g then proposals_of new opened.pointers g else 0) (λ g. if trees (tree_of new g 0) then length (choices_of new g) * (demand_of new g + 1) else 0) (length new.groups) 0 (λ g low high. each (is_inside new trees g) (length (choices_of new g)) (slice_index opened.pointers g) (demand_of new g + 1)))
        where
          each : (b : Bool) (n p d : ℕ) → (if b then (n - p) * d else 0) ≤ (if b then n * d else 0)
          each true n p d = mul-le-mul_right d (let l : n - p ≤ n = omega arith in l)
          each false n p d = omega arith
