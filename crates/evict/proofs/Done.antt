-- The end of a put.
use Rattle.std.proofs.Common.{◌≡◌, ℕ, ◌+◌, ◌<◌, ◌≤◌, ◌==◌, Bool, true, false, ◌&&◌, nat_lt, if◌then◌else◌, List, [], ◌∷◌, length, IsTrue, IsSome, All, slice_index, refl, sym, ap, ◌∙◌, subst, inl, inr, ◌⊎◌, arith}
use Rattle.std.proofs.lemmas.Bool.{and_parts, cases_Bool, eq-eqb, eqb-true, ltb-true, ltb-false, or_cases, or_parts, false≢true}
use Rattle.std.proofs.lemmas.List.Elements.{All-head, All-tail}
use Rattle.std.proofs.lemmas.List.Sums.{sum_by-cons}
use Rattle.capacity_tree.specs.Loads.{Loads}
use Rattle.map_model.specs.declared.lines.MapLine.{MapLine}
use Rattle.map_model.specs.Market.{Market, IsMarket, IsSameShape, choices_of, key_of, limit_of, pool_of}
use Rattle.map_model.specs.Allocation.{IsOffer, amount_at, counts_at, is_at_limit, refuser_of, refusing_node}
use Rattle.map_model.specs.Holding.{IsSaturated}
use Rattle.map_model.specs.Progress.{IsResumable}
use Rattle.map_model.proofs.MapForm.{few_places}
use Rattle.map_model.proofs.Trees.{under_there, under_trans}
use Rattle.map_model.proofs.Paths.{pool_there}
use Rattle.map_model.proofs.Units.{amount-le-placed}
use Rattle.map_model.proofs.Refused.{refused_either, refused_limit, refused_node}
use Rattle.offer_pool.specs.Holdings.{Holdings}
use Rattle.evict.specs.declared.freed.Eviction.{Eviction}
use Rattle.evict.specs.Evictions.{CanSettle, freed_units, gave_up}
use Rattle.evict.specs.Putting.{AgreesWith, IsPlacing, IsRelieved}
use Rattle.evict.specs.Standing.{CanPut, IsPut, KeepsRefusals, Standing}
use Rattle.evict.proofs.Refusals.{full_from_saturated, refusals_kept, refused_at, refused_by}
use Rattle.evict.proofs.Settled.{places_below, small_demand}
use Rattle.evict.proofs.Shaped.{load-shape}
use Rattle.evict.proofs.Putting.{at_most}

-- loads are those of what is held, for each instance of one shape
pub agrees-shape : (m m' : Market) → IsSameShape m m' → (lines : List MapLine) (tree : Loads) → AgreesWith m lines tree → AgreesWith m' lines tree
agrees-shape m m' s lines tree a = record {
  trees = record { nodes = a.trees.nodes ∙ sym s.nodes; parents = λ n. a.trees.parents n ∙ sym (s.trees n) };
  size = a.size ∙ sym s.nodes;
  loads = λ n l. a.loads n (omega (arith, s.nodes)) ∙ sym (load-shape m m' s lines n);
}

-- a state as it is seen
abbrev pub seen : Holdings → List ℕ → List ℕ → Bool → Standing
seen held pointers free whole = record { market = held.market; lines = held.lines; pointers = pointers; free = free; is_whole = whole }

-- the units may be placed
pub placing : (m : Market) (g k units : ℕ) (held : Holdings) (tree : Loads) (pointers free : List ℕ) (whole : Bool) (freed : List Eviction) → CanPut m (seen held pointers free whole) g k units → (IsTrue whole → AgreesWith held.market held.lines tree) → freed ≡ []
    → IsPlacing m (record { lines = held.lines; units = units }) g k units held tree freed
placing m g k units held tree pointers free whole freed can agrees nothing = record {
  market = can.ready.market;
  offer = can.offer;
  start = refl;
  shape = can.ready.shape;
  form = can.ready.resumable.form;
  agrees = agrees-shape held.market m can.ready.shape held.lines tree (agrees can.ready.whole);
  room = omega (arith, amount-le-placed held.lines g k, can.ready.resumable.totals g can.offer.group, can.free, small_demand m can.ready.market g can.offer.group);
  fits = can.ready.resumable.capacities;
  nothing = nothing;
}

-- and what they cause can be settled
pub settling : (m : Market) (g k units : ℕ) (held held' : Holdings) (tree' : Loads) (pointers free : List ℕ) (whole : Bool) (freed : List Eviction) → CanPut m (seen held pointers free whole) g k units
    → IsRelieved m (record { lines = held.lines; units = units }) g k held' tree' freed → CanSettle free pointers g units freed
settling m g k units held held' tree' pointers free whole freed can done =
    let r = can.ready.resumable in
    record {
      size = r.pointers_for ∙ sym r.free_for;
      group = omega (arith, r.free_for, can.offer.group);
      enough = can.free;
      room = λ h l. omega (
        arith,
        done.accounted.accounts (λ x _. x == h),
        at_most (g == h) units,
        r.totals h (omega (arith, r.free_for)),
        small_demand m can.ready.market h (omega (arith, r.free_for)),
        r.totals g can.offer.group,
        small_demand m can.ready.market g can.offer.group,
        can.free,
      );
      groups = λ i d l. omega (arith, (done.accounted.evictions i d l).offer.group, r.free_for);
      places = λ i d l. (
        places_below m (seen held pointers free whole) (record { lines = held.lines; units = units }) g k units held' tree' freed can refl done.accounted i d l,
        few_places m can.ready.market _ _ (done.accounted.evictions i d l).offer,
      );
    }

-- what holds of each eviction holds of an offer that gave up units
pub gave_up_each : (P : ℕ → ℕ → Type 0) (freed : List Eviction) (h k : ℕ) → All (λ e. P e.offer.group.0 e.offer.place) freed → gave_up freed h k ≡ true → P h k
gave_up_each P [] h k all some = absurd (false≢true some)
gave_up_each P (e ∷ es) h k all some = elim (or_cases ((e.offer.group.0 == h) && (e.offer.place == k)) (gave_up es h k) some) [
  | inl here ↦
      let p = and_parts (e.offer.group.0 == h) (e.offer.place == k) here in
      let eh : e.offer.group.0 ≡ h = eqb-true e.offer.group.0 h p.0 in
      let ek : e.offer.place ≡ k = eqb-true e.offer.place k p.1 in
      subst (λ x. P h x) ek (subst (λ x. P x e.offer.place) eh (All-head (λ e. P e.offer.group.0 e.offer.place) e es all))
  | inr more ↦ gave_up_each P es h k (All-tail (λ e. P e.offer.group.0 e.offer.place) e es all) more
]

-- where an offer gave up nothing, none of its units are listed
pub freed_none : (freed : List Eviction) (h k : ℕ) → gave_up freed h k ≡ false → freed_units (λ x y. (x == h) && (y == k)) freed ≡ 0
freed_none [] h k none = refl
freed_none (e ∷ es) h k none =
    let p = or_parts ((e.offer.group.0 == h) && (e.offer.place == k)) (gave_up es h k) none in
    let f : Eviction → ℕ = λ x. if (x.offer.group.0 == h) && (x.offer.place == k) then x.units else 0 in
    let z : f e ≡ 0 = rw p.0 refl in
    omega (arith, sum_by-cons f e es, z, freed_none es h k p.1)

-- a pointer stays, or its place gave up units and it moves on by one
moved : (gave : Bool) (was now : ℕ) → now ≡ (if gave then was + 1 else was) → (now ≡ was) ⊎ ((gave ≡ true) × (now ≡ was + 1))
moved true was now e = inr (refl, e)
moved false was now e = inl e

-- the end of a put
pub put_done : (m : Market) (g k units : ℕ) (held held' : Holdings) (tree' : Loads) (pointers pointers' free free' : List ℕ) (whole : Bool) (freed : List Eviction) → CanPut m (seen held pointers free whole) g k units
    → IsRelieved m (record { lines = held.lines; units = units }) g k held' tree' freed → length pointers' ≡ length pointers → length free' ≡ length free
    → ((h : ℕ) → h < length free' → slice_index free' h + (if g == h then units else 0) ≡ slice_index free h + freed_units (λ x _. x == h) freed)
    → ((h : ℕ) → h < length pointers' → slice_index pointers' h ≡ (if gave_up freed h (slice_index pointers h) then slice_index pointers h + 1 else slice_index pointers h))
    → IsPut m (seen held pointers free whole) (seen held' pointers' free' true) g k units freed
put_done m g k units held held' tree' pointers pointers' free free' whole freed can done plen flen frees moves = record {
  ready = record {
    market = market;
    whole = refl;
    shape = done.accounted.shape;
    resumable = record {
      form = done.accounted.form;
      pointers_for = plen ∙ r.pointers_for;
      free_for = flen ∙ r.free_for;
      capacities = done.settled.fits;
      limits = λ h j o. within_limit h j o (cases_Bool ((g == h) && (k == j)));
      totals = λ h l. omega (arith, done.accounted.accounts (λ x _. x == h), frees h (omega (arith, flen, r.free_for)), r.totals h l);
      in_list = λ h l. within h l (move h l);
      none_past = λ h j o past. none h j o (move h o.group) past;
      refused = λ h j o before. refused h j o (move h o.group) before;
    };
  };
  evictions = done.accounted.evictions;
  held = done.accounted.accounts;
  free = λ h l. frees h (omega (arith, flen, r.free_for));
  pointers = λ h l. moves h (omega (arith, plen, r.pointers_for));
  refusals = kept;
  turned = turned;
}
  where
    r : IsResumable m held.lines pointers free
    r = can.ready.resumable

    market : IsMarket m
    market = can.ready.market

    kept : KeepsRefusals m held.lines held'.lines
    kept = refusals_kept m market held.lines held'.lines r.form done.accounted.form done.settled

    move : (h : ℕ) → h < length m.groups → (slice_index pointers' h ≡ slice_index pointers h) ⊎ ((gave_up freed h (slice_index pointers h) ≡ true) × (slice_index pointers' h ≡ slice_index pointers h + 1))
    move h l = moved (gave_up freed h (slice_index pointers h)) (slice_index pointers h) (slice_index pointers' h) (moves h (omega (arith, plen, r.pointers_for)))

    within : (h : ℕ) → h < length m.groups → (slice_index pointers' h ≡ slice_index pointers h) ⊎ ((gave_up freed h (slice_index pointers h) ≡ true) × (slice_index pointers' h ≡ slice_index pointers h + 1)) → slice_index pointers' h ≤ length (choices_of m h)
    within h l (inl same) = omega (arith, r.in_list h l)
    within h l (inr w) =
        let o : IsOffer m h (slice_index pointers h) = gave_up_each (λ x y. IsOffer m x y) freed h (slice_index pointers h) (λ i d l. (done.accounted.evictions i d l).offer) w.0 in
        let last : slice_index pointers' h ≡ slice_index pointers h + 1 = w.1 in
        omega (arith, o.place)

    no_less : (h : ℕ) → (slice_index pointers' h ≡ slice_index pointers h) ⊎ ((gave_up freed h (slice_index pointers h) ≡ true) × (slice_index pointers' h ≡ slice_index pointers h + 1)) → slice_index pointers h ≤ slice_index pointers' h
    no_less h (inl same) = omega arith
    no_less h (inr w) = let last : slice_index pointers' h ≡ slice_index pointers h + 1 = w.1 in omega arith

    behind : (h j : ℕ) → j < slice_index pointers h → ((g == h) && (k == j)) ≡ false
    behind h j before = elim (cases_Bool ((g == h) && (k == j))) [
      | inr e ↦ e
      | inl e ↦
          let p = and_parts (g == h) (k == j) e in
          let ek : k ≡ j = eqb-true k j p.1 in
          let at : k ≡ slice_index pointers h = can.pointer ∙ ap (slice_index pointers) (eqb-true g h p.0) in
          absurd (omega arith)
    ]

    elsewhere : (h j : ℕ) → slice_index pointers h < j → ((g == h) && (k == j)) ≡ false
    elsewhere h j past = elim (cases_Bool ((g == h) && (k == j))) [
      | inr e ↦ e
      | inl e ↦
          let p = and_parts (g == h) (k == j) e in
          let eg : g ≡ h = eqb-true g h p.0 in
          let ek : k ≡ j = eqb-true k j p.1 in
          let at : k ≡ slice_index pointers h = can.pointer ∙ ap (slice_index pointers) eg in
          absurd (omega arith)
    ]

    none : (h j : ℕ) → IsOffer m h j → (slice_index pointers' h ≡ slice_index pointers h) ⊎ ((gave_up freed h (slice_index pointers h) ≡ true) × (slice_index pointers' h ≡ slice_index pointers h + 1)) → slice_index pointers' h < j → amount_at held'.lines h j ≡ 0
    none h j o w past =
        let was : slice_index pointers h < j = omega (arith, no_less h w) in
        let apart : (if (g == h) && (k == j) then units else 0) ≡ 0 = rw (elsewhere h j was) refl in
        omega (arith, done.accounted.accounts (λ x y. (x == h) && (y == j)), r.none_past h j o was, apart)

    within_limit : (h j : ℕ) → IsOffer m h j → (((g == h) && (k == j)) ≡ true) ⊎ (((g == h) && (k == j)) ≡ false) → amount_at held'.lines h j ≤ limit_of m h j
    within_limit h j o (inl e) =
        let p = and_parts (g == h) (k == j) e in
        let room : amount_at held.lines h j + units ≤ limit_of m h j
        = subst (λ x. amount_at held.lines h x + units ≤ limit_of m h x) (eqb-true k j p.1) (subst (λ x. amount_at held.lines x k + units ≤ limit_of m x k) (eqb-true g h p.0) can.limit) in
        omega (arith, done.accounted.accounts (λ x y. (x == h) && (y == j)), at_most ((g == h) && (k == j)) units)
    within_limit h j o (inr e) =
        let none : (if (g == h) && (k == j) then units else 0) ≡ 0 = rw e refl in
        omega (arith, done.accounted.accounts (λ x y. (x == h) && (y == j)), r.limits h j o)

    by_node : (h j : ℕ) → IsOffer m h j → IsSome (refusing_node m held.lines h j) → IsSome (refusing_node m held'.lines h j)
    by_node h j o some =
        let w = refused_by m held.lines h j some in
        let pool = pool_there m market h j o in
        let there = under_there m market w.0 (pool_of m h j) pool w.1 in
        let v = kept w.0 (key_of m h j) there w.2 in
        refused_at m held'.lines h j v.0 (under_trans m market v.0 w.0 (pool_of m h j) pool v.1 w.1) v.2

    turned : (h j : ℕ) → IsOffer m h j → gave_up freed h j ≡ true → IsSome (refusing_node m held'.lines h j)
    turned h j o gave =
        let w : (n : ℕ) × (counts_at m n h j ≡ true) × IsSaturated m held'.lines n (key_of m h j)
        = gave_up_each (λ x y. (n : ℕ) × (counts_at m n x y ≡ true) × IsSaturated m held'.lines n (key_of m x y)) freed h j done.turned gave in
        let there = under_there m market w.0 (pool_of m h j) (pool_there m market h j o) w.1 in
        refused_at m held'.lines h j w.0 w.1 (full_from_saturated m held'.lines w.0 (key_of m h j) done.accounted.form (done.settled.fits w.0 there) w.2)

    -- a place that its limit refused keeps its units, or gave some up and is refused by a node
    at_limit : (h j : ℕ) → IsOffer m h j → j < slice_index pointers h → is_at_limit m held.lines h j ≡ true → IsSome (refuser_of m held'.lines h j)
    at_limit h j o before full = elim (cases_Bool (gave_up freed h j)) [
      | inl gave ↦ refused_node m held'.lines h j (turned h j o gave)
      | inr kept_all ↦
          let was : amount_at held.lines h j ≡ limit_of m h j = eqb-true (amount_at held.lines h j) (limit_of m h j) full in
          let apart : (if (g == h) && (k == j) then units else 0) ≡ 0 = rw (behind h j before) refl in
          let now : amount_at held'.lines h j ≡ limit_of m h j = omega (arith, done.accounted.accounts (λ x y. (x == h) && (y == j)), freed_none freed h j kept_all) in
          refused_limit m held'.lines h j (eq-eqb (amount_at held'.lines h j) (limit_of m h j) now)
    ]

    still : (h j : ℕ) → IsOffer m h j → j < slice_index pointers h → IsSome (refuser_of m held'.lines h j)
    still h j o before = elim (refused_either m held.lines h j (r.refused h j o before)) [
      | inl full ↦ at_limit h j o before full
      | inr some ↦ refused_node m held'.lines h j (by_node h j o some)
    ]

    refused : (h j : ℕ) → IsOffer m h j → (slice_index pointers' h ≡ slice_index pointers h) ⊎ ((gave_up freed h (slice_index pointers h) ≡ true) × (slice_index pointers' h ≡ slice_index pointers h + 1)) → j < slice_index pointers' h → IsSome (refuser_of m held'.lines h j)
    refused h j o (inl same) before = still h j o (omega arith)
    refused h j o (inr w) before = elim (cases_Bool (nat_lt j (slice_index pointers h))) [
      | inl e ↦ still h j o (ltb-true j (slice_index pointers h) e)
      | inr e ↦
          let last : slice_index pointers' h ≡ slice_index pointers h + 1 = w.1 in
          let high : slice_index pointers h ≤ j = ltb-false j (slice_index pointers h) e in
          let here : slice_index pointers h ≡ j = omega arith in
          refused_node m held'.lines h j (turned h j o (subst (λ x. gave_up freed h x ≡ true) here w.0))
    ]
