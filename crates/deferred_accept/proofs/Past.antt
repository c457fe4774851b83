-- Places before a pointer stay wanted, so the pointers of an ended state are the numbers of wanted places, as those of the state of its map.
use Rattle.std.proofs.Common.{◌≡◌, ℕ, ◌+◌, ◌<◌, ◌≤◌, ◌==◌, Bool, true, false, ◌&&◌, nat_lt, nat_le, if◌then◌else◌, List, [], ◌∷◌, length, All, slice_index, refl, sym, ap, ◌∙◌, subst, inl, inr, arith}
use Rattle.std.proofs.lemmas.Bool.{and_parts, and_from, cases_Bool, cases_lt, eq-eqb, false≢true, lt-ltb, ltb-true, or_cases, leb-true, le-leb, eqb-true}
use Rattle.std.proofs.lemmas.List.Sums.{sum_by-cons}
use Rattle.std.proofs.lemmas.List.Elements.{All-head, All-tail}
use Rattle.map_model.specs.Market.{Market, demand_of}
use Rattle.map_model.specs.Allocation.{placed_through, is_wanted}
use Rattle.map_model.proofs.MapForm.{offers-AreLines}
use Rattle.map_model.proofs.Units.{through-le-placed}
use Rattle.evict.specs.declared.freed.Eviction.{Eviction}
use Rattle.evict.specs.Evictions.{IsEviction, freed_units, gave_up}
use Rattle.evict.specs.Standing.{CanPut, IsPastWanted, IsPut, IsReady, Standing}
use Rattle.map_model.specs.Progress.{IsEnded}
use Rattle.deferred_accept.specs.Runs.{WantsBefore}
use Rattle.deferred_accept.proofs.Finished.{placed-le-through}

-- an offer that gave up units gave up some
gave_some : (m : Market) (test : ℕ → ℕ → Bool) (freed : List Eviction) (h k : ℕ) → All (λ e. IsEviction m e) freed → gave_up freed h k ≡ true → test h k ≡ true → 0 < freed_units test freed
gave_some m test [] h k all gave passes = absurd (false≢true gave)
gave_some m test (e ∷ es) h k all gave passes =
    let f : Eviction → ℕ = λ x. if test x.offer.group.0 x.offer.place then x.units else 0 in
    elim (or_cases ((e.offer.group.0 == h) && (e.offer.place == k)) (gave_up es h k) gave) [
      | inl here ↦
          let p = and_parts (e.offer.group.0 == h) (e.offer.place == k) here in
          let t : test e.offer.group.0 e.offer.place ≡ true = ap (λ x. test x e.offer.place) (eqb-true e.offer.group.0 h p.0) ∙ ap (test h) (eqb-true e.offer.place k p.1) ∙ passes in
          let all_of : f e ≡ e.units = rw t refl in
          omega (arith, sum_by-cons f e es, all_of, (All-head (λ (x : Eviction). IsEviction m x) e es all).some)
      | inr more ↦ omega (arith, sum_by-cons f e es, gave_some m test es h k (All-tail (λ (x : Eviction). IsEviction m x) e es all) more passes)
    ]

-- a proposal leaves each place before a pointer wanted
pub wants_step : (m : Market) (old new : Standing) (g k units : ℕ) (freed : List Eviction) → CanPut m old g k units → IsPut m old new g k units freed → WantsBefore m old → WantsBefore m new
wants_step m old new g k units freed can put before h j o below =
    let p : ℕ = slice_index old.pointers h in
    elim (cases_Bool (gave_up freed h p)) [
      | inr none ↦
          let same : slice_index new.pointers h ≡ p = put.pointers h o.group ∙ ap (λ b. if b then p + 1 else p) none in
          still (omega (arith, below, same))
      | inl gave ↦
          let moved : slice_index new.pointers h ≡ p + 1 = put.pointers h o.group ∙ ap (λ b. if b then p + 1 else p) gave in
          elim (cases_lt j p) [
            | inl low ↦ still low
            | inr high ↦
                let e : j ≡ p = omega (arith, below, moved, high) in
                let lost = gave_some m (λ x y. (x == h) && nat_le y j) freed h p put.evictions gave (and_from (h == h) (nat_le p j) (eq-eqb h h refl) (le-leb p j (omega (arith, e)))) in
                let total = can.ready.resumable.totals h o.group in
                lt-ltb (placed_through new.lines h j) (demand_of m h) (omega (arith, put.held (λ x y. (x == h) && nat_le y j), lost, total, through-le-placed old.lines h j, came (g == h) (nat_le k j) refl))
          ]
    ]
  where
    -- what came is within what was free
    came : (b c : Bool) → (g == h) ≡ b → (if b && c then units else 0) ≤ slice_index old.free h
    came false c e = omega arith
    came true false e = omega arith
    came true true e = subst (λ x. units ≤ slice_index old.free x) (eqb-true g h e) can.free

    still : j < slice_index old.pointers h → is_wanted m new.lines h j ≡ true
    still low =
        let was : placed_through old.lines h j < demand_of m h = ltb-true (placed_through old.lines h j) (demand_of m h) (before h j o low) in
        let none : (if (g == h) && nat_le k j then units else 0) ≡ 0 = elim (cases_Bool ((g == h) && nat_le k j)) [
          | inr n ↦ rw n refl
          | inl y ↦
              let q = and_parts (g == h) (nat_le k j) y in
              let at : k ≡ slice_index old.pointers h = can.pointer ∙ ap (slice_index old.pointers) (eqb-true g h q.0) in
              absurd (omega (arith, at, low, leb-true k j q.1))
        ] in
        lt-ltb (placed_through new.lines h j) (demand_of m h) (omega (arith, put.held (λ x y. (x == h) && nat_le y j), none, was))

-- In an ended state whose places before pointers are wanted each pointer is the number of wanted places, as in the state of its map.
pub past_of_ended : (m : Market) (s : Standing) → IsReady m s → IsEnded m s.pointers s.free → WantsBefore m s → (g : ℕ) → g < length m.groups → IsPastWanted m s.lines g (slice_index s.pointers g)
past_of_ended m s ready ended before g l = record {
  in_list = ready.resumable.in_list g l;
  wanted = λ k o. elim (cases_lt k (slice_index s.pointers g)) [
    | inl low ↦ before g k o low ∙ sym (lt-ltb k (slice_index s.pointers g) low)
    | inr high ↦
        let none : slice_index s.free g ≡ 0 = ended g l (omega (arith, high, o.place)) in
        let all = placed-le-through m s.lines g k (offers-AreLines m s.lines ready.resumable.form) (λ j oj past. ready.resumable.none_past g j oj (omega (arith, past, high))) in
        not_less (placed_through s.lines g k) (demand_of m g) (omega (arith, ready.resumable.totals g l, none, all)) ∙ sym (not_less k (slice_index s.pointers g) high)
  ];
}
  where
    not_less : (a b : ℕ) → b ≤ a → nat_lt a b ≡ false
    not_less a b le = elim (cases_Bool (nat_lt a b)) [ inr n ↦ n | inl y ↦ absurd (omega (arith, ltb-true a b y, le)) ]
