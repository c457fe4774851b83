-- A put of units at a pointer, and a pointer that moves on, keep a map within a state; a fresh state has all maps within it.
use Rattle.std.proofs.Common.{◌≡◌, ℕ, ◌<◌, ◌≤◌, ◌==◌, ◌&&◌, if◌then◌else◌, List, slice_index, refl, sym, ap, ◌∙◌, subst, inl, inr, arith}
use Rattle.std.proofs.lemmas.Bool.{and_parts, cases_Bool, eq-eqb, eqb-true}
use Rattle.map_model.specs.declared.lines.MapLine.{MapLine}
use Rattle.map_model.specs.Market.{Market, IsMarket}
use Rattle.map_model.specs.Allocation.{amount_at}
use Rattle.map_model.specs.Progress.{IsResumable}
use Rattle.evict.specs.declared.freed.Eviction.{Eviction}
use Rattle.evict.specs.Standing.{CanPut, IsFresh, IsPut, IsReady, Standing}
use Rattle.best_laws.specs.Ahead.{GainsFree, IsAhead, IsRightMap, IsWithin}
use Rattle.best_laws.proofs.Wants.{no_more_refused, wants_less}

-- from one resumable state to another in which offers gained at pointers what was free
pub within_next : (m : Market) → IsMarket m → (old new other : List MapLine) (was free now left : List ℕ) → IsResumable m old was free → IsResumable m new now left → GainsFree m old new was free → IsRightMap m other → IsWithin m other old was → IsWithin m other new now
within_next m market old new other was free now left r s gains right within h j o below =
    no_more_refused m market new other right s.form s.capacities s.limits (λ g k og less. wants_less m old new other was free r gains within g k og less) h j o (s.refused h j o below)

-- in a put, the offer at the pointer alone gains, and no more than was free
pub put_gains : (m : Market) (old new : Standing) (g k units : ℕ) (freed : List Eviction) → CanPut m old g k units → IsPut m old new g k units freed → GainsFree m old.lines new.lines old.pointers old.free
put_gains m old new g k units freed can put h j o = omega (arith, put.held (λ x y. (x == h) && (y == j)), came)
  where
    came : (if (g == h) && (k == j) then units else 0) ≤ (if slice_index old.pointers h == j then slice_index old.free h else 0)
    came = elim (cases_Bool ((g == h) && (k == j))) [
      | inr e ↦ let none : (if (g == h) && (k == j) then units else 0) ≡ 0 = rw e refl in omega arith
      | inl e ↦
          let p = and_parts (g == h) (k == j) e in
          let group : g ≡ h = eqb-true g h p.0 in
          let at : slice_index old.pointers h ≡ j = ap (slice_index old.pointers) (sym group) ∙ sym can.pointer ∙ eqb-true k j p.1 in
          let all : (if (g == h) && (k == j) then units else 0) ≡ units = rw e refl in
          let room : (if slice_index old.pointers h == j then slice_index old.free h else 0) ≡ slice_index old.free h = rw (eq-eqb (slice_index old.pointers h) j at) refl in
          omega (arith, all, room, subst (λ x. units ≤ slice_index old.free x) group can.free)
    ]

-- a put keeps a map within the state
pub within_put : (m : Market) (old new : Standing) (other : List MapLine) (g k units : ℕ) (freed : List Eviction) → CanPut m old g k units → IsPut m old new g k units freed → IsRightMap m other → IsWithin m other old.lines old.pointers → IsWithin m other new.lines new.pointers
within_put m old new other g k units freed can put right within =
    within_next m can.ready.market old.lines new.lines other old.pointers old.free new.pointers new.free can.ready.resumable put.ready.resumable (put_gains m old new g k units freed can put) right within

-- and so do pointers that move on over refused places: where nothing else changes, and both states are resumable
pub within_moved : (m : Market) (old new : Standing) (other : List MapLine) → IsReady m old → IsReady m new → new.lines ≡ old.lines → IsRightMap m other → IsWithin m other old.lines old.pointers → IsWithin m other new.lines new.pointers
within_moved m old new other ready later same right within =
    within_next m ready.market old.lines new.lines other old.pointers old.free new.pointers new.free ready.resumable later.resumable
    (λ g k o. let units : amount_at new.lines g k ≡ amount_at old.lines g k = ap (λ (ls : List MapLine). amount_at ls g k) same in omega (arith, units)) right within

-- a fresh state is ahead: no place stands before a pointer
pub ahead_fresh : (m : Market) (state : Standing) → IsFresh m state → IsAhead m state.lines state.pointers
ahead_fresh m state fresh other right g k o below = absurd (omega (arith, fresh.pointers g o.group, below))
