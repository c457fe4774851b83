-- The end of a run is within its start.
use Rattle.std.proofs.Common.{◌≡◌, ℕ, zero, suc, ◌+◌, ◌≤◌, ◌==◌, if◌then◌else◌, List, slice_index, true, false, ◌⊎◌, refl, sym, ap, subst, inl, inr, arith}
use Rattle.std.proofs.lemmas.Bool.{cases_Bool, ne_eqb}
use Rattle.map_model.specs.declared.lines.MapLine.{MapLine}
use Rattle.map_model.specs.Market.{Market}
use Rattle.map_model.specs.Allocation.{IsOffer, amount_at}
use Rattle.evict.specs.declared.freed.Eviction.{Eviction}
use Rattle.evict.specs.Evictions.{gave_up}
use Rattle.evict.specs.Standing.{CanPut, IsPut, IsReady, Standing}
use Rattle.best_laws.specs.Ahead.{IsWithin}
use Rattle.best_laws.proofs.Step.{put_gains}
use Rattle.deferred_accept.specs.Runs.{AreProposals, AreSkips, IsProposal, offered}
use Rattle.deferred_accept.proofs.Many.{can_propose, ready_many}
use Rattle.deferred_accept.proofs.Skips.{lines_skip, pointer_up, ready_skips}

-- what a later state has before the pointers of an earlier one is no more than that had there, and pointers do not fall
pub record IsLater (m : Market) (old new : Standing) : Type 0 where
  pub within : IsWithin m new.lines old.lines old.pointers
  pub pointers : (g k : ℕ) → IsOffer m g k → slice_index old.pointers g ≤ slice_index new.pointers g

later_itself : (m : Market) (s : Standing) → IsLater m s s
later_itself m s = record { within = λ g k o l. omega arith; pointers = λ g k o. omega arith }

later_trans : (m : Market) (a b c : Standing) → IsLater m a b → IsLater m b c → IsLater m a c
later_trans m a b c x y = record {
  within = λ g k o l. omega (arith, x.within g k o l, y.within g k o (omega (arith, l, x.pointers g k o)));
  pointers = λ g k o. omega (arith, x.pointers g k o, y.pointers g k o);
}

later_put : (m : Market) (old new : Standing) (g k units : ℕ) (freed : List Eviction) → CanPut m old g k units → IsPut m old new g k units freed → IsLater m old new
later_put m old new g k units freed can put = record {
  within = λ h j o l.
      let none : (if slice_index old.pointers h == j then slice_index old.free h else 0) ≡ 0 = rw (ne_eqb (slice_index old.pointers h) j (λ e. absurd (omega (arith, e, l)))) refl in
      omega (arith, put_gains m old new g k units freed can put h j o, none);
  pointers = λ h j o. up h (put.pointers h o.group) (cases_Bool (gave_up freed h (slice_index old.pointers h)));
}
  where
    up : (h : ℕ) → slice_index new.pointers h ≡ (if gave_up freed h (slice_index old.pointers h) then slice_index old.pointers h + 1 else slice_index old.pointers h)
        → (gave_up freed h (slice_index old.pointers h) ≡ true) ⊎ (gave_up freed h (slice_index old.pointers h) ≡ false) → slice_index old.pointers h ≤ slice_index new.pointers h
    up h is (inl e) = let next : (if gave_up freed h (slice_index old.pointers h) then slice_index old.pointers h + 1 else slice_index old.pointers h) ≡ slice_index old.pointers h + 1 = rw e refl in omega (arith, is, next)
    up h is (inr e) = let next : (if gave_up freed h (slice_index old.pointers h) then slice_index old.pointers h + 1 else slice_index old.pointers h) ≡ slice_index old.pointers h = rw e refl in omega (arith, is, next)

later_skips : (m : Market) (n : ℕ) (old new : Standing) → IsReady m old → AreSkips m n old new → IsLater m old new
later_skips m zero old new ready made = subst (λ s. IsLater m old s) (sym made) (later_itself m old)
later_skips m (suc n) old new ready made = later_trans m old made.0 new (later_skips m n old made.0 ready made.1) (record {
  within = λ g k o l. let units : amount_at new.lines g k ≡ amount_at made.0.lines g k = ap (λ (ls : List MapLine). amount_at ls g k) (lines_skip m made.0 new made.2) in omega (arith, units);
  pointers = λ g k o. pointer_up m made.0 new (ready_skips m n old made.0 ready made.1) made.2 g;
})

pub later_many : (m : Market) (n : ℕ) (old new : Standing) → IsReady m old → AreProposals m n old new → IsLater m old new
later_many m zero old new ready made = later_skips m made.0 old new ready made.1
later_many m (suc n) old new ready made =
    let p : IsProposal m made.0 made.1 = made.4 in
    later_trans m old made.1 new
    (later_trans m old made.0 made.1 (later_many m n old made.0 ready made.3)
    (later_put m made.0 made.1 p.group (slice_index made.0.pointers p.group) (offered m made.0 p.group) p.freed (can_propose m made.0 made.1 (ready_many m n old made.0 ready made.3) p) p.put))
    (later_skips m made.2 made.1 new p.put.ready made.5)
