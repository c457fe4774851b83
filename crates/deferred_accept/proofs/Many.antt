-- Many proposals at once: what one keeps they all keep, and what one lowers they lower by their number.
use Rattle.std.proofs.Common.{◌≡◌, ℕ, zero, suc, ◌+◌, ◌-◌, ◌^◌, ◌<◌, ◌≤◌, Bool, false, nat_lt, if◌then◌else◌, slice_index, refl, sym, ap, ◌∙◌, subst, inl, inr, arith}
use Rattle.std.proofs.lemmas.Bool.{cases_lt, le-ltb, lt-ltb}
use Rattle.map_model.specs.Market.{Market}
use Rattle.evict.specs.Standing.{CanPut, IsReady, Standing}
use Rattle.deferred_accept.specs.Runs.{AreProposals, AreSkips, HasProposed, HasRun, IsProposal, WantsBefore, offered}
use Rattle.deferred_accept.specs.Work.{worth}
use Rattle.deferred_accept.proofs.Past.{wants_step}
use Rattle.deferred_accept.proofs.Proposed.{risen_twice}
use Rattle.deferred_accept.proofs.Skips.{can_offer, ready_skips, run_skips, skips_on, spread_skips, wants_skips, worth_skips}
use Rattle.deferred_accept.proofs.Turns.{run_step, worth_less}
use Rattle.deferred_accept.proofs.Within.{IsSpreading, spread_step}

-- a proposal's units may be offered
pub can_propose : (m : Market) (old new : Standing) → IsReady m old → (p : IsProposal m old new) → CanPut m old p.group (slice_index old.pointers p.group) (offered m old p.group)
can_propose m old new ready p = can_offer m old p.group ready p.waiting

-- proposals keep a state ready
pub ready_many : (m : Market) (n : ℕ) (old new : Standing) → IsReady m old → AreProposals m n old new → IsReady m new
ready_many m zero old new ready made = ready_skips m made.0 old new ready made.1
ready_many m (suc n) old new ready made = ready_skips m made.2 made.1 new made.4.put.ready made.5

-- some proposals, and places that are skipped after them
skips_after : (m : Market) (k n : ℕ) (start old new : Standing) → AreProposals m k start old → AreSkips m n old new → AreProposals m k start new
skips_after m zero n start old new before made = (before.0 + n, skips_on m before.0 n (before.0 + n) start old new refl before.1 made)
skips_after m (suc k) n start old new before made = (before.0, before.1, before.2 + n, before.3, before.4, skips_on m before.2 n (before.2 + n) before.1 old new refl before.5 made)

-- some proposals, and then more of them
pub proposals_on : (m : Market) (k n all : ℕ) (start old new : Standing) → all ≡ k + n → AreProposals m k start old → AreProposals m n old new → AreProposals m all start new
proposals_on m k zero all start old new e before made =
    let same : all ≡ k = omega arith in
    subst (λ x. AreProposals m x start new) (sym same) (skips_after m k made.0 start old new before made.1)
proposals_on m k (suc n) zero start old new e before made = absurd (omega arith)
proposals_on m k (suc n) (suc all) start old new e before made = (made.0, made.1, made.2, proposals_on m k n all start old made.0 (omega arith) before made.3, made.4, made.5)

-- the worth of a state falls by one at least with each
pub worth_many : (m : Market) (n : ℕ) (old new : Standing) → IsReady m old → AreProposals m n old new → n + worth m new ≤ worth m old
worth_many m zero old new ready made = omega (arith, worth_skips m made.0 old new ready made.1)
worth_many m (suc n) old new ready made =
    let p : IsProposal m made.0 made.1 = made.4 in
    let can = can_propose m made.0 made.1 (ready_many m n old made.0 ready made.3) p in
    omega (
      arith,
      worth_many m n old made.0 ready made.3,
      worth_less m made.0 made.1 p.group (slice_index made.0.pointers p.group) (offered m made.0 p.group) p.freed can p.put p.some,
      worth_skips m made.2 made.1 new p.put.ready made.5,
    )

-- a run goes on by many proposals
pub run_many : (m : Market) (n : ℕ) (start old new : Standing) → HasRun m start old → AreProposals m n old new → HasRun m start new
run_many m zero start old new before made = run_skips m made.0 start old new before made.1
run_many m (suc n) start old new before made =
    let p : IsProposal m made.0 made.1 = made.4 in
    let run = run_many m n start old made.0 before made.3 in
    run_skips m made.2 start made.1 new
    (run_step m start made.0 made.1 p.group (slice_index made.0.pointers p.group) (offered m made.0 p.group) p.freed run (can_propose m made.0 made.1 run.ready p) p.put) made.5

-- each place before a pointer stays wanted
pub wants_many : (m : Market) (n : ℕ) (old new : Standing) → IsReady m old → AreProposals m n old new → WantsBefore m old → WantsBefore m new
wants_many m zero old new ready made before = wants_skips m made.0 old new ready made.1 before
wants_many m (suc n) old new ready made before =
    let p : IsProposal m made.0 made.1 = made.4 in
    wants_skips m made.2 made.1 new p.put.ready made.5
    (wants_step m made.0 made.1 p.group (slice_index made.0.pointers p.group) (offered m made.0 p.group) p.freed (can_propose m made.0 made.1 (ready_many m n old made.0 ready made.3) p) p.put (wants_many m n old made.0 ready made.3 before))

-- they are counted by their number
pub proposed_many : (m : Market) (n : ℕ) (start old new : Standing) (before was now : ℕ) → HasProposed m start old before was → AreProposals m n old new → now ≡ (if nat_lt (was + n) (2 ^ 64) then was + n else 2 ^ 64 - 1) → HasProposed m start new before now
proposed_many m n start old new before was now sofar made added = record {
  count = sofar.count + n;
  proposals = proposals_on m sofar.count n (sofar.count + n) start old new refl sofar.proposals made;
  counted = λ l. risen_twice before sofar.count n was now l (sofar.counted l) added;
}

-- one by one, with a counter that has no end
spread_counted : (m : Market) (trees : ℕ → Bool) (n : ℕ) (start old new : Standing) (before was now : ℕ) → now ≡ was + n → IsReady m old → IsSpreading m trees start old before was → AreProposals m n old new → IsSpreading m trees start new before now
spread_counted m trees zero start old new before was now e ready sofar made =
    let same : now ≡ was = omega arith in
    subst (λ x. IsSpreading m trees start new before x) (sym same) (spread_skips m trees made.0 start old new before was ready sofar made.1)
spread_counted m trees (suc n) start old new before was zero e ready sofar made = absurd (omega arith)
spread_counted m trees (suc n) start old new before was (suc now) e ready sofar made =
    let p : IsProposal m made.0 made.1 = made.4 in
    let rest = spread_counted m trees n start old made.0 before was now (omega arith) ready sofar made.3 in
    let can = can_propose m made.0 made.1 (ready_many m n old made.0 ready made.3) p in
    let one_more : suc now ≡ now + 1 = omega arith in
    spread_skips m trees made.2 start made.1 new before (suc now) p.put.ready
    (spread_step m trees start made.0 made.1 p.group (slice_index made.0.pointers p.group) (offered m made.0 p.group) p.freed before now (suc now) false rest can p.put p.waiting p.some one_more) made.5

-- many proposals of groups inside a set of trees
pub spread_many : (m : Market) (trees : ℕ → Bool) (n : ℕ) (start old new : Standing) (before was now : ℕ) → IsReady m old → IsSpreading m trees start old before was → AreProposals m n old new → now ≤ was + n → IsSpreading m trees start new before now
spread_many m trees n start old new before was now ready sofar made few =
    let all = spread_counted m trees n start old new before was (was + n) refl ready sofar made in
    record { work = all.work; outside = all.outside; units = all.units; counted = omega (arith, all.counted) }

-- a counter to which a number was added has not fallen, and rose by no more than that
pub added_few : (was n now : ℕ) → was < 2 ^ 64 → now ≡ (if nat_lt (was + n) (2 ^ 64) then was + n else 2 ^ 64 - 1) → (was ≤ now) × (now ≤ was + n)
added_few was n now l added = elim (cases_lt (was + n) (2 ^ 64)) [
  | inl room ↦ let e : now ≡ was + n = added ∙ ap (λ b. if b then was + n else 2 ^ 64 - 1) (lt-ltb (was + n) (2 ^ 64) room) in (omega arith, omega arith)
  | inr full ↦ let e : now ≡ 2 ^ 64 - 1 = added ∙ ap (λ b. if b then was + n else 2 ^ 64 - 1) (le-ltb (was + n) (2 ^ 64) full) in (omega arith, omega arith)
]
