use Rattle.std.proofs.Common.{◌≡◌, ◌∷◌, slice_index, sym, ap, ◌∙◌, arith}
use Rattle.std.specs.List.Sorted.{IsPermutation}
use Rattle.std.proofs.lemmas.Option.{MatchOption-at_some}
use Rattle.offer_pool.specs.declared.queue.Seat.{Seat}
use Rattle.offer_pool.specs.Table.{amount_in}
use Rattle.offer_pool.proofs.Queues.{Contains-first, Contains-left, Contains-without}
use Rattle.offer_pool.proofs.filing.clean.Goals as goal

pub bounds-amounts-place_at : goal.bounds-amounts-place_at
bounds-amounts-place_at c =
    let there = c.loop-seat.invariant.there c.in-Some.seat (Contains-first c.loop-seat.queue c.in-Some.seat (sym c.worst.ensures.first ∙ c.in-Some.is)) in
    omega (arith, c.place_at.ensures, there)

pub loop-seat-preserved : goal.loop-seat-preserved
loop-seat-preserved c =
    let q = c.loop-seat.queue in
    let new = c.pop.new.self in
    let seat = c.in-Some.seat in
    let took : c.pop.result ≡ _ = c.pop.ensures.first ∙ sym c.worst.ensures.first ∙ c.in-Some.is in
    let p : IsPermutation q (seat ∷ new) = MatchOption-at_some _ (λ (w : Seat). IsPermutation q (w ∷ new)) seat took c.pop.ensures.some in
    record {
      there = λ s h. c.loop-seat.invariant.there s (Contains-left q new seat s p h);
      kept = λ s h live. Contains-without q new seat s p (c.loop-seat.invariant.kept s h live) (λ e.
          let gone : amount_in c.args.amounts.now s.group.0 s.place ≡ amount_in c.args.amounts.now seat.group.0 seat.place = ap (λ (x : Seat). amount_in c.args.amounts.now x.group.0 x.place) e in
          let at : slice_index c.args.amounts.now c.place_at.result ≡ amount_in c.args.amounts.now seat.group.0 seat.place = ap (λ k. slice_index c.args.amounts.now k) c.place_at.ensures in
          omega (arith, gone, at, live, c.if-amounts-place_at-gt0.false));
      from = λ s h. c.loop-seat.invariant.from s (Contains-left q new seat s p h);
    }
