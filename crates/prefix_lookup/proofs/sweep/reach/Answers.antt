use Rattle.std.proofs.Common.{◌≡◌, ◌+◌, ◌-◌, length, sym, subst, arith, inl, inr}
use Rattle.std.proofs.lemmas.Bool.{cases_lt}
use Rattle.prefix_lookup.specs.Sweep.{AllLongest, stop_of}
use Rattle.prefix_lookup.proofs.Ends.{nothing_before, reached}
use Rattle.prefix_lookup.proofs.sweep.reach.Goals as goal

pub returns-in_ok-cover-clause-swept : goal.returns-in_ok-cover-clause-swept
returns-in_ok-cover-clause-swept c = λ family table blocks i t are swept lt is on.
    let some = c.if-first-gt0.true in
    let stop = c.in_ok-cover.ensures.stop in
    let upto : c.args.first - 1 + 1 ≡ c.args.first = omega arith in
    reached family table blocks c.args.opened.now i c.args.first c.args.ranges.now c.cover.new.ranges c.in-Some.block t are swept lt is on c.in-Some.ensures.0 (sym c.in-Some.ensures.1) (omega arith)
    (λ all. c.in_ok-cover.ensures.covers family table swept.covers (subst (AllLongest family table c.in-Some.block (stop_of c.args.ranges.now)) (sym upto) all))

pub returns-in_default-clause-swept : goal.returns-in_default-clause-swept
returns-in_default-clause-swept c = λ family table blocks i t are swept lt is on.
    nothing_before family table blocks c.args.opened.now i c.args.first c.args.ranges.now t are swept lt is (elim (cases_lt 0 (length c.args.opened.now)) [ inl some ↦ absurd (c.in_default.ensures some) | inr none ↦ inl (omega arith) ])
