use Rattle.std.proofs.Common.{◌≡◌, ℕ, Bool, List, false, length, inl, inr, sym, ap, subst, ◌∙◌}
use Rattle.std.proofs.Math.ListN.{length-replicate}
use Rattle.map_model.specs.Market.{Market}
use Rattle.map_repair.specs.Marks.{AreReached, IsWithin, Marking, is_on}
use Rattle.map_repair.proofs.Marking.{marking_trans, none_on}
use Rattle.map_repair.proofs.Middle.{are_reached}
use Rattle.map_repair.proofs.reaching.reached.Goals as goal

pub spread-requires-clause-waiting : goal.spread-requires-clause-waiting
spread-requires-clause-waiting c = λ n on.
    let marking = marking_trans c.in_ok-marks.marks c.mark_capacities.new.marks c.mark_lowered.new.marks c.in_ok-mark_capacities.ensures.marking c.in_ok-mark_lowered.ensures.marking in
    elim (marking.came n on) [
      | inl was ↦ absurd (none_on c.nodes.result n (sym (ap (λ (a : Marking). is_on a.on n) c.in_ok-marks.ensures) ∙ was))
      | inr waits ↦ waits
    ]

pub returns : goal.returns
returns c =
    let m : Market = c.args.old.now in
    let start : (trees : ℕ → Bool) → IsWithin c.in_ok-marks.marks.on trees = λ trees n on. absurd (none_on c.nodes.result n (sym (ap (λ (a : Marking). is_on a.on n) c.in_ok-marks.ensures) ∙ on)) in
    let first = c.in_ok-mark_capacities.ensures in
    let second = c.in_ok-mark_lowered.ensures in
    let third = c.in_ok-spread.ensures in
    let size : length c.spread.new.marks.on ≡ length m.nodes = third.size ∙ second.marking.count ∙ first.marking.count ∙ ap (λ (a : Marking). length a.on) c.in_ok-marks.ensures ∙ length-replicate c.nodes.result false ∙ c.nodes.ensures.count in
    let made = are_reached m c.args.new.now c.args.state.now c.mark_capacities.new.marks.on c.mark_lowered.new.marks.on c.spread.new.marks.on c.requires.of_map size
    first.all (λ trees closed. first.within trees closed (start trees)) second.marking.kept second.all second.within third.kept third.closed third.within in
    subst (λ (ms : List Bool). AreReached m c.args.state.now.lines c.args.new.now ms) (sym c.into_marks.ensures) made
