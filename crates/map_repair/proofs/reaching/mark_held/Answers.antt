use Rattle.std.proofs.Common.{◌<◌, inl, inr, ap, subst, ◌∙◌, arith}
use Rattle.std.proofs.lemmas.Bool.{cases_eq}
use Rattle.map_model.specs.Market.{Market}
use Rattle.map_model.specs.Allocation.{IsOffer, amount_at}
use Rattle.map_model.specs.Progress.{tree_of}
use Rattle.map_repair.specs.Marks.{is_on}
use Rattle.map_repair.proofs.Marking.{marking_none, marking_trans}
use Rattle.map_repair.proofs.reaching.mark_held.Goals as goal

pub loop-place-init : goal.loop-place-init
loop-place-init c = record { marking = marking_none c.args.marks.now; held = λ k l. absurd (omega (arith, l)); within = λ trees all within. within }

pub loop-place-preserved : goal.loop-place-preserved
loop-place-preserved c =
    let m : Market = c.args.old.now in
    let i = c.loop-place.invariant in
    let e = c.in_ok-mark_offer.ensures in
    let g = c.args.group.0 in
    let p = c.loop-place.place in
    let o : IsOffer m g p = record { group = c.requires.group; place = omega (arith, c.loop-place-test.true, c.list_len-place-end.ensures) } in
    record {
      marking = marking_trans c.args.marks.now c.loop-place.marks c.mark_offer.new.marks i.marking e.marking;
      held = λ k l ok some. elim (cases_eq k p) [
        | inl same ↦ ap (λ x. is_on c.mark_offer.new.marks.on (tree_of m g x)) same ∙ e.held (subst (λ x. 0 < amount_at c.args.state.now.lines g x) same some)
        | inr apart ↦ e.marking.kept (tree_of m g k) (i.held k (omega (arith, l, apart)) ok some)
      ];
      within = λ trees all within. e.within trees (λ some. all p o some) (i.within trees all within);
    }

pub returns-clause-held : goal.returns-clause-held
returns-clause-held c = λ k o some. c.loop-place.invariant.held k (omega (arith, o.place, c.loop-place-test.false, c.list_len-place-end.ensures)) o some
