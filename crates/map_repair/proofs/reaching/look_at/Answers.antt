use Rattle.std.proofs.Common.{◌≡◌, ◌<◌, List, length, Contains, slice_index, slice_index_or, inl, inr, refl, sym, ap, subst, ◌∙◌, arith}
use Rattle.std.proofs.lemmas.Bool.{cases_eq}
use Rattle.std.proofs.lemmas.List.{get_or_default}
use Rattle.map_model.specs.declared.instance.Offer.{Offer}
use Rattle.map_model.specs.Market.{Market}
use Rattle.map_model.specs.Progress.{tree_of}
use Rattle.move_up.specs.Asked.{listed_at, offer_of}
use Rattle.map_repair.specs.Marks.{AreMarkedTo, HoldsInMarked}
use Rattle.move_up.proofs.Listing.{listed_there}
use Rattle.map_repair.proofs.Marking.{marking_none, marking_trans, settled_whole}
use Rattle.map_repair.proofs.reaching.look_at.Goals as goal

pub loop-offer-init : goal.loop-offer-init
loop-offer-init c = record { marking = marking_none c.args.marks.now; groups = refl; done = c.requires.done; ahead = c.requires.ahead; marked = c.requires.marked; followed = λ i o l. absurd (omega (arith, l)); within = λ trees all on within. within }

pub returns-then-ahead-nodes-clause-settled : goal.returns-then-ahead-nodes-clause-settled
returns-then-ahead-nodes-clause-settled c =
    let m : Market = c.args.followed.now.old.now in
    settled_whole m c.args.followed.now.state.now c.loop-offer.marks.on c.args.root.0 c.requires.ready.market (subst (AreMarkedTo m c.loop-offer.marks.on) (c.if-ahead-nodes.true ∙ c.nodes.ensures.count) c.loop-offer.invariant.marked)

pub follow-requires-clause-offer : goal.follow-requires-clause-offer
follow-requires-clause-offer c =
    let d : Offer = record { group = record { 0 = 0 }; place = 0 } in
    let items : List Offer = c.in_tree-offer-items.result.now in
    c.requires.asked.offers c.args.root.0 (slice_index_or items c.loop-offer.offer-index d) (listed_there c.args.followed.now.asked.now items c.args.root.0 c.loop-offer.offer-index d c.in_tree-offer-items.ensures c.loop-offer-test.true)

pub loop-offer-preserved : goal.loop-offer-preserved
loop-offer-preserved c =
    let m : Market = c.args.followed.now.old.now in
    let s = c.args.followed.now.state.now in
    let d : Offer = record { group = record { 0 = 0 }; place = 0 } in
    let items : List Offer = c.in_tree-offer-items.result.now in
    let lists = c.args.followed.now.asked.now in
    let root = c.args.root.0 in
    let at = c.loop-offer.offer-index in
    let offer : Offer = slice_index_or items at d in
    let there : Contains (listed_at lists root) offer = listed_there lists items root at d c.in_tree-offer-items.ensures c.loop-offer-test.true in
    let i = c.loop-offer.invariant in
    let e = c.in_ok-follow.ensures in
    record {
      marking = marking_trans c.args.marks.now c.loop-offer.marks c.follow.new.marks i.marking e.marking;
      groups = c.follow.auto.done ∙ i.groups;
      done = e.done;
      ahead = e.ahead;
      marked = e.marked;
      followed = λ j o l is before. elim (cases_eq j at) [
        | inl same ↦
            let here : slice_index_or (listed_at lists root) at o ≡ o = subst (λ x. slice_index_or (listed_at lists root) x o ≡ o) same is in
            let listed : slice_index_or items at o ≡ o = ap (λ (xs : List Offer). slice_index_or xs at o) c.in_tree-offer-items.ensures ∙ here in
            let alike : offer ≡ o = sym (get_or_default items at o d c.loop-offer-test.true) ∙ listed in
            subst (λ (x : Offer). x.place < slice_index s.pointers x.group.0 → HoldsInMarked m s.lines c.follow.new.marks.on x.group.0) alike e.followed before
        | inr apart ↦ λ k ok some. e.marking.kept (tree_of m o.group.0 k) (i.followed j o (omega (arith, l, apart)) is before k ok some)
      ];
      within = λ trees all here within. e.within trees (all offer.group.0 (c.requires.asked.offers root offer there).group) (ap trees (c.requires.asked.trees root offer there) ∙ here) (i.within trees all here within);
    }

pub returns-clause-settled : goal.returns-clause-settled
returns-clause-settled c = λ g k o at before.
    let there : Contains (listed_at c.args.followed.now.asked.now c.args.root.0) (offer_of g k) = subst (λ x. Contains (listed_at c.args.followed.now.asked.now x) (offer_of g k)) at (c.requires.asked.listed g k o tt) in
    c.loop-offer.invariant.followed there.0 (offer_of g k) (omega (arith, there.1, ap (λ (xs : List Offer). length xs) c.in_tree-offer-items.ensures, c.loop-offer-test.false)) there.2 before
