use Rattle.std.proofs.Common.{◌≡◌, ◌⊎◌, ℕ, List, true, false, slice_set, Contains, inl, inr, sym, ap, ◌∙◌, subst, refl}
use Rattle.map_model.specs.declared.instance.NodeId.{NodeId}
use Rattle.offer_pool.specs.declared.queue.Seat.{Seat}
use Rattle.offer_pool.specs.Seats.{KeepsFirst}
use Rattle.offer_pool.specs.Table.{place_at}
use Rattle.offer_pool.specs.Filed.{queue_at}
use Rattle.offer_pool.proofs.Queues.{is_among}
use Rattle.offer_pool.proofs.Refiled.{ArePushed, held_again, live_came, on_not_err, others-set, pushed_seats, seat_place, table-set}
use Rattle.offer_pool.proofs.table.seat_units.Goals.{After-push_all}
use Rattle.offer_pool.proofs.table.seat_units.Goals as goal

pushed : (c : After-push_all) → ArePushed c.args.lists.now c.args.queues.now c.push_all.new.queues c.args.offer.group.0 c.args.offer.place c.nodes_above-nodes.result.items
pushed c = record {
  offer = c.requires.offer;
  among = c.nodes_above-nodes.ensures.among;
  kept = c.push_all.ensures.kept;
  from = λ n s h. subst (λ (t : Seat). Contains (queue_at c.args.queues.now n) s ⊎ (s ≡ t)) c.seat_of.ensures (c.push_all.ensures.from n s h);
  others = λ n h. c.push_all.ensures.others n (subst (λ (ns : List NodeId). is_among n ns ≡ false) (sym c.as_slice.ensures.value) h);
}

pub clean_all-requires-clause-seats : goal.clean_all-requires-clause-seats
clean_all-requires-clause-seats c = λ n s h.
    seat_place c.args.lists.now c.args.amounts.now n s c.requires.held.market c.requires.held.table
    (pushed_seats c.args.lists.now c.args.amounts.now _ _ _ _ _ c.requires.held.filing (pushed (goal.at.clean_all-requires-clause-seats c).After-push_all) n s h)

-- the offer is filed in vain, and the queues are cleaned
pub returns-then-is_err-clause-held : goal.returns-then-is_err-clause-held
returns-then-is_err-clause-held c =
    let same = c.as_slice-then-is_err.ensures.value in
    held_again c.args.lists.now c.args.amounts.now c.args.amounts.now c.args.queues.now c.push_all.new.queues c.clean_all.new.queues c.args.offer.group.0 c.args.offer.place c.nodes_above-nodes.result.items c.requires.held c.requires.held.table (record {
      pushed = pushed (goal.at.returns-then-is_err-clause-held c).After-push_all;
      count = c.clean_all.auto.queues ∙ c.push_all.auto.queues;
      stays = λ h j other ne. refl;
      filed = λ some. inl some;
      kept = c.clean_all.ensures.kept;
      from = c.clean_all.ensures.from;
      live = λ n h. c.clean_all.ensures.live n (subst (λ (ns : List NodeId). is_among n ns ≡ true) (sym same) h);
      others = λ n h. c.clean_all.ensures.others n (subst (λ (ns : List NodeId). is_among n ns ≡ false) (sym same) h);
    })

-- the offer is filed and holds the units, so no queue wants cleaning
pub returns-clause-held : goal.returns-clause-held
returns-clause-held c =
    let m = c.args.lists.now in
    let g = c.args.offer.group.0 in
    let k = c.args.offer.place in
    let a = c.args.amounts.now in
    let b = slice_set a c.place_at.result c.args.units in
    let is : b ≡ slice_set a (place_at g k) c.args.units = ap (λ (p : ℕ). slice_set a p c.args.units) c.place_at.ensures in
    let q0 = c.args.queues.now in
    let q1 = c.push_all.new.queues in
    let not_err = sym c.is_err.ensures.value ∙ c.if-is_err.false in
    held_again m a b q0 q1 q1 g k c.nodes_above-nodes.result.items c.requires.held (table-set m a b c.requires.held.market c.requires.held.table g k c.args.units c.requires.offer is) (record {
      pushed = pushed (goal.at.returns-clause-held c).After-push_all;
      count = c.push_all.auto.queues;
      stays = others-set m c.requires.held.market a b g k c.args.units c.requires.offer is;
      filed = λ some. inr (λ n h. subst (λ (t : Seat). Contains (queue_at q1 n) t) c.seat_of.ensures
          (on_not_err c.push_all.result _ not_err c.push_all.ensures.filed n (subst (λ (ns : List NodeId). is_among n ns ≡ true) (sym c.as_slice.ensures.value) h)));
      kept = λ n s h some. h;
      from = λ n s h. h;
      live = λ n h. live_came m c.requires.held.market a b c.requires.held.table g k c.args.units c.requires.offer c.requires.some is (queue_at q0 n) (queue_at q1 n)
          (subst (λ (t : Seat). KeepsFirst t (queue_at q0 n) (queue_at q1 n)) c.seat_of.ensures (on_not_err c.push_all.result _ not_err c.push_all.ensures.first n)) (c.requires.held.filing.live n);
      others = λ n h. refl;
    })
