use Rattle.std.proofs.Common.{◌≡◌, ◌-◌, ℕ, List, true, false, length-set, slice_index, slice_set, inl, sym, ap, ◌∙◌, subst, arith, refl}
use Rattle.map_model.specs.declared.instance.NodeId.{NodeId}
use Rattle.map_model.specs.Market.{Market}
use Rattle.offer_pool.specs.Table.{amount_in, place_at}
use Rattle.offer_pool.proofs.Queues.{is_among}
use Rattle.offer_pool.proofs.Refiled.{amount-set, held_again, others-set, place_there, seat_place, table-set}
use Rattle.offer_pool.proofs.table.take_units.Goals as goal

pub clean_all-requires-clause-seats : goal.clean_all-requires-clause-seats
clean_all-requires-clause-seats c = λ n s h.
    let there = seat_place c.args.lists.now c.args.amounts.now n s c.requires.held.market c.requires.held.table (c.requires.held.filing.seats n s h) in
    omega (arith, there, length-set c.args.amounts.now c.place_at-at.result (slice_index c.args.amounts.now c.place_at-at.result - c.args.units))

pub returns-clause-held : goal.returns-clause-held
returns-clause-held c =
    let m : Market = c.args.lists.now in
    let g = c.args.offer.group.0 in
    let k = c.args.offer.place in
    let a = c.args.amounts.now in
    let v = slice_index a c.place_at-at.result - c.args.units in
    let b = slice_set a c.place_at-at.result v in
    let is : b ≡ slice_set a (place_at g k) v = ap (λ (p : ℕ). slice_set a p v) c.place_at-at.ensures in
    let nodes = c.nodes_above-above.result.items in
    let same = c.as_slice.ensures.value in
    let was : slice_index a c.place_at-at.result ≡ amount_in a g k = ap (λ (p : ℕ). slice_index a p) c.place_at-at.ensures in
    held_again m a b c.args.queues.now c.args.queues.now c.clean_all.new.queues g k nodes c.requires.held (table-set m a b c.requires.held.market c.requires.held.table g k v c.requires.offer is) (record {
      pushed = record { offer = c.requires.offer; among = c.nodes_above-above.ensures.among; kept = λ n s h. h; from = λ n s h. inl h; others = λ n h. refl };
      count = c.clean_all.auto.queues;
      stays = others-set m c.requires.held.market a b g k v c.requires.offer is;
      filed = λ some. inl (let now : amount_in b g k ≡ v = ap (λ (l : List ℕ). amount_in l g k) is ∙ amount-set a g k v (place_there m a c.requires.held.market c.requires.held.table g k c.requires.offer) in omega (arith, now, was, some));
      kept = c.clean_all.ensures.kept;
      from = c.clean_all.ensures.from;
      live = λ n h. c.clean_all.ensures.live n (subst (λ (ns : List NodeId). is_among n ns ≡ true) (sym same) h);
      others = λ n h. c.clean_all.ensures.others n (subst (λ (ns : List NodeId). is_among n ns ≡ false) (sym same) h);
    })
