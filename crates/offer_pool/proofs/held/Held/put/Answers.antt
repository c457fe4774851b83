use Rattle.std.proofs.Common.{◌≡◌, ◌+◌, ℕ, List, slice_set, ap, sym, ◌∙◌, arith}
use Rattle.offer_pool.specs.Table.{amount_in, place_at}
use Rattle.offer_pool.proofs.Views.{form_again, on_ok_map, vec_back, view_amount, view_puts}
use Rattle.offer_pool.proofs.held.Held.put.Goals as goal

pub put_units-requires-clause-room : goal.put_units-requires-clause-room
put_units-requires-clause-room c =
    let g = c.args.offer.group.0 in
    let k = c.args.offer.place in
    let holds = view_amount c.self.inside.lists c.self.inside.amounts.items c.self.inside.queues.items c.args.self.now g k c.self.invariant c.self.view_is c.requires.offer in
    let same : amount_in c.as_mut_slice.result.now g k ≡ amount_in c.self.inside.amounts.items g k = ap (λ (l : List ℕ). amount_in l g k) c.as_mut_slice.ensures.value in
    omega (arith, holds, same, c.requires.room)

pub returns-clause-puts : goal.returns-clause-puts
returns-clause-puts c =
    let g = c.args.offer.group.0 in
    let k = c.args.offer.place in
    let a = c.self.inside.amounts.items in
    on_ok_map c.put_units.result _ _
    (λ set. view_puts c.self.inside.lists a c.put_units.new.amounts _ c.self.inside.queues.items c.args.self.now g k c.args.units c.self.invariant c.self.view_is c.requires.offer
    (vec_back c.self.inside.amounts.len c.put_units.new.amounts a (sym (c.put_units.auto.amounts ∙ c.as_mut_slice.ensures.len)))
    (set ∙ ap (λ (l : List ℕ). slice_set l (place_at g k) (amount_in l g k + c.args.units)) c.as_mut_slice.ensures.value))
    c.put_units.ensures.ok

pub returns-clause-form : goal.returns-clause-form
returns-clause-form c =
    form_again c.self.inside.lists c.put_units.new.amounts _ c.put_units.new.queues c.put_units.ensures.held
    (vec_back c.self.inside.amounts.len c.put_units.new.amounts c.self.inside.amounts.items (sym (c.put_units.auto.amounts ∙ c.as_mut_slice.ensures.len)))
