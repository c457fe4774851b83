use Rattle.std.proofs.Common.{◌≡◌, ◌-◌, ℕ, List, slice_set, ap, sym, ◌∙◌, arith}
use Rattle.offer_pool.specs.Table.{amount_in, place_at}
use Rattle.offer_pool.proofs.Views.{form_again, vec_back, view_amount, view_takes}
use Rattle.offer_pool.proofs.held.Held.take.Goals as goal

pub take_units-requires-clause-enough : goal.take_units-requires-clause-enough
take_units-requires-clause-enough c =
    let g = c.args.offer.group.0 in
    let k = c.args.offer.place in
    let holds = view_amount c.self.inside.lists c.self.inside.amounts.items c.self.inside.queues.items c.args.self.now g k c.self.invariant c.self.view_is c.requires.offer in
    let same : amount_in c.as_mut_slice.result.now g k ≡ amount_in c.self.inside.amounts.items g k = ap (λ (l : List ℕ). amount_in l g k) c.as_mut_slice.ensures.value in
    omega (arith, holds, same, c.requires.held)

pub returns-clause-takes : goal.returns-clause-takes
returns-clause-takes c =
    let g = c.args.offer.group.0 in
    let k = c.args.offer.place in
    let a = c.self.inside.amounts.items in
    let holds = view_amount c.self.inside.lists a c.self.inside.queues.items c.args.self.now g k c.self.invariant c.self.view_is c.requires.offer in
    view_takes c.self.inside.lists a c.take_units.new.amounts _ c.self.inside.queues.items c.args.self.now g k c.args.units c.self.invariant c.self.view_is c.requires.offer (omega (arith, holds, c.requires.held))
    (vec_back c.self.inside.amounts.len c.take_units.new.amounts a (sym (c.take_units.auto.amounts ∙ c.as_mut_slice.ensures.len)))
    (c.take_units.ensures.taken ∙ ap (λ (l : List ℕ). slice_set l (place_at g k) (amount_in l g k - c.args.units)) c.as_mut_slice.ensures.value)

pub returns-clause-form : goal.returns-clause-form
returns-clause-form c =
    form_again c.self.inside.lists c.take_units.new.amounts _ c.take_units.new.queues c.take_units.ensures.held
    (vec_back c.self.inside.amounts.len c.take_units.new.amounts c.self.inside.amounts.items (sym (c.take_units.auto.amounts ∙ c.as_mut_slice.ensures.len)))
