use Rattle.std.proofs.Common.{ℕ, slice_index, ap, ◌∙◌, arith}
use Rattle.std.proofs.lemmas.List.{get_or_default}
use Rattle.offer_pool.proofs.Refiled.{place_there}
use Rattle.offer_pool.proofs.Views.{view_amount, view_form, view_offer}
use Rattle.offer_pool.proofs.held.Held.units.Goals as goal

pub returns-clause-units : goal.returns-clause-units
returns-clause-units c =
    let m = c.self.inside.lists in
    let a = c.self.inside.amounts.items in
    let g = c.args.offer.group.0 in
    let k = c.args.offer.place in
    let there = place_there m a c.self.invariant.market c.self.invariant.table g k (view_offer m a c.args.self.now g k c.self.view_is c.requires) in
    c.from.ensures ∙ c.index.ensures ∙ get_or_default a c.place_at.result c.index.result.now 0 (omega (arith, there, c.place_at.ensures)) ∙ ap (λ (p : ℕ). slice_index a p) c.place_at.ensures
    ∙ view_amount m a c.self.inside.queues.items c.args.self.now g k c.self.invariant c.self.view_is c.requires

pub returns-clause-form : goal.returns-clause-form
returns-clause-form c = view_form c.self.inside.lists c.self.inside.amounts.items c.self.inside.queues.items c.args.self.now c.self.invariant c.self.view_is
