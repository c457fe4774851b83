use Rattle.std.proofs.Common.{ℕ, sym, ◌∙◌, subst}
use Rattle.map_model.specs.Holding.{IsWorst}
use Rattle.offer_pool.specs.Table.{amount_in}
use Rattle.offer_pool.proofs.Views.{view_amount, view_form, view_none, view_worst}
use Rattle.offer_pool.proofs.held.Held.worst_under.Goals.{In-Some}
use Rattle.offer_pool.proofs.held.Held.worst_under.Goals as goal

worst : (c : In-Some) → IsWorst c.args.self.now.market c.args.self.now.lines c.args.node.0 c.in-Some.seat.group.0 c.in-Some.seat.place (amount_in c.self.inside.amounts.items c.in-Some.seat.group.0 c.in-Some.seat.place)
worst c = view_worst c.self.inside.lists c.self.inside.amounts.items c.self.inside.queues.items c.args.self.now c.args.node.0 c.index.result.now c.self.invariant c.self.view_is c.requires c.index.ensures c.in-Some.seat (sym c.in-Some.is ∙ c.worst.ensures.first) c.in-Some.ensures.worst

pub units-requires : goal.units-requires
units-requires c = (worst (goal.at.units-requires c).In-Some).offer

pub returns-in-Some-clause-worst : goal.returns-in-Some-clause-worst
returns-in-Some-clause-worst c =
    let s = c.in-Some.seat in
    let is = worst (goal.at.returns-in-Some-clause-worst c).In-Some in
    subst (λ (u : ℕ). IsWorst c.args.self.now.market c.args.self.now.lines c.args.node.0 s.group.0 s.place u)
    (view_amount c.self.inside.lists c.self.inside.amounts.items c.self.inside.queues.items c.args.self.now s.group.0 s.place c.self.invariant c.self.view_is is.offer ∙ sym c.units.ensures.units) is

pub returns-in-None-clause-worst : goal.returns-in-None-clause-worst
returns-in-None-clause-worst c = view_none c.self.inside.lists c.self.inside.amounts.items c.self.inside.queues.items c.args.self.now c.args.node.0 c.index.result.now c.self.invariant c.self.view_is c.requires c.index.ensures (sym c.in-None.is ∙ c.worst.ensures.first)

pub returns-in-None-clause-form : goal.returns-in-None-clause-form
returns-in-None-clause-form c = view_form c.self.inside.lists c.self.inside.amounts.items c.self.inside.queues.items c.args.self.now c.self.invariant c.self.view_is
