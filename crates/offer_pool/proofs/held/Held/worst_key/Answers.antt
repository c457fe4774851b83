use Rattle.std.proofs.Common.{sym, ◌∙◌, subst}
use Rattle.map_model.specs.Holding.{IsWorstKey}
use Rattle.map_model.specs.declared.instance.Key.{Key}
use Rattle.offer_pool.proofs.Views.{view_form, view_key, view_none}
use Rattle.offer_pool.proofs.held.Held.worst_key.Goals as goal

pub returns-in-Some-clause-worst : goal.returns-in-Some-clause-worst
returns-in-Some-clause-worst c =
    subst (λ (key : Key). IsWorstKey c.args.self.now.market c.args.self.now.lines c.args.node.0 key) (sym c.key.ensures)
    (view_key c.self.inside.lists c.self.inside.amounts.items c.self.inside.queues.items c.args.self.now c.args.node.0 c.index.result.now c.self.invariant c.self.view_is c.requires c.index.ensures c.in-Some.seat (sym c.in-Some.is ∙ c.worst.ensures.first) c.in-Some.ensures.worst)

pub returns-in-None-clause-worst : goal.returns-in-None-clause-worst
returns-in-None-clause-worst c = view_none c.self.inside.lists c.self.inside.amounts.items c.self.inside.queues.items c.args.self.now c.args.node.0 c.index.result.now c.self.invariant c.self.view_is c.requires c.index.ensures (sym c.in-None.is ∙ c.worst.ensures.first)

pub returns-in-None-clause-form : goal.returns-in-None-clause-form
returns-in-None-clause-form c = view_form c.self.inside.lists c.self.inside.amounts.items c.self.inside.queues.items c.args.self.now c.self.invariant c.self.view_is

pub returns-in-Some-clause-form : goal.returns-in-Some-clause-form
returns-in-Some-clause-form c = view_form c.self.inside.lists c.self.inside.amounts.items c.self.inside.queues.items c.args.self.now c.self.invariant c.self.view_is
