use Rattle.std.proofs.Common.{sym, ap, ◌∙◌}
use Rattle.map_model.specs.declared.instance.Key.{Key}
use Rattle.map_model.specs.Market.{Market}
use Rattle.map_model.specs.Allocation.{key_le}
use Rattle.deferred_accept.proofs.Barred.{refuses_all, refuses_worst}
use Rattle.deferred_accept.proofs.bars.refused_from.Goals as goal

pub returns-in-Some : goal.returns-in-Some
returns-in-Some c = λ key.
    let m : Market = c.args.instance.now in
    let ready = c.requires.ready in
    refuses_worst c.args.state.now.market m ready.shape c.args.state.now.lines ready.resumable.form c.args.node.0 c.in-Some.offer.group.0 c.in-Some.offer.place c.in-Some._units c.in-Some.ensures key
    ∙ ap (λ (x : Key). key_le x key) (sym c.key.ensures)

pub returns-in-None : goal.returns-in-None
returns-in-None c = λ key.
    let m : Market = c.args.instance.now in
    let ready = c.requires.ready in
    refuses_all c.args.state.now.market m ready.shape c.args.state.now.lines ready.resumable.form c.args.node.0 c.in-None.ensures key
