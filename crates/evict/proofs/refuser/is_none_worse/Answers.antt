use Rattle.std.proofs.Common.{◌≡◌, sym, ◌∙◌, rules}
use Rattle.map_model.specs.Allocation.{key_le}
use Rattle.evict.proofs.Worst.{worst_key, worst_none}
use Rattle.evict.proofs.refuser.is_none_worse.Goals as goal

pub returns-in-Some : goal.returns-in-Some
returns-in-Some c =
    let value : c.le.result ≡ key_le c.in-Some.worst c.args.key = search rules in
    value ∙ sym (worst_key c.args.held.now.market c.args.instance.now c.requires.shape c.args.held.now.lines c.args.node.0 c.in-Some.worst c.args.key c.in-Some.ensures.form c.in-Some.ensures.worst)

pub returns-in-None : goal.returns-in-None
returns-in-None c = sym (worst_none c.args.held.now.market c.args.instance.now c.requires.shape c.args.held.now.lines c.args.node.0 c.args.key c.in-None.ensures.form c.in-None.ensures.worst)
