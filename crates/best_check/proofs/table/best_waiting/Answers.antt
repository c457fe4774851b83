use Rattle.std.proofs.Common.{◌≡◌, length, None, replicate, arith, ap, ◌∙◌, subst, sym, rules}
use Rattle.best_check.specs.Tables.{IsTable}
use Rattle.best_check.proofs.Tables.{groups_done, table_of_none}
use Rattle.best_check.proofs.table.best_waiting.Goals as goal

pub loop-g-init : goal.loop-g-init
loop-g-init c =
    let none : c.in_ok-table.table.items ≡ replicate (length c.args.instance.now.nodes) None = c.in_ok-table.ensures.items_if_clones_equal (λ y e. search rules) ∙ ap (λ n. replicate n None) c.nodes.ensures.count in
    subst (IsTable c.args.instance.now c.args.state.now.lines 0 0) (sym none) (table_of_none c.args.instance.now c.args.state.now.lines)

pub returns : goal.returns
returns c = groups_done c.args.instance.now c.args.state.now.lines c.loop-g.g c.loop-g.table.items (omega (arith, c.loop-g-test.false, c.groups-g-end.ensures.count)) c.loop-g.invariant
