use Rattle.std.proofs.Common.{sym, ap, ◌∙◌, None, Some, ◌≡◌, get_or}
use Rattle.topology_text.specs.Walk.{first}
use Rattle.topology_text.specs.Values.{unknown}
use Rattle.topology_text.specs.declared.visited.TableAt.{TableAt}
use Rattle.topology_text.specs.Code.{visit}
use Rattle.topology_text.proofs.Firsts.{first_on_view, first_here_view, firsts_end_view}
use Rattle.topology_text.proofs.unknown.first_unknown.Goals as goal

pub loop-table-preserved : goal.loop-table-preserved
loop-table-preserved c =
    let table = c.table-item.result in
    let none : first (unknown (visit (get_or c.args.tables.now c.loop-table.table-index table))) ≡ None =
    ap (λ (t : TableAt). first (unknown (visit t))) (sym c.table-item.is) ∙ sym c.unknown_in.ensures ∙ c.in_default.is in
    sym (first_on_view visit unknown c.args.tables.now c.loop-table.table-index table c.loop-table-test.true none) ∙ c.loop-table.invariant

pub returns-in-Some : goal.returns-in-Some
returns-in-Some c =
    let table = c.table-item.result in
    let some : first (unknown (visit (get_or c.args.tables.now c.loop-table.table-index table))) ≡ Some c.in-Some.place =
    ap (λ (t : TableAt). first (unknown (visit t))) (sym c.table-item.is) ∙ sym c.unknown_in.ensures ∙ c.in-Some.is in
    sym (first_here_view visit unknown c.args.tables.now c.loop-table.table-index table c.in-Some.place c.loop-table-test.true some) ∙ c.loop-table.invariant

pub returns : goal.returns
returns c = firsts_end_view visit unknown c.args.tables.now c.loop-table.table-index c.loop-table-test.false c.loop-table.invariant
