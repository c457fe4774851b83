use Rattle.std.proofs.Common.{sym, ap, ◌∙◌, None, Some, ◌≡◌, get_or}
use Rattle.topology_text.specs.Walk.{first, places_in}
use Rattle.topology_text.specs.declared.visited.TableAt.{TableAt}
use Rattle.topology_text.specs.Code.{visit}
use Rattle.topology_text.proofs.Firsts.{first_on_view, first_here_view, firsts_end_view}
use Rattle.topology_text.proofs.rule.first_by.Goals as goal

pub loop-table-preserved : goal.loop-table-preserved
loop-table-preserved g c =
    let found = places_in (g.R.Rule.finds c.args.rule.now) in
    let table = c.table-item.result in
    let none : first (found (visit (get_or c.args.tables.now c.loop-table.table-index table))) ≡ None =
    ap (λ (t : TableAt). first (found (visit t))) (sym c.table-item.is) ∙ sym c.first_in.ensures ∙ c.in_default.is in
    sym (first_on_view visit found c.args.tables.now c.loop-table.table-index table c.loop-table-test.true none) ∙ c.loop-table.invariant

pub returns-in-Some : goal.returns-in-Some
returns-in-Some g c =
    let found = places_in (g.R.Rule.finds c.args.rule.now) in
    let table = c.table-item.result in
    let some : first (found (visit (get_or c.args.tables.now c.loop-table.table-index table))) ≡ Some c.in-Some.place =
    ap (λ (t : TableAt). first (found (visit t))) (sym c.table-item.is) ∙ sym c.first_in.ensures ∙ c.in-Some.is in
    sym (first_here_view visit found c.args.tables.now c.loop-table.table-index table c.in-Some.place c.loop-table-test.true some) ∙ c.loop-table.invariant

pub returns : goal.returns
returns g c = firsts_end_view visit (places_in (g.R.Rule.finds c.args.rule.now)) c.args.tables.now c.loop-table.table-index c.loop-table-test.false c.loop-table.invariant
