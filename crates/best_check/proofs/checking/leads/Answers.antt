use Rattle.std.proofs.Common.{List, Option, length, subst, sym}
use Rattle.best_check.specs.declared.ranked.Ranked.{Ranked}
use Rattle.map_model.specs.Market.{Market}
use Rattle.best_check.specs.Tables.{AreNextAt, AreRanked, IsWhole}
use Rattle.best_check.proofs.Tables.{ranked_of_table, right_of_state}
use Rattle.best_check.proofs.checking.leads.Goals as goal

pub nexts_of-requires-clause-offers : goal.nexts_of-requires-clause-offers
nexts_of-requires-clause-offers c =
    let m : Market = c.args.instance.now in
    subst (AreRanked m) (sym c.as_slice.ensures.value) (ranked_of_table m c.args.state.now.lines (length m.groups) 0 c.in_ok-table.table.items c.in_ok-table.ensures)

pub leads_of-requires-clause-nexts : goal.leads_of-requires-clause-nexts
leads_of-requires-clause-nexts c =
    let m : Market = c.args.instance.now in
    let whole : IsWhole m c.args.state.now.lines c.in_ok-table.table.items = record { right = right_of_state m c.args.state.now c.requires.ready c.requires.past; best = c.in_ok-table.ensures } in
    subst (AreNextAt m c.args.state.now.lines) (sym c.as_slice-2.ensures.value) (c.in_ok-nexts.ensures.nexts c.args.state.now.lines (subst (λ (t : List (Option Ranked)). IsWhole m c.args.state.now.lines t) (sym c.as_slice.ensures.value) whole))
