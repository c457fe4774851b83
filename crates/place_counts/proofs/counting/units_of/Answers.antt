use Rattle.std.proofs.Common.{sym, arith}
use Rattle.map_model.proofs.Units.{amount-le-placed}
use Rattle.evict.proofs.Settled.{small_demand}
use Rattle.place_counts.proofs.Counts.{none_at_end}
use Rattle.place_counts.proofs.counting.units_of.Goals as goal

pub returns-then-place-list_len-clause-small : goal.returns-then-place-list_len-clause-small
returns-then-place-list_len-clause-small c =
    let g = c.args.group.0 in
    omega (arith, c.units.ensures, amount-le-placed c.args.state.now.lines g c.args.place, c.requires.ready.resumable.totals g c.requires.group, small_demand c.args.instance.now c.requires.ready.market g c.requires.group)

pub returns-else-place-list_len-clause-units : goal.returns-else-place-list_len-clause-units
returns-else-place-list_len-clause-units c = sym (none_at_end c.args.instance.now c.args.state.now.lines c.args.group.0 c.args.place c.requires.ready.resumable.form (omega (arith, c.if-place-list_len.false, c.list_len.ensures)))
