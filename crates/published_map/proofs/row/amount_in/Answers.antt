use Rattle.std.proofs.Common.{arith, get_or}
use Rattle.std.proofs.lemmas.List.Sums.{sum_by_more, sum_by_more_le_part}
use Rattle.published_map.proofs.Sums.{at_place, part_le}
use Rattle.published_map.proofs.row.amount_in.Goals as goal

pub overflow_add-units : goal.overflow_add-units
overflow_add-units c =
    let h = sum_by_more_le_part (at_place c.args.place) (λ a. a.1) c.args.own.now c.loop-pair.pair-index (0, 0) (omega arith) (part_le c.args.place) in
    let p = part_le c.args.place (get_or c.args.own.now c.loop-pair.pair-index (0, 0)) in
    omega (arith, c.requires, c.loop-pair.invariant, c.units_in-units.ensures, h, p)

pub loop-pair-preserved : goal.loop-pair-preserved
loop-pair-preserved c = omega (arith, c.loop-pair.invariant, c.units_in-units.ensures, sum_by_more (at_place c.args.place) c.args.own.now c.loop-pair.pair-index (0, 0) (omega arith))
