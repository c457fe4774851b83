use Rattle.std.proofs.Common.{arith}
use Rattle.map_model.proofs.MapForm.{few_places}
use Rattle.map_model.specs.Allocation.{IsOffer}
use Rattle.stable_check.proofs.scans.first_over_limit_place.Goals as goal

pub bounds-amounts-group : goal.bounds-amounts-group
bounds-amounts-group g c =
    let offer : IsOffer c.args.instance.now c.args.group.0 c.loop-place.place = record { group = c.requires.1.0; place = omega arith } in
    omega (arith, few_places c.args.instance.now c.requires.0 c.args.group.0 c.loop-place.place offer, c.requires.1.0, c.requires.1.1.size)
