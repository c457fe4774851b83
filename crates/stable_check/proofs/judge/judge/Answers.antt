use Rattle.std.proofs.Common.{◌∙◌, arith}
use Rattle.map_model.proofs.MapForm.{length-AreLines, offers-AreLines}
use Rattle.stable_check.proofs.Needs.{places_made, tallies_made, within}
use Rattle.stable_check.proofs.judge.judge.Goals as goal

pub tally_groups-requires-clause-few : goal.tally_groups-requires-clause-few
tally_groups-requires-clause-few g c = length-AreLines c.args.instance.now c.groups-groups.ensures.market c.as_slice-lines.result.now c.in_default.ensures

pub tally_groups-requires-clause-groups : goal.tally_groups-requires-clause-groups
tally_groups-requires-clause-groups g c = λ k d l. omega (arith, (offers-AreLines c.args.instance.now c.as_slice-lines.result.now c.in_default.ensures k d l).group, c.requires.1.0)

pub tally_loads-requires-clause-few : goal.tally_loads-requires-clause-few
tally_loads-requires-clause-few g c = length-AreLines c.args.instance.now c.groups-groups.ensures.market c.as_slice-lines.result.now c.in_default.ensures

pub tally_loads-requires-clause-lines : goal.tally_loads-requires-clause-lines
tally_loads-requires-clause-lines g c = offers-AreLines c.args.instance.now c.as_slice-lines.result.now c.in_default.ensures

pub tally_worst-requires-clause-lines : goal.tally_worst-requires-clause-lines
tally_worst-requires-clause-lines g c = offers-AreLines c.args.instance.now c.as_slice-lines.result.now c.in_default.ensures

pub tally_places-requires-clause-few : goal.tally_places-requires-clause-few
tally_places-requires-clause-few g c = length-AreLines c.args.instance.now c.groups-groups.ensures.market c.as_slice-lines.result.now c.in_default.ensures

pub tally_places-requires-clause-places : goal.tally_places-requires-clause-places
tally_places-requires-clause-places g c = λ k d l.
    within c.args.instance.now c.groups-groups.ensures.market _ _ _ (offers-AreLines c.args.instance.now c.as_slice-lines.result.now c.in_default.ensures k d l) c.requires.1.1.0

pub first_over_limit-requires : goal.first_over_limit-requires
first_over_limit-requires g c = (
  c.groups-groups.ensures.market,
  places_made c.args.instance.now c.groups-groups.ensures.market c.as_slice-lines.result.now g.held (c.as_slice-lines.ensures.value ∙ c.requires.0) c.in_default.ensures c.tally_places.new.amounts (c.tally_places.auto.amounts ∙ c.requires.1.1.0) c.tally_places.ensures.each c.tally_places.ensures.small,
)

pub first_blocking-requires : goal.first_blocking-requires
first_blocking-requires g c =
    let r = c.requires in
    tallies_made c.args.instance.now c.groups-groups.ensures.market c.as_slice-lines.result.now g.held (c.as_slice-lines.ensures.value ∙ r.0) c.in_default.ensures c.tally_places.new.amounts c.tally_loads.new.loads c.tally_worst.new.worst
    (c.tally_places.auto.amounts ∙ r.1.1.0) (c.tally_loads.auto.loads ∙ r.1.1.1.0) (c.tally_worst.auto.worst ∙ r.1.1.1.1)
    c.tally_places.ensures.each c.tally_places.ensures.small c.tally_loads.ensures c.tally_worst.ensures

pub first_bad_name-requires : goal.first_bad_name-requires
first_bad_name-requires g c =
    let r = c.requires in
    tallies_made c.args.instance.now c.groups-groups.ensures.market c.as_slice-lines.result.now g.held (c.as_slice-lines.ensures.value ∙ r.0) c.in_default.ensures c.tally_places.new.amounts c.tally_loads.new.loads c.tally_worst.new.worst
    (c.tally_places.auto.amounts ∙ r.1.1.0) (c.tally_loads.auto.loads ∙ r.1.1.1.0) (c.tally_worst.auto.worst ∙ r.1.1.1.1)
    c.tally_places.ensures.each c.tally_places.ensures.small c.tally_loads.ensures c.tally_worst.ensures
