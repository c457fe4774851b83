use Rattle.std.proofs.Common.{◌≡◌, length, ◌∙◌}
use Rattle.std.specs.Arc.{arc_value}
use Rattle.std.proofs.lemmas.List.FromFn.{length-map-range_with_len}
use Rattle.map_model.specs.Market.{capacity_of}
use Rattle.map_model.proofs.NameForm.{IsMapForm-IsGood}
use Rattle.published_map.specs.Shared.{plan_of}
use Rattle.published_map.specs.Rows.{capacities_of, row_of, rows_of, version_of}
use Rattle.published_map.proofs.Leads.{put_together}
use Rattle.published_map.proofs.version.MapVersion.make.Goals as goal

pub rows_of-requires : goal.rows_of-requires
rows_of-requires c = IsMapForm-IsGood c.args.instance.now c.groups.ensures.market c.args.map.now.lines.items c.args.map.now.names.items c.requires.good

pub invariant_of-result : goal.invariant_of-result
invariant_of-result c = record {
  rows = rw c.in_ok-rows.ensures (length-map-range_with_len (row_of c.args.instance.now c.args.map.now.lines.items c.args.map.now.names.items) 0 (length c.args.instance.now.groups) ∙ c.requires.shape.groups);
  capacities = rw c.in_ok-capacities.ensures (length-map-range_with_len (capacity_of c.args.instance.now) 0 (length c.args.instance.now.nodes) ∙ c.requires.shape.nodes);
  looks_up = c.requires.lookup;
}

whole : (c : goal.In_ok-capacities) → version_of c.args.serial (plan_of (arc_value c.args.shared)) c.in_ok-rows.rows.items c.in_ok-capacities.capacities.items ≡ record { serial = c.args.serial; market = c.args.instance.now; lines = c.args.map.now.lines.items; names = c.args.map.now.names.items; plan = plan_of (arc_value c.args.shared) }
whole c =
    let rows : c.in_ok-rows.rows.items ≡ rows_of c.args.instance.now c.args.map.now.lines.items c.args.map.now.names.items = c.in_ok-rows.ensures in
    let capacities : c.in_ok-capacities.capacities.items ≡ capacities_of c.args.instance.now = c.in_ok-capacities.ensures in
    let p = plan_of (arc_value c.args.shared) in
    rw (rows, capacities) (put_together c.args.serial p p.market c.args.instance.now c.args.map.now.lines.items c.args.map.now.names.items c.groups.ensures.market
    (IsMapForm-IsGood c.args.instance.now c.groups.ensures.market c.args.map.now.lines.items c.args.map.now.names.items c.requires.good) c.requires.shape)

pub returns-clause-value : goal.returns-clause-value
returns-clause-value c = whole c

pub returns-clause-version : goal.returns-clause-version
returns-clause-version c = rw (whole c) (record { plan = c.recall_plan.ensures; market = c.groups.ensures.market; shape = c.requires.shape; good = c.requires.good })
