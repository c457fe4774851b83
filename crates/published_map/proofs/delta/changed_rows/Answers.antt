use Rattle.std.proofs.Common.{◌<◌, arith, length, sym, subst}
use Rattle.map_model.specs.declared.instance.GroupId.{GroupId}
use Rattle.published_map.specs.declared.row.GroupRow.{GroupRow}
use Rattle.published_map.specs.Gathered.{RowsChanged}
use Rattle.published_map.specs.Rows.{row_of}
use Rattle.published_map.proofs.Gathered.{none_yet}
use Rattle.published_map.proofs.Groups.{own_is, goes_on, starts}
use Rattle.published_map.proofs.Leads.{one_row}
use Rattle.published_map.proofs.delta.changed_rows.Goals as goal

pub loop-number-init : goal.loop-number-init
loop-number-init c = record {
  changed = subst (RowsChanged c.args.old.now c.args.old_map.now.lines.items c.args.old_map.now.names.items c.args.new.now c.args.new_map.now.lines.items c.args.new_map.now.names.items 0) (sym c.new-groups.ensures.items)
      (none_yet (λ (r : GroupId × GroupRow). r.0.0) (λ (r : GroupId × GroupRow). r.1) (row_of c.args.old.now c.args.old_map.now.lines.items c.args.old_map.now.names.items) (row_of c.args.new.now c.args.new_map.now.lines.items c.args.new_map.now.names.items) (length c.args.old.now.groups));
  old_left = rw (c.whole-old_rest.ensures.lines, c.whole-old_rest.ensures.names) (starts c.args.old_map.now.lines.items c.args.old_map.now.names.items);
  new_left = rw (c.whole-new_rest.ensures.lines, c.whole-new_rest.ensures.names) (starts c.args.new_map.now.lines.items c.args.new_map.now.names.items);
}

pub push_row-requires-clause-lines : goal.push_row-requires-clause-lines
push_row-requires-clause-lines c = (own_is c.args.new.now c.args.new_map.now.lines.items c.args.new_map.now.names.items c.loop-number.number c.loop-number.new_rest.lines.now c.loop-number.new_rest.names.now c.groups.ensures.market c.requires.new c.loop-number.invariant.new_left _ _ c.split-in-loop-number.ensures.lines c.split-in-loop-number.ensures.names).few_lines

pub push_row-requires-clause-names : goal.push_row-requires-clause-names
push_row-requires-clause-names c = (own_is c.args.new.now c.args.new_map.now.lines.items c.args.new_map.now.names.items c.loop-number.number c.loop-number.new_rest.lines.now c.loop-number.new_rest.names.now c.groups.ensures.market c.requires.new c.loop-number.invariant.new_left _ _ c.split-in-loop-number.ensures.lines c.split-in-loop-number.ensures.names).few_names

pub loop-number-preserved : goal.loop-number-preserved
loop-number-preserved c =
    let n = c.loop-number.number in
    let m = c.args.old.now in
    let m' = c.args.new.now in
    let lines = c.args.old_map.now.lines.items in
    let names = c.args.old_map.now.names.items in
    let lines' = c.args.new_map.now.lines.items in
    let names' = c.args.new_map.now.names.items in
    let was = own_is m lines names n c.loop-number.old_rest.lines.now c.loop-number.old_rest.names.now c.groups-number-end.ensures.market c.requires.old c.loop-number.invariant.old_left _ _ c.split.ensures.lines c.split.ensures.names in
    let is = own_is m' lines' names' n c.loop-number.new_rest.lines.now c.loop-number.new_rest.names.now c.groups.ensures.market c.requires.new c.loop-number.invariant.new_left _ _ c.split-in-loop-number.ensures.lines c.split-in-loop-number.ensures.names in
    let lt : n < length m.groups = omega (arith, c.loop-number-test.true, c.groups-number-end.ensures.count) in
    record {
      changed = one_row m lines names m' lines' names' n c.loop-number.groups.items c.push_row.new.groups.items c.demand.result c.demand-in-loop-number.result _ _ _ _ lt c.demand.ensures c.demand-in-loop-number.ensures was is c.in_ok-push_row.ensures c.loop-number.invariant.changed;
      old_left = goes_on m lines names n c.loop-number.old_rest.lines.now c.loop-number.old_rest.names.now c.groups-number-end.ensures.market c.requires.old c.loop-number.invariant.old_left _ _ c.split.ensures.lines_behind c.split.ensures.names_behind;
      new_left = goes_on m' lines' names' n c.loop-number.new_rest.lines.now c.loop-number.new_rest.names.now c.groups.ensures.market c.requires.new c.loop-number.invariant.new_left _ _ c.split-in-loop-number.ensures.lines_behind c.split-in-loop-number.ensures.names_behind;
    }
