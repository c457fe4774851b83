use Rattle.std.proofs.Common.{◌≡◌, arith, length, map, refl, ap, ◌∙◌}
use Rattle.std.specs.List.{range_with_len}
use Rattle.std.proofs.lemmas.List.FromFn.{map-range_with_len_more}
use Rattle.published_map.specs.Rows.{row_of}
use Rattle.published_map.proofs.Groups.{IsOwn, own_is, goes_on, starts, amounts_are, names_are}
use Rattle.published_map.proofs.version.rows_of.Goals as goal

pub loop-number-init : goal.loop-number-init
loop-number-init c = record {
  rows = c.in_ok-rows.ensures.items;
  size = omega (arith, c.in_ok-rows.ensures.len);
  room = omega (arith, c.in_ok-rows.ensures.capacity, c.groups.ensures.count);
  left = rw (c.as_slice.ensures.value, c.as_slice-2.ensures.value) (starts c.args.map.now.lines.items c.args.map.now.names.items);
}

has : (c : goal.After-demand) → IsOwn c.args.map.now.lines.items c.args.map.now.names.items c.loop-number.number c.split.result.0.lines.now c.split.result.0.names.now
has c = own_is c.args.instance.now c.args.map.now.lines.items c.args.map.now.names.items c.loop-number.number c.loop-number.rest.lines.now c.loop-number.rest.names.now c.groups.ensures.market c.requires c.loop-number.invariant.left _ _ c.split.ensures.lines c.split.ensures.names

pub row-requires-clause-lines : goal.row-requires-clause-lines
row-requires-clause-lines c = (has c).few_lines

pub row-requires-clause-names : goal.row-requires-clause-names
row-requires-clause-names c = (has c).few_names

pub push_reserved-requires : goal.push_reserved-requires
push_reserved-requires c = omega (arith, c.loop-number.invariant.size, c.loop-number.invariant.room, c.groups-number-end.ensures.count)

pub loop-number-preserved : goal.loop-number-preserved
loop-number-preserved c =
    let lines = c.args.map.now.lines.items in
    let names = c.args.map.now.names.items in
    let n = c.loop-number.number in
    let it = own_is c.args.instance.now lines names n c.loop-number.rest.lines.now c.loop-number.rest.names.now c.groups.ensures.market c.requires c.loop-number.invariant.left _ _ c.split.ensures.lines c.split.ensures.names in
    let made : c.row.result ≡ row_of c.args.instance.now lines names n = c.row.ensures ∙ rw (c.demand.ensures, amounts_are lines n c.split.result.0.lines.now it.of_lines, names_are names n c.split.result.0.names.now it.of_names) refl in
    record {
      rows = rw (c.push_reserved.ensures.items, map-range_with_len_more (row_of c.args.instance.now lines names) 0 n n (omega arith), c.loop-number.invariant.rows, made) refl;
      size = omega (arith, c.push_reserved.ensures.len, c.loop-number.invariant.size);
      room = omega (arith, c.push_reserved.ensures.capacity, c.loop-number.invariant.room);
      left = goes_on c.args.instance.now lines names n c.loop-number.rest.lines.now c.loop-number.rest.names.now c.groups.ensures.market c.requires c.loop-number.invariant.left _ _ c.split.ensures.lines_behind c.split.ensures.names_behind;
    }

pub returns : goal.returns
returns c =
    let end : c.loop-number.number ≡ length c.args.instance.now.groups = omega (arith, c.groups-number-end.ensures.count, c.loop-number-test.false, c.loop-number.auto.number-end) in
    c.loop-number.invariant.rows ∙ ap (λ n. map (row_of c.args.instance.now c.args.map.now.lines.items c.args.map.now.names.items) (range_with_len 0 n)) end
