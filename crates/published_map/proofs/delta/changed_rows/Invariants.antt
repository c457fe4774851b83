use Rattle.published_map.specs.Gathered.{RowsChanged}
use Rattle.published_map.proofs.Groups.{IsLeft}
use Rattle.published_map.proofs.delta.changed_rows.Given as goal

abbrev pub invariant-loop-number : goal.invariant-loop-number
invariant-loop-number l = record {
  changed : RowsChanged l.old l.old_map.lines.items l.old_map.names.items l.new l.new_map.lines.items l.new_map.names.items l.number l.groups.items;
  old_left : IsLeft l.old_map.lines.items l.old_map.names.items l.number l.old_rest.lines.now l.old_rest.names.now;
  new_left : IsLeft l.new_map.lines.items l.new_map.names.items l.number l.new_rest.lines.now l.new_rest.names.now;
}
