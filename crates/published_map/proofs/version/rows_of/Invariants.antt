use Rattle.std.proofs.Common.{◌≡◌, ◌≤◌, length, map}
use Rattle.std.specs.Vec.{vec_len, vec_capacity}
use Rattle.std.specs.List.{range_with_len}
use Rattle.published_map.specs.Rows.{row_of}
use Rattle.published_map.proofs.Groups.{IsLeft}
use Rattle.published_map.proofs.version.rows_of.Given as goal

abbrev pub invariant-loop-number : goal.invariant-loop-number
invariant-loop-number l = record {
  rows : l.rows.items ≡ map (row_of l.instance l.map.lines.items l.map.names.items) (range_with_len 0 l.number);
  size : vec_len l.rows ≡ l.number;
  room : length l.instance.groups ≤ vec_capacity l.rows;
  left : IsLeft l.map.lines.items l.map.names.items l.number l.rest.lines.now l.rest.names.now;
}
