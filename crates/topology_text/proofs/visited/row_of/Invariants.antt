use Rattle.std.proofs.Common.{◌≡◌, ◌++◌, length, map, drop, option_map}
use Rattle.topology_text.specs.Found.{found_at}
use Rattle.topology_text.proofs.visited.row_of.Given as goal

abbrev pub invariant-loop-key : goal.invariant-loop-key
invariant-loop-key l = record {
  long : length l.row.items ≡ l.key-index;
  so_far : map (option_map (λ v. v.now)) l.row.items ++ map (found_at l.table.entries) (drop l.key-index l.key-items) ≡ map (found_at l.table.entries) l.key-items;
}
