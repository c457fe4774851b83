use Rattle.std.proofs.Common.{◌≡◌, ◌≤◌}
use Rattle.place_counts.specs.Places.{longest_of}
use Rattle.place_counts.proofs.counting.longest.Given as goal

abbrev pub invariant-loop-g : goal.invariant-loop-g
invariant-loop-g l = record {
  so_far : l.longest ≡ longest_of l.g l.instance;
  few : l.longest ≤ 16;
}
