use Rattle.std.proofs.Common.{◌≡◌, ℕ, ◌<◌, true}
use Rattle.map_model.specs.Allocation.{is_wanted}
use Rattle.map_model.proofs.Units.{placed_below}
use Rattle.evict.proofs.loading.wanted_count.Given as goal

abbrev pub invariant-loop-place : goal.invariant-loop-place
invariant-loop-place l = record {
  so_far : l.through ≡ placed_below l.held.lines l.group.0 l.place;
  wanted : (j : ℕ) → j < l.place → is_wanted l.instance l.held.lines l.group.0 j ≡ true;
}
