use Rattle.std.proofs.Common.{◌≡◌}
use Rattle.std.specs.List.{flat_map, range_with_len}
use Rattle.place_counts.specs.Places.{place_line, units_at}
use Rattle.place_counts.proofs.writing.write_places.Given as goal

abbrev pub invariant-loop-place : goal.invariant-loop-place
invariant-loop-place l = l.text.items ≡ flat_map (λ k. place_line k (units_at l.instance l.state.lines k)) (range_with_len 0 l.place)
