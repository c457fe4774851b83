use Rattle.std.proofs.Common.{◌≡◌, map}
use Rattle.std.specs.List.{range_with_len}
use Rattle.toml.specs.View.{view}
use Rattle.topology_text.specs.Code.{entries}
use Rattle.topology_text.specs.Topology.{choice_in}
use Rattle.topology_text.proofs.build.choices.Given as goal

abbrev pub invariant-loop-place : goal.invariant-loop-place
invariant-loop-place l = l.choices.items ≡ map (choice_in (entries l.index).nodes (map view l.pools) (map view l.scores) (map view l.limits)) (range_with_len 0 l.place)
