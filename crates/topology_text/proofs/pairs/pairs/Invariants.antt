use Rattle.std.proofs.Common.{◌≡◌, ◌++◌, map, drop}
use Rattle.std.specs.List.{filter_map}
use Rattle.toml.specs.View.{view}
use Rattle.topology_text.specs.Code.{entries}
use Rattle.topology_text.specs.Names.{pair_of}
use Rattle.topology_text.specs.Topology.{kept_pair}
use Rattle.topology_text.proofs.pairs.pairs.Given as goal

abbrev pub invariant-loop-class : goal.invariant-loop-class
invariant-loop-class l =
    l.pairs.items ++ map kept_pair (filter_map (pair_of (entries l.index)) (map view (drop l.class-index l.class-items))) ≡ map kept_pair (filter_map (pair_of (entries l.index)) (map view l.class-items))
