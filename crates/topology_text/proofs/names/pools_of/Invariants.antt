use Rattle.std.proofs.Common.{◌≡◌, take, map}
use Rattle.toml.specs.View.{view}
use Rattle.topology_text.specs.Names.{is_pool}
use Rattle.topology_text.proofs.names.pools_of.Given as goal

abbrev pub invariant-loop-entry : goal.invariant-loop-entry
invariant-loop-entry l = l.pools.items ≡ map is_pool (map view (take l.entry-index l.entries))
