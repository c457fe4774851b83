use Rattle.published_map.specs.Gathered.{NodesChanged}
use Rattle.published_map.proofs.delta.changed_capacities.Given as goal

abbrev pub invariant-loop-number : goal.invariant-loop-number
invariant-loop-number l = NodesChanged l.old l.new l.number l.nodes.items
