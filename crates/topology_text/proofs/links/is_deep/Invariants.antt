use Rattle.std.proofs.Common.{◌≡◌, length, Some, ◌+◌, ◌-◌}
use Rattle.topology_text.specs.Code.{entries}
use Rattle.topology_text.specs.Names.{ascend}
use Rattle.topology_text.proofs.links.is_deep.Given as goal

abbrev pub invariant-loop-step : goal.invariant-loop-step
invariant-loop-step l =
    let nodes = (entries l.index).nodes in
    length (ascend 9 nodes (Some l.node)) ≡ l._step + length (ascend (9 - l._step) nodes l.at)
