use Rattle.std.proofs.Common.{◌≡◌, ◌++◌}
use Rattle.map_model.proofs.Units.{placed_below}
use Rattle.stable_check.specs.Due.{due}
use Rattle.deferred_accept.proofs.finishing.add_names_of.Given as goal

abbrev pub invariant-loop-place : goal.invariant-loop-place
invariant-loop-place l = record {
  so_far : l.through ≡ placed_below l.state.lines l.group.0 l.place;
  named : l.names.items ++ due l.instance l.state.lines l.group.0 l.place ≡ l.fn.names.items ++ due l.instance l.state.lines l.group.0 0;
}
