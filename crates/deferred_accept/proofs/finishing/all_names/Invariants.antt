use Rattle.std.proofs.Common.{◌≡◌, ◌++◌}
use Rattle.map_model.specs.Allocation.{names_of}
use Rattle.stable_check.specs.Due.{due_from}
use Rattle.deferred_accept.proofs.finishing.all_names.Given as goal

abbrev pub invariant-loop-g : goal.invariant-loop-g
invariant-loop-g l = l.names.items ++ due_from l.instance l.state.lines l.g ≡ names_of l.instance l.state.lines
