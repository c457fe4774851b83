use Rattle.std.proofs.Common.{◌≡◌, ◌≤◌, take}
use Rattle.std.specs.Prelude.{sum}
use Rattle.answer_core.proofs.picking.place.Given as goal

abbrev pub invariant-loop-k : goal.invariant-loop-k
invariant-loop-k l = record {
  ends : l.end ≡ sum (take l.k l.amounts);
  below : l.end ≤ l.slot;
}
