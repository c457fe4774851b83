use Rattle.std.proofs.Common.{◌≡◌, List, length}
use Rattle.map_model.specs.declared.lines.MapLine.{MapLine}
use Rattle.best_check.specs.Tables.{AreNextAt, AreRanked, IsWhole}
use Rattle.best_check.proofs.table.nexts_of.Given as goal

abbrev pub invariant-loop-n : goal.invariant-loop-n
invariant-loop-n l = record {
  size : length l.nexts.items ≡ l.n;
  offers : AreRanked l.instance l.nexts.items;
  nexts : (lines : List MapLine) → IsWhole l.instance lines l.table → AreNextAt l.instance lines l.nexts.items;
}
