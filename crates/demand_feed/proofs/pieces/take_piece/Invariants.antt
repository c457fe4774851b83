use Rattle.std.proofs.Common.{◌+◌, ℕ, List, ◌++◌, length}
use Rattle.demand_feed.specs.Working.{InPiece, IsReady, Reads}
use Rattle.demand_feed.proofs.pieces.take_piece.Given as goal

abbrev pub invariant-lines : goal.invariant-lines
invariant-lines g l = record {
  ready : (n : ℕ) → IsReady g.T.TakesTasks.market g.T.TakesTasks.left l.topology l.fn.clerk l.fn.to (n + length l.piece) → IsReady g.T.TakesTasks.market g.T.TakesTasks.left l.topology l.clerk l.to (n + length l.rest);
  came : (before : g.row.T.Denot) (bytes : List ℕ) → Reads g.T.TakesTasks.does l.topology before bytes l.fn.cutter l.fn.clerk l.fn.to
      → InPiece g.T.TakesTasks.does l.topology before (bytes ++ l.piece) l.rest l.cutter l.clerk l.to;
}

abbrev pub decreases-lines : goal.decreases-lines
decreases-lines g l = length l.rest
