use Rattle.std.proofs.Common.{◌≤◌, take, length}
use Rattle.std.specs.Io.KnownBytes.{Appends}
use Rattle.edges.proofs.pieces.put_whole.Given as goal

-- so many octets were taken
abbrev pub invariant-loop : goal.invariant-loop
invariant-loop g l = (l.at ≤ length l.piece) × Appends (g.W.Write.contents l.fn.writer) (g.W.Write.contents l.writer) (take l.at l.piece)
