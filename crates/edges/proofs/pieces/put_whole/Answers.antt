use Rattle.std.proofs.Common.{◌≤◌, take, drop, length, subst, sym, arith}
use Rattle.std.proofs.lemmas.List.{length-drop}
use Rattle.std.specs.Io.{WritesAtMost}
use Rattle.std.specs.Io.KnownBytes.{Appends, WriteAppends}
use Rattle.edges.proofs.Puts.{appends_kept, appends_more, rest_whole}
use Rattle.edges.proofs.pieces.put_whole.Goals as goal
use Rattle.edges.proofs.pieces.put_whole.Goals.{in-Ok-write, in-Err-write+else-ne}

pub loop-preserved : goal.loop-preserved
loop-preserved g c =
    let piece = c.args.piece.now in
    let rest = drop c.loop.at piece in
    let whole = rest_whole c.loop.at piece in
    elim c.match-write.branch [
      | in-Ok-write w ↦
          let bound = subst (λ r. WritesAtMost r rest) w.in-Ok-write.is (subst (λ xs. WritesAtMost c.write.result xs) whole c.write.ensures.bound) in
          let bytes = subst (λ r. WriteAppends (g.W.Write.contents c.loop.writer) (g.W.Write.contents c.write.new.self) r rest) w.in-Ok-write.is (subst (λ xs. WriteAppends (g.W.Write.contents c.loop.writer) (g.W.Write.contents c.write.new.self) c.write.result xs) whole c.write.ensures.bytes) in
          subst (λ n. (n ≤ length piece) × Appends (g.W.Write.contents c.args.writer.now) (g.W.Write.contents c.write.new.self) (take n piece)) (sym w.at-is) (
            omega (arith, bound, length-drop c.loop.at piece, c.loop.invariant.0),
            appends_more _ _ _ c.loop.at w.in-Ok-write.count piece c.loop.invariant.1 bytes,
          )
      | in-Err-write+else-ne w ↦
          let kept = subst (λ r. WriteAppends (g.W.Write.contents c.loop.writer) (g.W.Write.contents c.write.new.self) r rest) w.in-Err-write.is (subst (λ xs. WriteAppends (g.W.Write.contents c.loop.writer) (g.W.Write.contents c.write.new.self) c.write.result xs) whole c.write.ensures.bytes) in
          subst (λ n. (n ≤ length piece) × Appends (g.W.Write.contents c.args.writer.now) (g.W.Write.contents c.write.new.self) (take n piece)) (sym w.at-is) (
            c.loop.invariant.0,
            appends_kept _ _ _ (take c.loop.at piece) c.loop.invariant.1 kept,
          )
    ]
