use Rattle.std.proofs.Common.{arith}
use Rattle.map_text.proofs.Copied.{put_front}
use Rattle.map_text.proofs.word.Row.word.Goals as goal

pub returns : goal.returns
returns c =
    rw (c.copy_from_slice.ensures.after, ← c.self.view_is, ← c.word.view_is)
    (put_front c.self.inside.len _ c.self.inside.octets c.word.inside.octets c.word.inside.len (omega (arith, c.word.invariant, c.word.told)) (omega (arith, c.self.invariant, c.self.told)))
