use Rattle.std.proofs.Common.{◌≡◌, false, sym, subst}
use Rattle.outside.specs.Streams.{StreamsTold}
use Rattle.edges.specs.Halls.{IsTold}
use Rattle.edges.proofs.Told.{after_heard, read_or_not}
use Rattle.edges.proofs.Turns.{heard_numbered}
use Rattle.edges.proofs.many_streams.ManyStreamsStreams.read.Goals as goal

pub invariant_of-self : goal.invariant_of-self
invariant_of-self g c =
    let before = c.self.inside.hall in
    let after = c.hear-reading.new.self in
    let heard = c.hear-reading.ensures in (
      subst (λ (told : StreamsTold). (told.is_ended ≡ false) × IsTold after.current after.is_read after.seats.items told.current) (sym c.note.ensures)
          (after_heard c.args.known c.args.buffer.now c.hear-reading.new.buffer c.hear-reading.result before.current after.current before.is_read after.is_read before.rooms.items after.rooms.items before.seats.items after.seats.items c.self.inside.past.told heard.heard heard.once (read_or_not before after heard.read) heard.current heard.seats c.self.invariant.0),
      heard_numbered before.turns after.turns c.args.buffer.now c.hear-reading.new.buffer c.hear-reading.result before.current before.seats.items after.seats.items before.rooms.items after.rooms.items heard.turns heard.seats heard.heard c.self.invariant.1,
    )
