use Rattle.std.proofs.Common.{Some, ap, sym}
use Rattle.drive.proofs.Noted.{with_stream_notes}
use Rattle.drive.proofs.stream.StreamLaneRunsNoteRowLaneWorker.run.Goals as goal

pub returns : goal.returns
returns g c = rw (← c.self.view_is) (
  c.into_past-self-inside.ensures.first,
  with_stream_notes _ _ _ _ _ _ _ (ap (λ s. Some s.told) c.over-notes.ensures) (ap (λ k. Some k) (sym c.into_past-self-inside.ensures.told)) c.serve_streams-work.ensures.call,
  c.into_past-self-inside.ensures.few,
  c.serve_streams-work.ensures.asked,
)
