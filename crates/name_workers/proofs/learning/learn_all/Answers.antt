use Rattle.std.proofs.Common.{◌∙◌, arith}
use Rattle.lane_model.proofs.Going.{rise_trans}
use Rattle.lane_model.proofs.Prefixes.{prefix_length}
use Rattle.name_workers.proofs.Eyes.{given_more, rise_learned}
use Rattle.name_workers.proofs.learning.learn_all.Goals as goal

pub loop-note-preserved : goal.loop-note-preserved
loop-note-preserved g c =
    let i = c.loop-note.invariant in
    let l = c.learn.ensures in
    let le = prefix_length _ _ l.kept in
    let has = prefix_length _ _ l.note in (
      given_more _ _ _ _ _ _ i.0 c.in-Some.ensures.next le (omega (arith, has, c.in-Some.note.some)),
      rise_trans _ _ _ i.1 (rise_learned _ _ l.seen l.kept l.greatest l.counts.0),
      l.counts.1 ∙ i.2,
      l.seen ∙ i.3,
      l.same.1 ∙ i.4,
      l.same.0 ∙ i.5,
      l.counts.2 ∙ i.6,
      l.counts.0 ∙ i.7,
    )
