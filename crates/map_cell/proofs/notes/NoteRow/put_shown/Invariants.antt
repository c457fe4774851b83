use Rattle.std.proofs.Common.{◌≡◌}
use Rattle.map_cell.proofs.notes.NoteRow.put_shown.Given as goal

-- what was not taken is the note
abbrev pub invariant-loop-k : goal.invariant-loop-k
invariant-loop-k g l = l.rest.front ≡ l.fn.note.front
