use Rattle.std.proofs.Common.{◌≡◌, vec_len, vec_capacity}
use Rattle.outside.specs.Limits.{most_notes}
use Rattle.map_cell.proofs.notes.NoteRow.new.Given as goal

abbrev pub invariant-loop : goal.invariant-loop
invariant-loop g l = (vec_len l.cells ≡ l.counter) × (vec_capacity l.cells ≡ most_notes)
