-- What notes tell after an answer.
use Rattle.std.specs.Prelude.{[]}
use Rattle.outside.specs.Notes.{NotesTold, noting}
use Rattle.past_log.specs.declared.notes.NoteEvent.{NoteEvent}

-- notes that gave none
abbrev pub no_notes : NotesTold
no_notes = record { given = []; nones = 0 }

abbrev pub noted : NoteEvent → NotesTold → NotesTold
noted event notes = noting event.number notes
