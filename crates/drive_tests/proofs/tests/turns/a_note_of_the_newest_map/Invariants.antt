use Rattle.drive_tests.proofs.tests.turns.a_note_of_the_newest_map.Given as goal

-- the history that was just made
abbrev pub ghosts-both_over : goal.ghosts-both_over
ghosts-both_over g a = record { book = a.history }
