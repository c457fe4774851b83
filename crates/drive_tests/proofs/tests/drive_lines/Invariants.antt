use Rattle.drive_tests.proofs.tests.drive_lines.Given as goal

-- the history that was just made
abbrev pub ghosts-drive_over : goal.ghosts-drive_over
ghosts-drive_over g a = record { book = a.history }
