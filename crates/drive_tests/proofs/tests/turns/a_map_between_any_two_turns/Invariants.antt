use Rattle.drive_tests.proofs.tests.turns.a_map_between_any_two_turns.Given as goal

-- the history that was just made
abbrev pub ghosts-turns_over : goal.ghosts-turns_over
ghosts-turns_over g a = record { book = a.history }
