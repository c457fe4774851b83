use Rattle.map_cell_tests.proofs.tests.seen_by.Given as goal

-- the history that was just made
abbrev pub ghosts-opened : goal.ghosts-opened
ghosts-opened g a = record { book = a.history }
