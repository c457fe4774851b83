use Rattle.map_cell_tests.proofs.tests.beside.Given as goal

-- the history that was just made
abbrev pub ghosts-opened_beside : goal.ghosts-opened_beside
ghosts-opened_beside g a = record { book = a.history }
