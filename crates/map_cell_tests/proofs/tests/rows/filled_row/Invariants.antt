use Rattle.map_cell_tests.proofs.tests.rows.filled_row.Given as goal

-- the history that was just made
abbrev pub ghosts-opened_row : goal.ghosts-opened_row
ghosts-opened_row g a = record { book = a.history }
