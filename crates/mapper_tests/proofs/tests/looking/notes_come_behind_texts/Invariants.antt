use Rattle.mapper_tests.proofs.tests.looking.notes_come_behind_texts.Given as goal

-- the history that was just made
abbrev pub ghosts-opens_in_order : goal.ghosts-opens_in_order
ghosts-opens_in_order g a = record { book = a.history }
