use Rattle.mapper_tests.proofs.tests.opens.Given as goal

-- the history that was just made
abbrev pub ghosts-opening : goal.ghosts-opening
ghosts-opening g a = record { book = a.history }
