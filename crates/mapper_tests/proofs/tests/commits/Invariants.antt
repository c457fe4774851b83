use Rattle.mapper_tests.proofs.tests.commits.Given as goal

-- the history that was just made
abbrev pub ghosts-commits_on : goal.ghosts-commits_on
ghosts-commits_on g a = record { book = a.history }
