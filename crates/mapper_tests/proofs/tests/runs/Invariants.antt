use Rattle.mapper_tests.proofs.tests.runs.Given as goal

-- the history that was just made
abbrev pub ghosts-runs_on : goal.ghosts-runs_on
ghosts-runs_on g a = record { book = a.history }
