use Rattle.mapper_tests.proofs.tests.several.runs.Given as goal

abbrev pub ghosts-runs_on : goal.ghosts-runs_on
ghosts-runs_on g a = record { book = a.history }
