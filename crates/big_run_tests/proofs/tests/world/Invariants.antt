use Rattle.big_run_tests.proofs.tests.world.Given as goal

-- the history that was just made
abbrev pub ghosts-run_world : goal.ghosts-run_world
ghosts-run_world g a = record { book = a.history }
