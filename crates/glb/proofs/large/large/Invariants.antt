use Rattle.glb.proofs.large.large.Given as goal

-- the history that was just made
abbrev pub ghosts-run_named : goal.ghosts-run_named
ghosts-run_named g a = record { book = a.history }
