use Rattle.glb.proofs.serve.serve.Given as goal

-- the history that was just made
abbrev pub ghosts-serve_topology : goal.ghosts-serve_topology
ghosts-serve_topology g a = record { book = a.beginning.history }
