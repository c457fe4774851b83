use Rattle.tcp_lane_tests.proofs.tests.ends.Given as goal

-- the history that was just made
abbrev pub ghosts-opened : goal.ghosts-opened
ghosts-opened g a = record { book = a.history }
