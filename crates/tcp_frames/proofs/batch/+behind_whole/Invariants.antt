use Rattle.tcp_frames.proofs.batch.+behind_whole.Given as goal

abbrev pub decreases-behind_whole : goal.decreases-behind_whole
decreases-behind_whole l = l.most
