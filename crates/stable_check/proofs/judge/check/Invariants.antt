use Rattle.stable_check.proofs.judge.check.Given as goal

abbrev pub ghost-judge : goal.ghost-judge
ghost-judge a = a.map.now.lines.items
