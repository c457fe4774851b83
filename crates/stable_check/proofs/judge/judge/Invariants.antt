use Rattle.stable_check.proofs.judge.judge.Given as goal

abbrev pub ghost-first_over_demand : goal.ghost-first_over_demand
ghost-first_over_demand g a = g.held

abbrev pub ghost-first_over_capacity : goal.ghost-first_over_capacity
ghost-first_over_capacity g a = g.held

abbrev pub ghost-first_blocking : goal.ghost-first_blocking
ghost-first_blocking g a = g.held

abbrev pub ghost-first_bad_name : goal.ghost-first_bad_name
ghost-first_bad_name g a = g.held

abbrev pub ghost-first_over_limit : goal.ghost-first_over_limit
ghost-first_over_limit g a = g.held
