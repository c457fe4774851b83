use Rattle.evict.proofs.state.State.put.Given as goal

abbrev pub ghost-place : goal.ghost-place
ghost-place g a = record { lines = a.held.now.lines; units = a.units }
