use Rattle.evict.proofs.relief.place.Given as goal

abbrev pub ghost-relieve_path : goal.ghost-relieve_path
ghost-relieve_path g a = g.origin
