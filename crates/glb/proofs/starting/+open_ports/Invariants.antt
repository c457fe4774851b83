use Rattle.glb.proofs.starting.+open_ports.Given as goal

abbrev pub decreases-open_ports : goal.decreases-open_ports
decreases-open_ports g l = l.count
