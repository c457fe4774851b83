use Rattle.edges.proofs.Leasts.{found_in_front, vacant_drop}
use Rattle.edges.proofs.places.least.Goals as goal

pub returns : goal.returns
returns c = found_in_front c.args.wanted c.used-used.result c.args.seats.now c.least_in.result (vacant_drop c.used-used.result c.args.seats.now c.used-used.ensures.vacant) c.least_in.ensures
