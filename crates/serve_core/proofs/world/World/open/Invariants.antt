use Rattle.std.proofs.Common.{◌≡◌, replicate, vec_len, vec_capacity}
use Rattle.lane_model.specs.Machine.{fresh}
use Rattle.serve_core.proofs.world.World.open.Given as goal

abbrev pub invariant-loop : goal.invariant-loop
invariant-loop l = (l.rows.items ≡ replicate l.counter fresh) × (vec_len l.rows ≡ l.counter) × (vec_capacity l.rows ≡ l.fn.lanes)
