use Rattle.std.proofs.Common.{refl}
use Rattle.glb.proofs.Asked.{placed_by, refused_by}
use Rattle.glb.proofs.Scratch.{scratch_by}
use Rattle.glb.proofs.serve.open_by.Goals as goal

pub returns-clause-asked : goal.returns-clause-asked
returns-clause-asked g c = rw (← c.lane.view_is) (placed_by _ _ _ _ c.open.ensures.asked_all (rw (c.open.ensures.same.0, c.open.ensures.same.1) refl) c.open.ensures.stays)

pub returns-clause-scratch : goal.returns-clause-scratch
returns-clause-scratch g c = scratch_by c.args.topology.market (λ r. r.0.newest.lines) c.open.result c.new-steps.result c.open.new.steps c.new-steps.ensures c.open.ensures.counted c.open.ensures.steps

pub returns-clause-refused : goal.returns-clause-refused
returns-clause-refused g c = rw (← c.lane.view_is) (refused_by _ _ _ _ c.open.ensures.asked (rw (c.open.ensures.same.0, c.open.ensures.same.1) refl) c.open.ensures.later c.open.ensures.cause c.open.ensures.stays)
