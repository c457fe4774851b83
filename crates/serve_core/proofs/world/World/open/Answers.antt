use Rattle.std.proofs.Common.{rules, ◌≡◌, ◌∙◌, replicate, ap, arith}
use Rattle.lane_model.specs.Machine.{fresh}
use Rattle.serve_core.proofs.Kept.{kept_as}
use Rattle.serve_core.proofs.world.World.open.Goals as goal

pub returns-clause-kept : goal.returns-clause-kept
returns-clause-kept c = kept_as c.args.version c.args.lanes c.push_reserved-2.new.self.items c.loop.rows.items (search rules) (let is : c.loop.counter ≡ c.args.lanes = omega arith in c.loop.invariant.0 ∙ ap (λ k. replicate k fresh) is)
