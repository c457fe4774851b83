use Rattle.std.proofs.Common.{sym, subst}
use Rattle.map_model.specs.Market.{Market, IsSameShape}
use Rattle.map_model.proofs.Shapes.{shape_itself, shape_trans}
use Rattle.move_up_tests.proofs.tests.changed.Goals as goal

pub loop-change-init : goal.loop-change-init
loop-change-init c = subst (λ (x : Market). IsSameShape c.args.old.now x) (sym c.in_ok-new.ensures) (shape_itself c.args.old.now)

pub loop-change-preserved : goal.loop-change-preserved
loop-change-preserved c = shape_trans c.args.old.now c.loop-change.new c.apply.new.instance c.loop-change.invariant c.apply.ensures
