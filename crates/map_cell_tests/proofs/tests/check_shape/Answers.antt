use Rattle.map_model.proofs.Shapes.{shape_sym}
use Rattle.map_cell_tests.proofs.tests.check_shape.Goals as goal

pub returns : goal.returns
returns c = shape_sym c.args.old.now c.args.new.now c.requires
