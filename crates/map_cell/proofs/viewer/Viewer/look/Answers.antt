use Rattle.map_cell.proofs.Steps.{looks}
use Rattle.map_cell.proofs.viewer.Viewer.look.Goals as goal

pub enter_as-requires : goal.enter_as-requires
enter_as-requires g c x = looks x _ _

pub returns-in-Some-clause-ok : goal.returns-in-Some-clause-ok
returns-in-Some-clause-ok g c = let e = c.in-Some.ensures in (e.0, rw (← c.self.view_is) e.1, e.2)
