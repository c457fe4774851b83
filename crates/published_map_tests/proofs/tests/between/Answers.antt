use Rattle.map_model.proofs.NameForm.{IsMapForm-IsGood}
use Rattle.published_map_tests.proofs.tests.between.Goals as goal

pub between-requires-clause-old : goal.between-requires-clause-old
between-requires-clause-old c = IsMapForm-IsGood _ c.groups.ensures.market _ _ c.requires.old

pub between-requires-clause-new : goal.between-requires-clause-new
between-requires-clause-new c = IsMapForm-IsGood _ c.groups-2.ensures.market _ _ c.requires.new
