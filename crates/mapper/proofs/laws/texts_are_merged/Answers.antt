use Rattle.mapper.proofs.Merging.{merges}
use Rattle.mapper.proofs.laws.texts_are_merged.Goals as goal

pub returns : goal.returns
returns c = merges
