use Rattle.std.proofs.Common.{ap}
use Rattle.demand_feed.specs.declared.changes.ChangesFault.TheVariants.{NoMemory}
use Rattle.glb.specs.Files.{changes_read, with_text}
use Rattle.glb.specs.Texts as text
use Rattle.glb.proofs.Loads.{refused_by}
use Rattle.glb.proofs.files.parse_changes.Goals as goal

pub returns-in-Ok-clause-said : goal.returns-in-Ok-clause-said
unfolding changes_read
returns-in-Ok-clause-said c = ap (with_text text.changes_fault) c.in-Ok.ensures.read

pub returns-in-Err-clause-said : goal.returns-in-Err-clause-said
unfolding changes_read
returns-in-Err-clause-said c = refused_by text.changes_fault NoMemory c.in-Err.fault _ c.refuse_changes.result c.in-Err.ensures.read c.refuse_changes.ensures.said
