use Rattle.std.proofs.Common.{ap}
use Rattle.map_text.specs.declared.fault.MapFault.TheVariants.{NoMemory}
use Rattle.glb.specs.Files.{mapped_of, with_text}
use Rattle.glb.specs.Texts as text
use Rattle.glb.proofs.Loads.{refused_by}
use Rattle.glb.proofs.files.parse_map.Goals as goal

pub returns-in-Ok-clause-said : goal.returns-in-Ok-clause-said
unfolding mapped_of
returns-in-Ok-clause-said c = ap (with_text text.map_fault) c.in-Ok.ensures.read

pub returns-in-Err-clause-said : goal.returns-in-Err-clause-said
unfolding mapped_of
returns-in-Err-clause-said c = refused_by text.map_fault NoMemory c.in-Err.fault _ c.refuse_map.result c.in-Err.ensures.read c.refuse_map.ensures.said
