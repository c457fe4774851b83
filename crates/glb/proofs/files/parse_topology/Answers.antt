use Rattle.std.proofs.Common.{ap}
use Rattle.topology_text.specs.declared.fault.TopologyFault.TheVariants.{NoMemory}
use Rattle.glb.specs.Files.{topology_of, with_text}
use Rattle.glb.specs.Texts as text
use Rattle.glb.proofs.Loads.{refused_by}
use Rattle.glb.proofs.files.parse_topology.Goals as goal

pub returns-in-Ok-clause-said : goal.returns-in-Ok-clause-said
unfolding topology_of
returns-in-Ok-clause-said c = ap (with_text text.topology_fault) c.in-Ok.ensures

pub returns-in-Err-clause-said : goal.returns-in-Err-clause-said
unfolding topology_of
returns-in-Err-clause-said c = refused_by text.topology_fault NoMemory c.in-Err.fault _ c.refuse_topology.result c.in-Err.ensures c.refuse_topology.ensures.said
