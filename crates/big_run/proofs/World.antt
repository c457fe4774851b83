-- Of the text of a world the one thing is read that it says, and no fault.
use Rattle.std.proofs.Common.{◌≡◌, ℕ, ◌≤◌, List, ap, sym, ◌∙◌}
use Rattle.std.specs.Prelude.{Err, Ok}
use Rattle.topology_text.specs.Faults.{reading}
use Rattle.topology_text.specs.Plan.{Plan}
use Rattle.topology_text.specs.declared.fault.TopologyFault.{TopologyFault}
use Rattle.big_world.specs.declared.TheConstants.{LARGEST_WORLD}
use Rattle.big_world.specs.Topology.{topology_of}
use Rattle.big_world_read.specs.Read.{world_plan}
use Rattle.big_world_read.proofs.World.{world_reads}

pub plan_read : (n : ℕ) (text : List ℕ) (t : Plan) → 1 ≤ n → n ≤ LARGEST_WORLD → text ≡ topology_of n → reading text ≡ Ok t → t ≡ world_plan n
plan_read n text t some most is reads = let same : Ok t ≡ Ok (world_plan n) = sym reads ∙ (ap reading is ∙ world_reads n some most) in cc

pub no_fault : (n : ℕ) (text : List ℕ) (fault : TopologyFault) → 1 ≤ n → n ≤ LARGEST_WORLD → text ≡ topology_of n → reading text ≡ Err fault → ⊥
no_fault n text fault some most is refused = let same : Err fault ≡ Ok (world_plan n) = sym refused ∙ (ap reading is ∙ world_reads n some most) in cc
