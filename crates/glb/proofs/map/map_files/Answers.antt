use Rattle.std.proofs.Common.{rules, ◌≡◌, Result, Ok, Err, subst}
use Rattle.topology_text.specs.Plan.{Plan}
use Rattle.glb.specs.Map.{IsMapped}
use Rattle.glb.specs.Ending.{IsReading}
use Rattle.glb.specs.Files.{topology_file}
use Rattle.glb.specs.declared.ending.Stop.{Stop}
use Rattle.glb.proofs.Loads.{last_ends, stopped_only}
use Rattle.glb.proofs.Reading.{came}
use Rattle.glb.proofs.map.map_files.Goals as goal
use Rattle.outside.specs.Faults.{DeviceState}
use Rattle.outside.specs.Shelf.{Shelved}

pub returns : goal.returns
returns g c =
    let before : DeviceState Shelved = g.F.Shelf.told c.args.files.now in
    let after : DeviceState Shelved = g.F.Shelf.told c.load_topology.new.files in
    let t = c.in_ok-topology.topology in
    let first : IsReading topology_file (λ (t : Plan). t) c.args.topology.now before after (Ok t) = subst (λ (r : Result Plan Stop). IsReading topology_file (λ (t : Plan). t) c.args.topology.now before after r) c.in_ok-topology.was c.load_topology.ensures in
    last_ends topology_file (λ (t : Plan). t) c.args.topology.now IsMapped before after t c.report.result first c.report.ensures.ended c.report.ensures.source

pub returns-in_err-topology : goal.returns-in_err-topology
returns-in_err-topology g c =
    let is : Err c.in_err-topology.field-0.0 ≡ c.from_residual.result = search rules in
    stopped_only topology_file (λ (t : Plan). t) c.args.topology.now IsMapped _ _ _ _ (came c.in_err-topology.was c.load_topology.ensures) is
