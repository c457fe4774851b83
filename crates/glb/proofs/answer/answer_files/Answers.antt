use Rattle.std.proofs.Common.{rules, ◌≡◌, Err}
use Rattle.glb.specs.Answer.{IsAnswered}
use Rattle.glb.proofs.Reading.{behind_both, came, stopped_behind, stopped_first}
use Rattle.glb.proofs.answer.answer_files.Goals as goal

pub returns-in_err-map : goal.returns-in_err-map
returns-in_err-map g c =
    let is : Err c.in_err-map.field-0.0 ≡ c.from_residual-in_err-map.result = search rules in
    stopped_behind c.args.topology.now c.args.map.now (IsAnswered (record { from = c.args.from; octets = c.args.octets.now })) _ _ _ _ _ _ (came c.in_ok-topology.was c.load_topology.ensures) (came c.in_err-map.was c.load_map.ensures) is

pub returns : goal.returns
returns g c = behind_both c.args.topology.now c.args.map.now (IsAnswered (record { from = c.args.from; octets = c.args.octets.now })) _ _ _ _ _ _ (came c.in_ok-topology.was c.load_topology.ensures) (came c.in_ok-map.was c.load_map.ensures) c.report.ensures.ended c.report.ensures.source

pub returns-in_err-topology : goal.returns-in_err-topology
returns-in_err-topology g c =
    let is : Err c.in_err-topology.field-0.0 ≡ c.from_residual.result = search rules in
    stopped_first c.args.topology.now c.args.map.now (IsAnswered (record { from = c.args.from; octets = c.args.octets.now })) _ _ _ _ (came c.in_err-topology.was c.load_topology.ensures) is
