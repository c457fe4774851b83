use Rattle.std.proofs.Common.{rules, ◌≡◌, List, Err, ap, sym, ◌∙◌}
use Rattle.std.proofs.lemmas.Result.{err_from_is_err_and}
use Rattle.map_model.specs.declared.change.Change.{Change}
use Rattle.map_text.specs.Writing.{mapped}
use Rattle.glb.specs.Repair.{IsRepairOf}
use Rattle.glb.specs.Files.{changes_file}
use Rattle.glb.proofs.Loads.{last_ends, stopped_only}
use Rattle.glb.proofs.Reading.{behind_three, came, stopped_first_of, stopped_second}
use Rattle.glb.proofs.repair.repair_files.Goals as goal

pub returns-in_err-map : goal.returns-in_err-map
returns-in_err-map g c =
    let p = err_from_is_err_and c.from_residual-in_err-map.result c.from_residual-in_err-map.ensures.1 in
    let is : Err c.in_err-map.field-0.0 ≡ c.from_residual-in_err-map.result = sym (p.1 ∙ ap Err p.2) in
    stopped_second c.args.topology.now c.args.map.now c.args.changes.now IsRepairOf _ _ _ _ _ _ (came c.in_ok-topology.was c.load_topology.ensures) (came c.in_err-map.was c.load_map.ensures) is

pub returns-in_err-changes : goal.returns-in_err-changes
returns-in_err-changes g c =
    let t = c.in_ok-topology.topology in
    let is : Err c.in_err-changes.field-0.0 ≡ c.from_residual-in_err-changes.result = search rules in
    behind_three c.args.topology.now c.args.map.now c.args.changes.now IsRepairOf _ _ _ _ _ _ _ (came c.in_ok-topology.was c.load_topology.ensures) (came c.in_ok-map.was c.load_map.ensures)
    (stopped_only (changes_file t) (λ (b : List Change). b) c.args.changes.now (IsRepairOf t (mapped c.in_ok-map.map)) _ _ _ _ (came c.in_err-changes.was c.load_changes.ensures.reading) is)

pub returns : goal.returns
returns g c =
    let t = c.in_ok-topology.topology in
    behind_three c.args.topology.now c.args.map.now c.args.changes.now IsRepairOf _ _ _ _ _ _ _ (came c.in_ok-topology.was c.load_topology.ensures) (came c.in_ok-map.was c.load_map.ensures)
    (last_ends (changes_file t) (λ (b : List Change). b) c.args.changes.now (IsRepairOf t (mapped c.in_ok-map.map)) _ _ c.in_ok-changes.changes c.report.result (came c.in_ok-changes.was c.load_changes.ensures.reading) c.report.ensures.ended c.report.ensures.source)

pub returns-in_err-topology : goal.returns-in_err-topology
returns-in_err-topology g c =
    let is : Err c.in_err-topology.field-0.0 ≡ c.from_residual.result = search rules in
    stopped_first_of c.args.topology.now c.args.map.now c.args.changes.now IsRepairOf _ _ _ _ (came c.in_err-topology.was c.load_topology.ensures) is
