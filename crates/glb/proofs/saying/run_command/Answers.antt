use Rattle.glb.specs.Loads.{files_between}
use Rattle.glb.specs.Outcome.{IsSaid}
use Rattle.glb.specs.Run.{IsDue}
use Rattle.glb.specs.Words.{check, map_from, places, answer}
use Rattle.glb.proofs.Loads.{ends_weaker}
use Rattle.glb.proofs.Said.{due_said}
use Rattle.glb.proofs.saying.run_command.Goals as goal

pub returns-in-Check-clause-said : goal.returns-in-Check-clause-said
returns-in-Check-clause-said g c =
    let ask = check c.in-Check.topology.now c.in-Check.map.now in
    let told = files_between (g.F.Shelf.told c.args.files.now).past (g.F.Shelf.told c.check_files.new.files).past in
    ends_weaker (IsDue ask told) IsSaid c.check_files.result (due_said ask told) c.check_files.ensures.due

pub returns-in-Map-clause-said : goal.returns-in-Map-clause-said
returns-in-Map-clause-said g c =
    let ask = map_from c.in-Map.topology.now in
    let told = files_between (g.F.Shelf.told c.args.files.now).past (g.F.Shelf.told c.map_files.new.files).past in
    ends_weaker (IsDue ask told) IsSaid c.map_files.result (due_said ask told) c.map_files.ensures.due

pub returns-in-Places-clause-said : goal.returns-in-Places-clause-said
returns-in-Places-clause-said g c =
    let ask = places c.in-Places.topology.now in
    let told = files_between (g.F.Shelf.told c.args.files.now).past (g.F.Shelf.told c.places_files.new.files).past in
    ends_weaker (IsDue ask told) IsSaid c.places_files.result (due_said ask told) c.places_files.ensures.due

pub returns-in-Answer-clause-said : goal.returns-in-Answer-clause-said
returns-in-Answer-clause-said g c =
    let ask = answer c.in-Answer.topology.now c.in-Answer.map.now (record { from = c.in-Answer.from; octets = c.as_slice.result.now }) in
    let told = files_between (g.F.Shelf.told c.args.files.now).past (g.F.Shelf.told c.answer_files.new.files).past in
    ends_weaker (IsDue ask told) IsSaid c.answer_files.result (due_said ask told) c.answer_files.ensures.due
