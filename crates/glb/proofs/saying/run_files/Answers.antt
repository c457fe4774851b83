use Rattle.std.proofs.Common.{rules, ◌≡◌, Option, Some, ap, subst, sym}
use Rattle.std.specs.Option.{option_map}
use Rattle.outside.specs.Faults.{BothTell}
use Rattle.glb.specs.Commands.{ask_of}
use Rattle.glb.specs.Loads.{AreLoaded, AreLoadsOf}
use Rattle.glb.specs.Outcome.{Outside}
use Rattle.glb.specs.Run.{loads_of}
use Rattle.glb.specs.Words.{Ask}
use Rattle.glb.proofs.Complete.{complete_run}
use Rattle.glb.proofs.Good.{good_run}
use Rattle.glb.proofs.Reports.{ended_so}
use Rattle.glb.proofs.saying.run_files.Goals as goal

pub returns-in-Some-clause-noted : goal.returns-in-Some-clause-noted
returns-in-Some-clause-noted g c =
    let is : Some (ask_of c.in-Some.command) ≡ option_map ask_of c.args.command = ap (option_map ask_of) (sym c.in-Some.is) in
    subst (λ (a : Option Ask). BothTell (g.F.Shelf.told c.args.files.now).past (g.F.Shelf.told c.run_command-ended.new.files).past (AreLoadsOf (loads_of a))) is c.run_command-ended.ensures.end.noted

pub returns-in-Some-clause-loaded : goal.returns-in-Some-clause-loaded
returns-in-Some-clause-loaded g c source memory =
    let is : Some (ask_of c.in-Some.command) ≡ option_map ask_of c.args.command = ap (option_map ask_of) (sym c.in-Some.is) in
    subst (λ (a : Option Ask). BothTell (g.F.Shelf.told c.args.files.now).past (g.F.Shelf.told c.run_command-ended.new.files).past (AreLoaded (loads_of a))) is
    (ended_so _ c.run_command-ended.result c.run_command-ended.ensures.end.loaded (λ e. source (c.finish.ensures.source.1 e)) (λ e. memory (c.finish.ensures.memory.1 e)))

pub returns-in-Some-clause-good : goal.returns-in-Some-clause-good
returns-in-Some-clause-good g c = good_run _ _ _ _ (search rules)

pub returns-in-Some-clause-complete : goal.returns-in-Some-clause-complete
returns-in-Some-clause-complete g c =
    let before : Outside = record { files = g.F.Shelf.told c.args.files.now; out = g.K.Sink.told c.args.out.now } in
    let after : Outside = record { files = g.F.Shelf.told c.run_command-ended.new.files; out = g.K.Sink.told c.finish.new.out } in
    complete_run (option_map ask_of c.args.command) before after c.finish.result (AreLoadsOf (loads_of (option_map ask_of c.args.command))) (search rules) (search rules)
    (subst (λ (a : Option Ask). BothTell (g.F.Shelf.told c.args.files.now).past (g.F.Shelf.told c.run_command-ended.new.files).past (AreLoadsOf (loads_of a))) (ap (option_map ask_of) (sym c.in-Some.is)) c.run_command-ended.ensures.end.noted)
