use Rattle.std.proofs.Common.{◌+◌, List, OnOk, Result, Ok, Err, sym, subst}
use Rattle.std.proofs.lemmas.Result.{IfOk-weaker}
use Rattle.map_model.specs.declared.lines.MapLine.{MapLine}
use Rattle.map_repair.specs.Determined.{IsRepairedOf}
use Rattle.map_repair.specs.Repaired.{IsKept, IsWithinTwiceSpread}
use Rattle.map_repair.specs.Resumed.{HasResumed}
use Rattle.map_repair.proofs.Ways.{within_twice}
use Rattle.map_repair.proofs.repairing.repair.Goals as goal

whenever : {X E P : Type 0} (r : Result X E) → P → OnOk r P
whenever (Ok x) p = p
whenever (Err e) p = tt

pub returns-clause-kept : goal.returns-clause-kept
returns-clause-kept g c =
    let kept = subst (λ (ls : List MapLine). IsKept c.args.old.now ls c.args.new.now c.resume.new.state.lines) c.in_ok-state.ensures.lines c.in_ok-resume.ensures.kept in
    IfOk-weaker c.finish.result _ _ (λ m e. subst (λ (ls : List MapLine). IsKept c.args.old.now c.args.map.now.lines.items c.args.new.now ls) (sym e) kept) c.finish.ensures.lines

pub returns-clause-counted : goal.returns-clause-counted
returns-clause-counted g c =
    let resumed = subst (λ (ls : List MapLine). HasResumed c.args.old.now ls c.args.new.now c.resume.new.state c.args.steps.now (c.args.steps.now + c.in_ok-resume.field-0.thrown) c.resume.new.steps) c.in_ok-state.ensures.lines c.in_ok-resume.ensures.counted in
    IfOk-weaker c.finish.result _ _ (λ m e. record { to = c.resume.new.state; tried = c.args.steps.now + c.in_ok-resume.field-0.thrown; resumed = resumed; makes = sym e }) c.finish.ensures.lines

pub returns-clause-steps : goal.returns-clause-steps
returns-clause-steps g c =
    let twice = within_twice c.args.old.now _ c.args.new.now c.args.steps.now c.in_ok-resume.field-0.thrown c.resume.new.steps c.in_ok-resume.ensures.thrown c.in_ok-resume.ensures.steps in
    whenever c.finish.result (subst (λ (ls : List MapLine). IsWithinTwiceSpread c.args.old.now ls c.args.new.now c.args.steps.now c.resume.new.steps) c.in_ok-state.ensures.lines twice)

pub returns-clause-determined : goal.returns-clause-determined
returns-clause-determined g c =
    let of = subst (λ (ls : List MapLine). IsRepairedOf c.args.old.now ls c.args.new.now c.resume.new.state.lines) c.in_ok-state.ensures.lines c.in_ok-resume.ensures.determined in
    IfOk-weaker c.finish.result _ _ (λ m e. subst (λ (ls : List MapLine). IsRepairedOf c.args.old.now c.args.map.now.lines.items c.args.new.now ls) (sym e) of) c.finish.ensures.lines
