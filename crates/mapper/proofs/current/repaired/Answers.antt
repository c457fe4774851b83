use Rattle.std.proofs.Common.{◌+◌, List, sym, subst}
use Rattle.std.proofs.lemmas.Result.{IfOk-weaker}
use Rattle.map_model.specs.declared.lines.MapLine.{MapLine}
use Rattle.map_repair.specs.Repaired.{IsKept, IsWithinTwiceSpread}
use Rattle.map_repair.specs.Resumed.{HasResumed}
use Rattle.map_repair.proofs.Ways.{within_twice}
use Rattle.mapper.proofs.Nexts.{whenever}
use Rattle.mapper.proofs.current.repaired.Goals as goal

pub returns-clause-kept : goal.returns-clause-kept
returns-clause-kept g c =
    let old = c.args.old.now.instance in
    let new = c.args.new.now in
    let made = subst (λ (ls : List MapLine). IsKept old ls new c.resume.new.state.lines) c.requires.kept.holds c.in_ok-effort.ensures.kept in
    IfOk-weaker c.ended_map.result _ _ (λ m e. subst (λ (ls : List MapLine). IsKept old c.args.old.now.map.lines.items new ls) (sym e) made) c.ended_map.ensures.lines

pub returns-clause-counted : goal.returns-clause-counted
returns-clause-counted g c =
    let resumed = subst (λ (ls : List MapLine). HasResumed c.args.old.now.instance ls c.args.new.now c.resume.new.state c.args.steps.now (c.args.steps.now + c.in_ok-effort.effort.thrown) c.resume.new.steps) c.requires.kept.holds c.in_ok-effort.ensures.counted in
    IfOk-weaker c.ended_map.result _ _ (λ m e. record { to = c.resume.new.state; tried = c.args.steps.now + c.in_ok-effort.effort.thrown; resumed = resumed; makes = sym e }) c.ended_map.ensures.lines

pub returns-clause-steps : goal.returns-clause-steps
returns-clause-steps g c =
    let twice = within_twice c.args.old.now.instance _ c.args.new.now c.args.steps.now c.in_ok-effort.effort.thrown c.resume.new.steps c.in_ok-effort.ensures.thrown c.in_ok-effort.ensures.steps in
    whenever c.ended_map.result (subst (λ (ls : List MapLine). IsWithinTwiceSpread c.args.old.now.instance ls c.args.new.now c.args.steps.now c.resume.new.steps) c.requires.kept.holds twice)
