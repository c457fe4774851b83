use Rattle.std.proofs.Common.{◌≡◌, ◌+◌, ◌-◌, ℕ, List, arith, subst}
use Rattle.map_model.specs.declared.lines.MapLine.{MapLine}
use Rattle.move_up.proofs.Listing.{listing_shape}
use Rattle.map_repair.specs.Repaired.{IsKept, IsWithinSpread}
use Rattle.map_repair.specs.Resumed.{HasResumed}
use Rattle.map_repair.proofs.Ways.{after_try, when_none, when_some}
use Rattle.map_repair.proofs.repairing.resume.Goals as goal

pub returns-in_err-marks-clause-asked : goal.returns-in_err-marks-clause-asked
returns-in_err-marks-clause-asked g c = listing_shape c.args.change.now.old.now c.args.change.now.new.now c.requires.shape c.args.change.now.asked.now c.requires.asked

pub returns-in_err-turns-clause-asked : goal.returns-in_err-turns-clause-asked
returns-in_err-turns-clause-asked g c = listing_shape c.args.change.now.old.now c.args.change.now.new.now c.requires.shape c.args.change.now.asked.now c.requires.asked

pub returns-in-Some-clause-asked : goal.returns-in-Some-clause-asked
returns-in-Some-clause-asked g c = listing_shape c.args.change.now.old.now c.args.change.now.new.now c.requires.shape c.args.change.now.asked.now c.requires.asked

pub returns-in-Some-clause-counted : goal.returns-in-Some-clause-counted
returns-in-Some-clause-counted g c =
    let moved = when_some _ _ c.in_ok-turns.field-0 c.in-Some.turns c.in-Some.is c.in_ok-turns.ensures.tried in
    subst (λ (n : ℕ). HasResumed c.args.change.now.old.now c.args.state.now.lines c.args.change.now.new.now c.tried_or_anew.new.state c.args.steps.now n c.tried_or_anew.new.steps) (omega arith) moved.counted

pub returns-in_err-go_back-clause-asked : goal.returns-in_err-go_back-clause-asked
returns-in_err-go_back-clause-asked g c = listing_shape c.args.change.now.old.now c.args.change.now.new.now c.requires.shape c.args.change.now.asked.now c.requires.asked

pub returns-clause-asked : goal.returns-clause-asked
returns-clause-asked g c = listing_shape c.args.change.now.old.now c.args.change.now.new.now c.requires.shape c.args.change.now.asked.now c.requires.asked

pub returns-clause-kept : goal.returns-clause-kept
returns-clause-kept g c =
    let anew = when_none _ c.in_ok-turns.field-0 c.in_default.is c.in_ok-turns.ensures.tried in
    subst (λ (ls : List MapLine). IsKept c.args.change.now.old.now ls c.args.change.now.new.now c.go_back.new.state.lines) anew.1 c.in_ok-go_back.ensures.resumed.kept

pub returns-clause-counted : goal.returns-clause-counted
returns-clause-counted g c =
    let anew = when_none _ c.in_ok-turns.field-0 c.in_default.is c.in_ok-turns.ensures.tried in
    let at : c.tried_or_anew.new.steps ≡ c.args.steps.now + (c.count.result - c.count-before.result) = omega (arith, c.count.ensures, c.count-before.ensures, c.tried_or_anew.ensures.later) in
    let back = subst (λ (ls : List MapLine). HasResumed c.args.change.now.old.now ls c.args.change.now.new.now c.go_back.new.state c.tried_or_anew.new.steps c.tried_or_anew.new.steps c.go_back.new.steps) anew.1 c.in_ok-go_back.ensures.resumed.counted in
    subst (λ (n : ℕ). HasResumed c.args.change.now.old.now c.args.state.now.lines c.args.change.now.new.now c.go_back.new.state c.args.steps.now n c.go_back.new.steps) at (after_try c.args.change.now.old.now c.args.state.now.lines c.args.change.now.new.now c.go_back.new.state c.args.steps.now c.tried_or_anew.new.steps c.go_back.new.steps anew.2.thrown back)

pub returns-clause-steps : goal.returns-clause-steps
returns-clause-steps g c =
    let anew = when_none _ c.in_ok-turns.field-0 c.in_default.is c.in_ok-turns.ensures.tried in
    let at : c.tried_or_anew.new.steps ≡ c.args.steps.now + (c.count.result - c.count-before.result) = omega (arith, c.count.ensures, c.count-before.ensures, c.tried_or_anew.ensures.later) in
    let within = subst (λ (ls : List MapLine). IsWithinSpread c.args.change.now.old.now ls c.args.change.now.new.now c.tried_or_anew.new.steps c.go_back.new.steps) anew.1 c.in_ok-go_back.ensures.resumed.steps in
    subst (λ (n : ℕ). IsWithinSpread c.args.change.now.old.now c.args.state.now.lines c.args.change.now.new.now n c.go_back.new.steps) at within
