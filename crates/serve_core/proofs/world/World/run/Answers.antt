use Rattle.std.proofs.Common.{rules, ◌≡◌, ◌∙◌, ◌∷◌, suc, List, All, None, Some, reverse, ap, sym, subst, arith}
use Rattle.published_map.specs.Version.{Version}
use Rattle.lane_model.specs.Histories.{Follows}
use Rattle.lane_model.specs.Lawful.{IsLawful}
use Rattle.lane_model.specs.Machine.{Machine}
use Rattle.lane_model.specs.Replies.{replies}
use Rattle.serve_core.specs.declared.event.Event.{Event}
use Rattle.serve_core.specs.Events.{IsEventFor, RunsTo}
use Rattle.serve_core.proofs.Kept.{first_of_reversed, kept_step, refused_here, reverse_twice, still_for, taken_more}
use Rattle.serve_core.proofs.Minded.{run_minded}
use Rattle.serve_core.proofs.world.World.run.Goals as goal

pub loop-event-init : goal.loop-event-init
loop-event-init c =
    let twice : reverse c.backwards-behind.result.items ≡ c.args.events.items = ap (λ (es : List Event). reverse es) c.backwards-behind.ensures ∙ reverse_twice c.args.events.items in (
      λ m' f r. subst (λ (es : List Event). RunsTo es c.args.self.now m' f) twice r,
      λ v n. subst (λ (es : List Event). All (IsEventFor v.market) es) (sym twice) (c.requires v n),
      λ first kept. kept,
    )

pub step-requires : goal.step-requires
step-requires c =
    let front : reverse c.loop-event.behind.items ≡ c.in-Some.event ∷ reverse c.pop.new.self.items = first_of_reversed c.loop-event.behind.items c.pop.new.self.items c.in-Some.event c.in-Some.ensures.items in
    λ v n. subst (λ (es : List Event). All (IsEventFor v.market) es) front (c.loop-event.invariant.1 v n) 0 c.in-Some.event (omega arith)

pub loop-event-preserved : goal.loop-event-preserved
loop-event-preserved c =
    let m = c.loop-event.self in
    let e = c.in-Some.event in
    let rest = reverse c.pop.new.self.items in
    let front : reverse c.loop-event.behind.items ≡ e ∷ rest = first_of_reversed c.loop-event.behind.items c.pop.new.self.items e c.in-Some.ensures.items in (
      λ m' f r. c.loop-event.invariant.0 m' f (subst (λ (es : List Event). RunsTo es m m' f) (sym front) (taken_more e rest m c.step.new.self m' f c.in-Ok.ensures.ok r)),
      λ v n. let all = still_for e (e ∷ rest) m c.step.new.self c.in-Ok.ensures.ok (λ w k. subst (λ (es : List Event). All (IsEventFor w.market) es) front (c.loop-event.invariant.1 w k)) v n in λ k d lt. all (suc k) d (omega (arith, lt)),
      λ first kept. kept_step e m c.step.new.self first c.in-Ok.ensures.ok (c.loop-event.invariant.2 first kept),
    )

pub returns-in-Err-clause-runs : goal.returns-in-Err-clause-runs
returns-in-Err-clause-runs c =
    let m = c.loop-event.self in
    let e = c.in-Some.event in
    let rest = reverse c.pop.new.self.items in
    let front : reverse c.loop-event.behind.items ≡ e ∷ rest = first_of_reversed c.loop-event.behind.items c.pop.new.self.items e c.in-Some.ensures.items in
    c.loop-event.invariant.0 c.step.new.self (Some c.in-Err.fault) (subst (λ (es : List Event). RunsTo es m c.step.new.self (Some c.in-Err.fault)) (sym front) (refused_here e rest m c.step.new.self c.in-Err.fault c.in-Err.ensures.refused c.in-Err.ensures.same))

pub returns-in-Err-clause-kept : goal.returns-in-Err-clause-kept
returns-in-Err-clause-kept c = λ first kept. subst (λ (m : Machine Version). IsLawful replies Follows first m) (sym c.in-Err.ensures.same) (c.loop-event.invariant.2 first kept)

pub returns-in-Err-clause-minded : goal.returns-in-Err-clause-minded
returns-in-Err-clause-minded c = run_minded c.args.events.items c.args.self.now c.step.new.self (Some c.in-Err.fault) (returns-in-Err-clause-runs c)

pub returns-clause-minded : goal.returns-clause-minded
returns-clause-minded c = let runs : RunsTo c.args.events.items c.args.self.now c.loop-event.self None = search rules in run_minded c.args.events.items c.args.self.now c.loop-event.self None runs
