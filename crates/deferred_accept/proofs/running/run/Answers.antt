use Rattle.std.proofs.Common.{◌||◌, ◌<◌, All, List, true, length, slice_set, sym, ap, ◌∙◌, subst, arith}
use Rattle.std.proofs.lemmas.List.{length-set}
use Rattle.evict.specs.declared.freed.Eviction.{Eviction}
use Rattle.map_model.specs.Market.{Market}
use Rattle.deferred_accept.specs.Work.{gave_any, is_on}
use Rattle.deferred_accept.proofs.Best.{ahead_many}
use Rattle.deferred_accept.proofs.Courses.{course_start, course_step, course_turned, due_turned, groups_step, rest_turned, waited_step, worth_step, worth_turned}
use Rattle.deferred_accept.proofs.Turns.{covers_step, worth-le}
use Rattle.deferred_accept.proofs.Within.{spread_end}
use Rattle.deferred_accept.proofs.running.run.Goals as goal

pub loop-offer-init : goal.loop-offer-init
loop-offer-init g c = record {
  course = course_start c.args.instance.now c.args.state.now c.args.steps.now c.requires;
  covered = record { count = c.in_ok-work.ensures.count; waiting = λ h w. c.in_ok-work.ensures.all h w.group };
  later = omega arith;
  ahead = tt;
}

pub offer_or_skip-requires-clause-ready : goal.offer_or_skip-requires-clause-ready
offer_or_skip-requires-clause-ready g c =
    let course = course_turned c.args.instance.now c.args.state.now c.loop-offer.state c.look.new.state c.args.steps.now c.loop-offer.steps c.look.new.steps c.loop-offer.invariant.course c.in_ok-look.ensures.turned in
    course.run.ready

pub offer_or_skip-requires-clause-due : goal.offer_or_skip-requires-clause-due
offer_or_skip-requires-clause-due g c =
    due_turned c.args.instance.now c.loop-offer.state c.look.new.state c.loop-offer.steps c.look.new.steps c.in-Some.offer c.in_ok-look.ensures.turned c.in-Some.ensures.due

pub wake-requires : goal.wake-requires
wake-requires g c = subst (λ (es : List Eviction). All (λ (e : Eviction). e.offer.group.0 < length c.add_again.new.work) es) (sym c.evictions-given_up.ensures)
    (λ i d l. omega (
      arith,
      groups_step c.args.instance.now c.look.new.state c.offer_or_skip.new.state c.in-Some.offer.group.0 c.offer_or_skip.new.freed c.look.new.steps c.offer_or_skip.new.steps c.in_ok-offer_or_skip.ensures.stepped i d l,
      ap length c.in_ok-add_again.ensures,
      length-set c.offer_ahead.new.work c.in-Some.offer.group.0 true,
      c.in-Some.ensures.covered.count,
    ))

pub loop-offer-smaller : goal.loop-offer-smaller
loop-offer-smaller g c =
    let m : Market = c.args.instance.now in
    let course = course_turned m c.args.state.now c.loop-offer.state c.look.new.state c.args.steps.now c.loop-offer.steps c.look.new.steps c.loop-offer.invariant.course c.in_ok-look.ensures.turned in
    omega (
      arith,
      worth_turned m c.loop-offer.state c.look.new.state c.loop-offer.steps c.look.new.steps c.loop-offer.invariant.course.run.ready c.in_ok-look.ensures.turned,
      worth_step m c.look.new.state c.offer_or_skip.new.state c.in-Some.offer.group.0 c.offer_or_skip.new.freed c.look.new.steps c.offer_or_skip.new.steps course.run.ready c.in_ok-offer_or_skip.ensures.stepped,
    )

pub loop-offer-preserved : goal.loop-offer-preserved
loop-offer-preserved g c =
    let m : Market = c.args.instance.now in
    let o = c.in-Some.offer in
    let turned = c.in_ok-look.ensures.turned in
    let stepped = c.in_ok-offer_or_skip.ensures.stepped in
    let course = course_turned m c.args.state.now c.loop-offer.state c.look.new.state c.args.steps.now c.loop-offer.steps c.look.new.steps c.loop-offer.invariant.course turned in
    let due = due_turned m c.loop-offer.state c.look.new.state c.loop-offer.steps c.look.new.steps o turned c.in-Some.ensures.due in
    let rest = rest_turned m c.loop-offer.state c.look.new.state c.loop-offer.steps c.look.new.steps o.group.0 c.offer_ahead.new.work turned c.in-Some.ensures.covered in
    let there = groups_step m c.look.new.state c.offer_or_skip.new.state o.group.0 c.offer_or_skip.new.freed c.look.new.steps c.offer_or_skip.new.steps stepped in
    let groups : All (λ (e : Eviction). e.offer.group.0 < length m.groups) c.evictions-given_up.result.now = subst (λ (es : List Eviction). All (λ (e : Eviction). e.offer.group.0 < length m.groups) es) (sym c.evictions-given_up.ensures) there in
    record {
      course = course_step m c.args.state.now c.look.new.state c.offer_or_skip.new.state o.group.0 c.offer_or_skip.new.freed c.args.steps.now c.look.new.steps c.offer_or_skip.new.steps course stepped;
      covered = covers_step m c.look.new.state c.offer_or_skip.new.state o.group.0 c.offer_or_skip.new.freed c.offer_ahead.new.work c.wake.new.work rest
          (waited_step m c.look.new.state c.offer_or_skip.new.state o.group.0 c.offer_or_skip.new.freed c.look.new.steps c.offer_or_skip.new.steps course.run.ready stepped) due.waiting.group
          (c.in_ok-wake.ensures.count ∙ ap length c.in_ok-add_again.ensures ∙ length-set c.offer_ahead.new.work o.group.0 true)
          (λ h l. c.in_ok-wake.ensures.each h (omega (arith, ap length c.in_ok-add_again.ensures, length-set c.offer_ahead.new.work o.group.0 true)) ∙ ap (λ ws. is_on ws h || gave_any c.evictions-given_up.result.now h) c.in_ok-add_again.ensures ∙ ap (λ f. is_on (slice_set c.offer_ahead.new.work o.group.0 true) h || gave_any f h) c.evictions-given_up.ensures);
      later = omega (arith, c.loop-offer.invariant.later, c.look.ensures.later, c.offer_or_skip.ensures.later);
      ahead = c.next_group-ahead.ensures (length m.groups) groups;
    }

pub returns-clause-steps : goal.returns-clause-steps
returns-clause-steps g c = omega (arith, c.loop-offer.invariant.course.counted, worth-le c.args.instance.now c.args.state.now)

pub returns-clause-ahead : goal.returns-clause-ahead
returns-clause-ahead g c =
    let made = c.loop-offer.invariant.course.proposed in
    ahead_many c.args.instance.now made.count c.args.state.now c.loop-offer.state c.requires made.proposals

pub returns-clause-inside : goal.returns-clause-inside
returns-clause-inside g c = λ trees work. spread_end c.args.instance.now trees c.args.state.now c.loop-offer.state c.args.steps.now c.loop-offer.steps (c.loop-offer.invariant.course.spread trees work)
