use Rattle.std.proofs.Common.{◌||◌, ◌<◌, All, List, length, slice_set, true, sym, ap, ◌∙◌, subst, arith}
use Rattle.std.proofs.lemmas.List.{length-set}
use Rattle.evict.specs.declared.freed.Eviction.{Eviction}
use Rattle.map_model.specs.Market.{Market}
use Rattle.deferred_accept.specs.Work.{gave_any, is_on}
use Rattle.deferred_accept.proofs.Courses.{course_start, course_step, groups_step, waited_step, worth_step}
use Rattle.deferred_accept.proofs.Turns.{covers_step}
use Rattle.deferred_accept.proofs.tests.plain_run.Goals as goal

pub loop-offer-init : goal.loop-offer-init
loop-offer-init c = record {
  course = course_start c.args.instance.now c.args.state.now c.args.steps.now c.requires;
  covered = record { count = c.in_ok-work.ensures.count; waiting = λ h w. c.in_ok-work.ensures.all h w.group };
}

pub wake_first-requires : goal.wake_first-requires
wake_first-requires c = subst (λ (es : List Eviction). All (λ (e : Eviction). e.offer.group.0 < length c.add_first.new.self) es) (sym c.evictions-given_up.ensures)
    (λ i d l. omega (
      arith,
      groups_step c.args.instance.now c.loop-offer.state c.offer_or_skip.new.state c.in-Some.offer.group.0 c.offer_or_skip.new.freed c.loop-offer.steps c.offer_or_skip.new.steps c.in_ok-offer_or_skip.ensures.stepped i d l,
      ap length c.in_ok-add_first.ensures,
      length-set c.next_offer.new.work c.in-Some.offer.group.0 true,
      c.in-Some.ensures.covered.count,
    ))

pub loop-offer-smaller : goal.loop-offer-smaller
loop-offer-smaller c =
    worth_step c.args.instance.now c.loop-offer.state c.offer_or_skip.new.state c.in-Some.offer.group.0 c.offer_or_skip.new.freed c.loop-offer.steps c.offer_or_skip.new.steps c.loop-offer.invariant.course.run.ready c.in_ok-offer_or_skip.ensures.stepped

pub loop-offer-preserved : goal.loop-offer-preserved
loop-offer-preserved c =
    let m : Market = c.args.instance.now in
    let o = c.in-Some.offer in
    let stepped = c.in_ok-offer_or_skip.ensures.stepped in
    record {
      course = course_step m c.args.state.now c.loop-offer.state c.offer_or_skip.new.state o.group.0 c.offer_or_skip.new.freed c.args.steps.now c.loop-offer.steps c.offer_or_skip.new.steps c.loop-offer.invariant.course stepped;
      covered = covers_step m c.loop-offer.state c.offer_or_skip.new.state o.group.0 c.offer_or_skip.new.freed c.next_offer.new.work c.wake_first.new.work c.in-Some.ensures.covered
          (waited_step m c.loop-offer.state c.offer_or_skip.new.state o.group.0 c.offer_or_skip.new.freed c.loop-offer.steps c.offer_or_skip.new.steps c.loop-offer.invariant.course.run.ready stepped) c.in-Some.ensures.due.waiting.group
          (c.in_ok-wake_first.ensures.count ∙ ap length c.in_ok-add_first.ensures ∙ length-set c.next_offer.new.work o.group.0 true)
          (λ h l. c.in_ok-wake_first.ensures.each h (omega (arith, ap length c.in_ok-add_first.ensures, length-set c.next_offer.new.work o.group.0 true)) ∙ ap (λ ws. is_on ws h || gave_any c.evictions-given_up.result.now h) c.in_ok-add_first.ensures ∙ ap (λ f. is_on (slice_set c.next_offer.new.work o.group.0 true) h || gave_any f h) c.evictions-given_up.ensures);
    }
