use Rattle.std.proofs.Common.{◌<◌, slice_index, ◌∙◌, arith}
use Rattle.map_model.specs.Market.{Market}
use Rattle.map_repair.proofs.Marking.{done_more, done_on, marked_on}
use Rattle.map_repair.proofs.reaching.follow.Goals as goal

pub unmarked_from-requires-clause-size : goal.unmarked_from-requires-clause-size
unmarked_from-requires-clause-size c = c.in_ok-mark_held.ensures.marking.count ∙ c.requires.size

pub unmarked_from-requires-clause-before : goal.unmarked_from-requires-clause-before
unmarked_from-requires-clause-before c = marked_on c.args.old.now c.args.marks.now c.mark_held.new.marks c.args.ahead.now c.in_ok-mark_held.ensures.marking c.requires.marked

pub returns-clause-done : goal.returns-clause-done
returns-clause-done c =
    let m : Market = c.args.old.now in
    let lines = c.args.state.now.lines in
    done_more m lines c.mark_held.new.marks.on c.args.done.now c.args.offer.group.0 (done_on m lines c.args.marks.now c.mark_held.new.marks c.args.done.now c.in_ok-mark_held.ensures.marking c.requires.done) c.in_ok-mark_held.ensures.held

pub returns-clause-within : goal.returns-clause-within
returns-clause-within c = λ trees closed here within n on.
    let before : c.args.offer.place < slice_index c.args.state.now.pointers c.args.offer.group.0 = omega (arith, c.if-offer-pointer.false, c.pointer.ensures) in
    c.in_ok-mark_held.ensures.within trees (λ k o some. closed c.args.offer.place k c.requires.offer before here o some) within n on
