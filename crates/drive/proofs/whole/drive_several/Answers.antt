use Rattle.std.proofs.Common.{rules, ◌≡◌, ◌∙◌, ◌++◌, [], All, length, map, refl, ap, sym, subst, vec_len}
use Rattle.std.specs.Arc.{arc_value}
use Rattle.std.proofs.lemmas.List.{length-map}
use Rattle.std.proofs.lemmas.List.FromFn.{length-range_with_len}
use Rattle.atomic_table.specs.Seated.{TableId}
use Rattle.feed_queue.specs.Ends.{FeederState, TakerState}
use Rattle.drive.proofs.Ends.{sole_history}
use Rattle.drive.proofs.Growing.{feeds_go_on, together_over}
use Rattle.drive.proofs.Several.{are_fed, fresh_all, queues, several, some_told}
use Rattle.drive.proofs.Served.{are_served}
use Rattle.drive.proofs.Together.{are_done_in, ended_as, may_same}
use Rattle.drive.specs.Driven.{IsDriven}
use Rattle.drive.specs.Queue.{IsFeedQueue}
use Rattle.drive.proofs.whole.drive_several.Goals as goal

pub run_among-requires-clause-first : goal.run_among-requires-clause-first
run_among-requires-clause-first g c κs within = ap (λ s. s.sent) c.in-Ok.ensures.queue.first

pub run_among-requires-clause-fresh : goal.run_among-requires-clause-fresh
run_among-requires-clause-fresh g c κs within = subst (λ items. All (λ f. f.sent ≡ []) items) (sym c.in-Ok.ensures.queue.feeders) (fresh_all c.in-Ok.queue.taker.queue 1 _)

pub run_among-requires-clause-feeds : goal.run_among-requires-clause-feeds
run_among-requires-clause-feeds g c κs within =
    let n = ap (λ items. length items) c.in-Ok.ensures.queue.feeders ∙ length-map _ _ ∙ length-range_with_len 1 _ in
    search (rules, n)

pub all_back-requires-clause-queue : goal.all_back-requires-clause-queue
all_back-requires-clause-queue g c =
    let s = c.run_among.ensures in
    let taker : c.taker-2-1.given.0 ≡ c.run_among.new.loan.side.taker.now = search rules in
    let feeders : c.feeders-2-1.given.0 ≡ c.run_among.new.loan.readers.feeders.now = search rules in
    let queue : c.in-Ok.queue.taker.queue ≡ c.taker-2-1.given.0.queue = sym (ap (λ (t : TakerState). t.queue) taker ∙ s.fed.queue.0) in
    rw feeders (subst (λ (q : TableId). All (λ (f : FeederState). f.queue ≡ q) c.run_among.new.loan.readers.feeders.now.items) queue
    (queues (arc_value c.in-Ok.queue.context.topology) c.in-Ok.queue.context.turns g.T.Source.told c.in-Ok.queue.taker.queue 1 _ c.args.lent.now.more.now c.run_among.new.loan.more.now c.in-Ok.queue.feeders.items c.run_among.new.loan.readers.feeders.now.items c.in-Ok.ensures.queue.feeders s.sent))

pub returns-clause-driven : goal.returns-clause-driven
returns-clause-driven g c =
    let s = c.run_among.ensures in
    let q : IsFeedQueue g.N.Numbers.groups g.N.Numbers.nodes (length c.args.lent.now.more.now) c.args.mapper.newest.plan c.in-Ok.queue = search rules in
    let opened = sole_history c.args.mapper.history c.args.mapper.newest c.newest.ensures.last c.requires.serial in
    let done = are_served c.in-Ok.queue.context.turns c.args.mapper.newest c.args.mapper.history c.run_among.new.loan.side.mapper.now c.split_at_mut-served.result.0.now c.run_among.new.loan.lanes.now c.args.stream.now c.run_among.new.stream c.args.works c.run_among.new.works opened s.fed.has.kept (rw c.in-Ok.ensures.turns c.requires.fresh) (rw c.in-Ok.ensures.turns c.requires.listener) (search rules) s.served in
    let size : length c.run_among.new.works.lanes.items ≡ vec_len c.args.works.lanes = search (rules, s.served.len) in
    let taker : c.taker-2-1.given.0 ≡ c.run_among.new.loan.side.taker.now = search rules in
    let first : c.first-2-1.given.0 ≡ c.run_among.new.loan.readers.first.now = search rules in
    let feeders : c.feeders-2-1.given.0 ≡ c.run_among.new.loan.readers.feeders.now = search rules in
    let feed : c.lent-4-1.given.0 ≡ c.run_among.new.loan.readers.feed.now = search rules in
    let more : c.more-2-1.given.0 ≡ c.run_among.new.loan.more.now = search rules in
    let out : c.lent-3-1.given.0 ≡ c.run_among.new.loan.side.out.now = search rules in
    let maps : c.lent-2-1.given.0 ≡ c.run_among.new.loan.side.maps.now = search rules in
    let pace : c.lent-1.given.0 ≡ c.run_among.new.loan.side.pace.now = search rules in
    let lanes : c.served-1.given.0 ≡ c.run_among.new.loan.lanes.now = search rules in
    let run = several (arc_value c.in-Ok.queue.context.topology) c.args.mapper.newest.plan c.in-Ok.queue.context.turns g.T.Source.told g.N.Numbers.groups g.N.Numbers.nodes (g.S.Source.told c.args.lent.now.feed.now) (g.S.Source.told c.run_among.new.loan.readers.feed.now) _ _ c.args.lent.now.more.now c.run_among.new.loan.more.now c.in-Ok.queue.feeders.items c.run_among.new.loan.readers.feeders.now.items c.in-Ok.queue.taker c.taker-2-1.given.0 c.run_among.new.loan.side.taker.now _ _ _ q.topology taker s.fed.queue.1 q.taker q.first q.feeders s.first s.sent c.all_back.ensures.taken (rw (sym first) c.all_back.ensures.first) (rw (sym feeders) c.all_back.ensures.begins) s.fed.run s.fed.merged in
    let driven : IsDriven c.in-Ok.queue.context.turns c.args.mapper.newest c.run_among.new.loan.side.end (map (λ w. w.ended) c.run_among.new.works.lanes.items) c.end_of.result
    (record { feed = g.S.Source.told c.args.lent.now.feed.now; more = map g.T.Source.told c.args.lent.now.more.now; out = g.K.Sink.told c.args.lent.now.out.now; maps = g.K.Sink.told c.args.lent.now.maps.now; pace = g.M.Pace.told c.args.lent.now.pace.now; lanes = c.args.lent.now.lanes.now; stream = c.args.stream.now })
    (record { feed = g.S.Source.told c.run_among.new.loan.readers.feed.now; more = map g.T.Source.told c.run_among.new.loan.more.now; out = g.K.Sink.told c.run_among.new.loan.side.out.now; maps = g.K.Sink.told c.run_among.new.loan.side.maps.now; pace = g.M.Pace.told c.run_among.new.loan.side.pace.now; lanes = (c.run_among.new.loan.lanes.now ++ c.split_at_mut-served.result.1.now); stream = c.run_among.new.stream }) =
    record {
      rest = done.0;
      newest = c.run_among.new.loan.side.mapper.now.newest;
      feed = are_fed _ _ _ _ _ _ _ _ _ (some_told g.T.Source.told c.args.lent.now.more.now c.requires.several.0) (together_over _ _ _ _ _ _ _ _ _ _ _ _ _ _ _ _ _ _ _ opened done.1 run.fed);
      goes_on = feeds_go_on _ _ _ _ _ c.args.mapper.newest done.0 s.fed.run refl opened done.1 s.served.noted.1;
      lanes = are_done_in (λ w. w.ended) _ _ _ _ _ _ _ _ c.split_at_mut-served.ensures.value done.2.0;
      stream = ended_as _ _ _ _ _ _ _ _ _ done.2.1 (length-map _ _ ∙ search rules) c.end_of.ensures;
    } in
    rw (sym c.in-Ok.ensures.turns, feed, more, out, maps, pace, lanes) (map (λ w. w.ended) c.run_among.new.works.lanes.items, length-map _ _ ∙ size, c.ends_of.ensures, driven, λ whole. tt)

pub returns-clause-stream : goal.returns-clause-stream
returns-clause-stream g c =
    let s = c.run_among.ensures.served in
    let same = may_same _ _ _ _ _ _ _ _ s.stream_ran s.stream_closed in search (rules, same)

pub returns-clause-counted : goal.returns-clause-counted
returns-clause-counted g c =
    let s = c.run_among.ensures in
    let q : IsFeedQueue g.N.Numbers.groups g.N.Numbers.nodes (length c.args.lent.now.more.now) c.args.mapper.newest.plan c.in-Ok.queue = search rules in
    let taker : c.taker-2-1.given.0 ≡ c.run_among.new.loan.side.taker.now = search rules in
    let first : c.first-2-1.given.0 ≡ c.run_among.new.loan.readers.first.now = search rules in
    let feeders : c.feeders-2-1.given.0 ≡ c.run_among.new.loan.readers.feeders.now = search rules in
    let feed : c.lent-4-1.given.0 ≡ c.run_among.new.loan.readers.feed.now = search rules in
    let more : c.more-2-1.given.0 ≡ c.run_among.new.loan.more.now = search rules in
    let out : c.lent-3-1.given.0 ≡ c.run_among.new.loan.side.out.now = search rules in
    let maps : c.lent-2-1.given.0 ≡ c.run_among.new.loan.side.maps.now = search rules in
    let run = several (arc_value c.in-Ok.queue.context.topology) c.args.mapper.newest.plan c.in-Ok.queue.context.turns g.T.Source.told g.N.Numbers.groups g.N.Numbers.nodes (g.S.Source.told c.args.lent.now.feed.now) (g.S.Source.told c.run_among.new.loan.readers.feed.now) _ _ c.args.lent.now.more.now c.run_among.new.loan.more.now c.in-Ok.queue.feeders.items c.run_among.new.loan.readers.feeders.now.items c.in-Ok.queue.taker c.taker-2-1.given.0 c.run_among.new.loan.side.taker.now _ _ _ q.topology taker s.fed.queue.1 q.taker q.first q.feeders s.first s.sent c.all_back.ensures.taken (rw (sym first) c.all_back.ensures.first) (rw (sym feeders) c.all_back.ensures.begins) s.fed.run s.fed.merged in
    rw (feed, more, out, maps)
    (record {
      later = (s.fed.has.later.0, s.fed.has.later.1, run.later.0, run.later.1);
      sink = s.fed.has.sink;
      sink_stays = s.fed.has.sink_stays;
      source = run.source;
      source_stays = λ other one. run.stays other (λ sink. some_told g.T.Source.told c.args.lent.now.more.now c.requires.several.0 (one sink));
    })
