use Rattle.std.proofs.Common.{rules, ◌≡◌, ◌∙◌, ◌++◌, [], inl, length, map, refl, vec_len, ◌≢◌, ◌∷◌, List, ap, subst, sym, ℕ}
use Rattle.demand_feed.specs.declared.run.FeedEnd.TheVariants.{SinkFault}
use Rattle.published_map.specs.Version.{Version}
use Rattle.mapper.specs.Notes.{AreTold}
use Rattle.std.proofs.lemmas.List.{length-map}
use Rattle.drive.proofs.Ends.{sole_history}
use Rattle.drive.proofs.Growing.{feed_goes_on, feed_over}
use Rattle.drive.proofs.Served.{are_served}
use Rattle.drive.proofs.Together.{are_done_in, ended_as, may_same}
use Rattle.drive.specs.Driven.{IsDriven}
use Rattle.drive.proofs.whole.drive_one.Goals as goal

pub returns-clause-driven : goal.returns-clause-driven
returns-clause-driven g c =
    let s = c.serve_beside.ensures in
    let f = s.fed.has in
    let b = c.serve_beside.new.feed in
    let opened = sole_history c.args.mapper.history c.args.mapper.newest c.newest.ensures.last c.requires.serial in
    let done = are_served c.args.lent.now.turns c.args.mapper.newest c.args.mapper.history b.mapper.now c.split_at_mut-served.result.0.now c.serve_beside.new.lanes c.args.stream.now c.serve_beside.new.stream c.args.works c.serve_beside.new.works opened f.kept c.requires.fresh c.requires.listener (search rules) s.served in
    let size : length c.serve_beside.new.works.lanes.items ≡ vec_len c.args.works.lanes = search (rules, s.served.len) in
    let out : c.lent-3-1.given.0 ≡ b.to.out.now = search rules in
    let maps : c.lent-2-1.given.0 ≡ b.to.maps.now = search rules in
    let pace : c.lent-1.given.0 ≡ b.to.pace.now = search rules in
    let driven : (d : IsDriven c.args.lent.now.turns c.args.mapper.newest b.end (map (λ w. w.ended) c.serve_beside.new.works.lanes.items) c.end_of.result
    (record { feed = g.S.Source.told c.args.lent.now.feed.now; more = []; out = g.K.Sink.told c.args.lent.now.out.now; maps = g.K.Sink.told c.args.lent.now.maps.now; pace = g.M.Pace.told c.args.lent.now.pace.now; lanes = c.args.lent.now.lanes.now; stream = c.args.stream.now })
    (record { feed = g.S.Source.told b.feed.now; more = []; out = g.K.Sink.told b.to.out.now; maps = g.K.Sink.told b.to.maps.now; pace = g.M.Pace.told b.to.pace.now; lanes = (c.serve_beside.new.lanes ++ c.split_at_mut-served.result.1.now); stream = c.serve_beside.new.stream })) × (b.end ≢ SinkFault → AreTold (c.args.mapper.newest ∷ d.rest) b.to.told) = (
      record {
        rest = done.0;
        newest = b.mapper.now.newest;
        feed = (feed_over _ _ _ _ _ _ _ _ _ _ _ _ _ _ _ _ _ opened done.1 s.fed.run, s.fed.tied, refl);
        goes_on = feed_goes_on _ _ _ _ _ _ _ c.args.mapper.newest done.0 s.fed.run refl opened done.1 s.served.noted.1;
        lanes = are_done_in (λ w. w.ended) _ _ _ _ _ _ _ _ c.split_at_mut-served.ensures.value done.2.0;
        stream = ended_as _ _ _ _ _ _ _ _ _ done.2.1 (length-map _ _ ∙ search rules) c.end_of.ensures;
      },
      (λ whole. subst (λ (h : List Version). AreTold h b.to.told) done.1 (s.fed.announced whole (c.tell_first-told.ensures (ap length opened)))),
    ) in
    rw (c.requires.one, out, maps, pace) (map (λ w. w.ended) c.serve_beside.new.works.lanes.items, length-map _ _ ∙ size, c.ends_of.ensures, driven.0, λ whole. subst (λ (n : ℕ). AreTold (c.args.mapper.newest ∷ driven.0.rest) n) (sym c.told-told.ensures) (driven.1 whole))

pub returns-clause-stream : goal.returns-clause-stream
returns-clause-stream g c =
    let s = c.serve_beside.ensures.served in
    let same = may_same _ _ _ _ _ _ _ _ s.stream_ran s.stream_closed in search (rules, same)

pub returns-clause-counted : goal.returns-clause-counted
returns-clause-counted g c =
    let f = c.serve_beside.ensures.fed in
    let out : c.lent-3-1.given.0 ≡ c.serve_beside.new.feed.to.out.now = search rules in
    let maps : c.lent-2-1.given.0 ≡ c.serve_beside.new.feed.to.maps.now = search rules in
    rw (c.requires.one, out, maps)
    (record {
      later = (f.has.later.0, f.has.later.1, f.later, refl);
      sink = f.has.sink;
      sink_stays = f.has.sink_stays;
      source = λ is. inl (f.tied.rose is);
      source_stays = λ other one. (f.tied.stays other, refl);
    })
