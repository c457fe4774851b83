use Rattle.std.proofs.Common.{rules, ◌≡◌, [], ◌++◌, append-nil, length, map, ap, sym, ◌∙◌}
use Rattle.std.proofs.lemmas.List.{length-map, map-append}
use Rattle.drive.specs.Driven.{LentTold}
use Rattle.drive.specs.Told.{lent_of}
use Rattle.glb.specs.Commands.{service_asked}
use Rattle.glb.specs.Starting.{Begun}
use Rattle.glb.proofs.First.{same_lent, served_session, starts, unfed_session}
use Rattle.glb.proofs.Tasks.{none_behind}
use Rattle.glb.proofs.Named.{none_named}
use Rattle.glb.proofs.serve.serve_first.Goals as goal

pub drive-requires-clause-viewers : goal.drive-requires-clause-viewers
drive-requires-clause-viewers g c κs within = c.requires.viewers.1

pub drive-requires-clause-listener : goal.drive-requires-clause-listener
drive-requires-clause-listener g c κs within = c.requires.listener.1

pub returns-in-Err-clause-served : goal.returns-in-Err-clause-served
returns-in-Err-clause-served g c =
    let n = c.in-Err.ensures.no_memory in
    let opened : c.opened-1.given.0 ≡ c.drive.new.lent.more.now = search rules in
    let served : c.all-1.given.0 ≡ c.drive.new.lent.lanes.now = search rules in
    let all = ap (λ xs. xs ++ c.split_at_mut-opened.result.1.now) (opened ∙ n.0.1) ∙ sym c.split_at_mut-opened.ensures.value in
    let lanes = ap (λ xs. xs ++ c.split_at_mut-all.result.1.now) (served ∙ n.0.4) ∙ sym c.split_at_mut-all.ensures.value in
    let before : LentTold = lent_of g.S.Source.told g.N.Source.told g.K.Sink.told g.M.Pace.told c.args.lent.now c.args.stream.now in
    let behind : Begun = record { more = map g.N.Source.told c.start_lanes.new.feeds; maps = g.K.Sink.told c.start_lanes.new.maps; lanes = c.start_lanes.new.lanes; stream = c.start_lanes.new.stream } in
    let begin = starts (service_asked c.args.service.now) c.args.crew.mapper.newest c.text.result.now before behind c.text.ensures c.in-Ready.ensures.start in
    unfed_session _ (service_asked c.args.service.now) _ _ _ _ begin
    (same_lent _ _ _ _ _ _ _ _ _ _ _ _ _ _ (ap g.S.Source.told n.0.0) (ap (map g.N.Source.told) all) (ap g.K.Sink.told n.0.2) (ap g.K.Sink.told n.0.3) (ap g.M.Pace.told n.0.5) lanes n.1)

pub returns-in-Ok-clause-served : goal.returns-in-Ok-clause-served
returns-in-Ok-clause-served g c =
    let d = c.in-Ok.ensures.driven in
    let k = c.in-Ok.ensures.counted in
    let opened : c.opened-1.given.0 ≡ c.drive.new.lent.more.now = search rules in
    let served : c.all-1.given.0 ≡ c.drive.new.lent.lanes.now = search rules in
    let whole : length c.split_at_mut-all.result.0.now ≡ length c.start_lanes.new.lanes = search rules in
    let none : c.split_at_mut-all.result.1.now ≡ [] = none_behind _ _ _ c.split_at_mut-all.ensures.value whole in
    let front : c.start_lanes.new.lanes ≡ c.split_at_mut-all.result.0.now = c.split_at_mut-all.ensures.value ∙ ap (λ l. c.split_at_mut-all.result.0.now ++ l) none ∙ append-nil c.split_at_mut-all.result.0.now in
    let lanes : c.all-1.given.0 ++ c.split_at_mut-all.result.1.now ≡ c.drive.new.lent.lanes.now = ap (λ l. c.all-1.given.0 ++ l) none ∙ append-nil c.all-1.given.0 ∙ served in
    let tell = g.N.Source.told in
    let before : LentTold = lent_of g.S.Source.told tell g.K.Sink.told g.M.Pace.told c.args.lent.now c.args.stream.now in
    let behind : Begun = record { more = map tell c.start_lanes.new.feeds; maps = g.K.Sink.told c.start_lanes.new.maps; lanes = c.start_lanes.new.lanes; stream = c.start_lanes.new.stream } in
    let begin = starts (service_asked c.args.service.now) c.args.crew.mapper.newest c.text.result.now before behind c.text.ensures c.in-Ready.ensures.start in
    rw (opened, lanes)
    (served_session _ (service_asked c.args.service.now) _ _ _ _ (map tell c.split_at_mut-opened.result.0.now) (map tell c.drive.new.lent.more.now) (map tell c.split_at_mut-opened.result.1.now) c.in-Ok.end.feed c.in-Ok.end.lanes c.in-Ok.end.stream _ begin
    (ap (map tell) c.split_at_mut-opened.ensures.value ∙ map-append tell _ _) (map-append tell _ _) (length-map _ tell ∙ search rules) (length-map _ tell ∙ search rules ∙ sym (length-map _ tell))
    (d.0, d.1 ∙ search rules, d.2, rw front d.3) (search rules) c.status_of.ensures k.source (λ other one. k.source_stays other (λ sink. ap (map tell) (none_named _ _ (search rules) (one sink)))) k.sink k.sink_stays
    (k.later.2, k.later.0, k.later.1, k.later.3))
