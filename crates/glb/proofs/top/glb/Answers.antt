use Rattle.std.proofs.Common.{rules, ◌≡◌, ◌∙◌, [], ◌++◌, map, refl, ap, sym, append-nil}
use Rattle.glb.proofs.First.{same_lent}
use Rattle.glb.proofs.Tasks.{none_behind, promised_over, same_surroundings, unread}
use Rattle.glb.proofs.top.glb.Goals as goal

pub returns-in-Ok : goal.returns-in-Ok
returns-in-Ok g c =
    let none : c.split_at_mut-all.result.1.now ≡ [] = none_behind _ _ _ c.split_at_mut-all.ensures.value (c.split_at_mut-all.ensures.front_len ∙ sym c.requires.lanes) in
    let front : c.split_at_mut-all.result.0.now ≡ c.args.lanes.now = sym (c.split_at_mut-all.ensures.value ∙ ap (λ l. c.split_at_mut-all.result.0.now ++ l) none ∙ append-nil c.split_at_mut-all.result.0.now) in
    let feed : c.run_order.new.lent.feed.now ≡ c.feed-1.given.0 = search rules in
    let more : c.run_order.new.lent.more.now ≡ c.more-1.given.0 = search rules in
    let out : c.run_order.new.lent.out.now ≡ c.out-1.given.0 = search rules in
    let maps : c.run_order.new.lent.maps.now ≡ c.maps-1.given.0 = search rules in
    let pace : c.run_order.new.lent.pace.now ≡ c.pace-1.given.0 = search rules in
    let lanes : c.run_order.new.lent.lanes.now ≡ c.all-1.given.0 ++ c.split_at_mut-all.result.1.now = search rules in
    promised_over _ _ _ _ _ _ _ _ _ refl c.in-Ok.ensures.asked
    (same_surroundings _ _ _ (same_lent _ _ _ _ _ _ _ _ _ _ _ _ _ _ refl refl refl refl refl front refl))
    (same_surroundings _ _ _ (same_lent _ _ _ _ _ _ _ _ _ _ _ _ _ _ (ap g.S.Source.told feed) (ap (map g.N.Source.told) more) (ap g.K.Sink.told out) (ap g.K.Sink.told maps) (ap g.M.Pace.told pace) lanes refl))
    c.run_order.ensures.promised

pub returns-in-Err : goal.returns-in-Err
returns-in-Err g c = unread _ _ _
