use Rattle.std.proofs.Common.{◌≡◌, ◌++◌, [], ◌∷◌, ◌∙◌, List, ap, subst, sym}
use Rattle.map_model.specs.Market.{Market}
use Rattle.published_map.specs.Version.{Version}
use Rattle.lane_model.specs.Machine.{LaneState, Machine}
use Rattle.serve_core.specs.Worlds.{IsWorld}
use Rattle.serve_core.proofs.Kept.{committed}
use Rattle.serve_core.proofs.world.World.commit.Goals as goal

pub invariant_of-self-2 : goal.invariant_of-self-2
invariant_of-self-2 c =
    let h = c.args.self.now.history in
    let v = c.in_ok-instance.version in
    let world : IsWorld h c.self.inside.instance c.args.self.now.lanes = subst (λ (w : Machine Version). IsWorld w.history c.self.inside.instance w.lanes) c.self.view_is c.self.invariant in
    let next = c.in_ok-instance.ensures.next in
    let done : IsWorld (h ++ v ∷ []) v.market c.args.self.now.lanes = committed h c.self.inside.instance c.args.self.now.lanes c.args.batch.now c.args.map.now v world next.0 in
    let items : c.push.new.self.items ≡ h ++ v ∷ [] = c.in-Ok.ensures.items ∙ ap (λ (xs : List Version). xs ++ v ∷ []) (ap (λ (w : Machine Version). w.history) c.self.view_is) in
    subst (λ (ls : List LaneState). IsWorld c.push.new.self.items c.in_ok-instance.instance ls) (sym (ap (λ (w : Machine Version). w.lanes) c.self.view_is))
    (subst (λ (m : Market). IsWorld c.push.new.self.items m c.args.self.now.lanes) next.1 (subst (λ (xs : List Version). IsWorld xs v.market c.args.self.now.lanes) (sym items) done))
