use Rattle.std.proofs.Common.{rules, ◌≡◌, ◌∙◌, ◌<◌, ◌≤◌, length, Some, List, slice_get, slice_index_or, ap, subst, arith}
use Rattle.outside.specs.Port.{Packet}
use Rattle.published_map.specs.Version.{Version}
use Rattle.lane_model.specs.Machine.{LaneState, Machine, fresh}
use Rattle.serve_core.specs.Events.{lane_at}
use Rattle.serve_core.specs.Takings.{IsTakenBy}
use Rattle.serve_core.proofs.Kept.{any_default}
use Rattle.serve_core.proofs.world.World.take.Goals as goal

pub take-requires : goal.take-requires
take-requires c =
    let is : slice_get c.self.inside.versions.items c.args.serial ≡ Some c.version_at-version.result.now = subst (λ xs. slice_get xs c.args.serial ≡ Some c.version_at-version.result.now) c.as_slice.ensures.value c.version_at-version.ensures in
    (c.self.invariant.versions c.args.serial c.version_at-version.result.now is).0

pub returns-clause-ok : goal.returns-clause-ok
returns-clause-ok c =
    let m = c.args.self.now in
    let d : Packet = record { octets = c.args.octets; from = c.args.from } in
    let lt : c.args.lane < length m.lanes = search rules in
    let there : c.args.serial < length m.history = let n = c.newest-newest.ensures in omega (arith, n) in
    let is : slice_get m.history c.args.serial ≡ Some c.version_at-version.result.now = subst (λ xs. slice_get xs c.args.serial ≡ Some c.version_at-version.result.now) (c.as_slice.ensures.value ∙ ap (λ (w : Machine Version). w.history) c.self.view_is) c.version_at-version.ensures in
    let lanes : c.self.inside.lanes.items ≡ m.lanes = ap (λ (w : Machine Version). w.lanes) c.self.view_is in
    let within : c.args.lane < length c.self.inside.lanes.items = let same = ap (λ (ls : List LaneState). length ls) lanes in omega (arith, same, lt) in
    let row_is : c.index_mut-row.result.now ≡ lane_at m c.args.lane = c.index_mut-row.ensures.value ∙ any_default c.self.inside.lanes.items c.args.lane _ fresh within ∙ ap (λ (ls : List LaneState). slice_index_or ls c.args.lane fresh) lanes in
    let seen_is : c.index.result.now ≡ lane_at m c.args.lane = c.index.ensures ∙ any_default c.self.inside.lanes.items c.args.lane _ fresh within ∙ ap (λ (ls : List LaneState). slice_index_or ls c.args.lane fresh) lanes in
    let le : (lane_at m c.args.lane).seen ≤ c.args.serial = subst (λ (l : LaneState). l.seen ≤ c.args.serial) seen_is (let s = c.seen-seen.ensures in let f = c.if-serial-seen.false in omega (arith, s, f)) in
    let taken : IsTakenBy c.version_at-version.result.now c.args.lane d c.args.serial c.args.way (lane_at m c.args.lane) c.take.new.self = subst (λ (l : LaneState). IsTakenBy c.version_at-version.result.now c.args.lane d c.args.serial c.args.way l c.take.new.self) row_is c.in_ok-take.ensures.ok in
    (c.version_at-version.result.now, c.take.new.self, lt, there, is, le, taken, search rules)
