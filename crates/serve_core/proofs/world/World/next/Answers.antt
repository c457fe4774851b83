use Rattle.std.proofs.Common.{rules, ◌≡◌, ◌≢◌, ◌∙◌, ℕ, ◌+◌, ◌-◌, List, length, slice_get, Some, ap, sym, subst}
use Rattle.map_model.specs.Market.{IsSameShape, Market}
use Rattle.map_model.specs.Batch.{IsApplied, IsBatch}
use Rattle.map_model.proofs.Shapes.{shape_trans}
use Rattle.stable_check.specs.declared.verdict.Verdict.TheVariants.{Good}
use Rattle.topology_text.specs.Plan.{Plan}
use Rattle.published_map.specs.Version.{Version}
use Rattle.lane_model.specs.Machine.{Machine}
use Rattle.serve_core.specs.Events.{newest_of}
use Rattle.serve_core.specs.Worlds.{IsWorld}
use Rattle.serve_core.proofs.Kept.{commit_of, newest_found}
use Rattle.serve_core.proofs.world.World.next.Goals as goal

-- the world that is seen, and its newest version
seen : (inside now : Machine Version) (m : Market) (items : List Version) (n : ℕ) (old : Version) → inside ≡ now → IsWorld inside.history m inside.lanes → items ≡ inside.history → n + 1 ≡ length now.history → slice_get items n ≡ Some old
    → IsWorld now.history m now.lanes × (newest_of now.history ≡ Some old)
seen inside now m items n old is world same count at = (
  subst (λ (w : Machine Version). IsWorld w.history m w.lanes) is world,
  newest_found now.history items n old (same ∙ ap (λ (w : Machine Version). w.history) is) count at,
)

pub apply-requires : goal.apply-requires
apply-requires c =
    let old = c.version_at-last.result.now in
    let (world, here) = seen _ c.args.self.now c.self.inside.instance c.as_slice.result.now c.newest-newest.result old c.self.view_is c.self.invariant c.as_slice.ensures.value c.newest-newest.ensures c.version_at-last.ensures in
    subst (λ (m : Market). IsBatch m c.args.batch.now) (world.newest_is old here ∙ sym c.in_ok-instance.ensures) (c.requires old here)

pub returns-in_default : goal.returns-in_default
returns-in_default c =
    let old = c.version_at-last.result.now in
    let (world, here) = seen _ c.args.self.now c.self.inside.instance c.as_slice.result.now c.newest-newest.result old c.self.view_is c.self.invariant c.as_slice.ensures.value c.newest-newest.ensures c.version_at-last.ensures in
    let applied : IsApplied old.market c.args.batch.now c.apply.new.instance = subst (λ (m : Market). IsApplied m c.args.batch.now c.apply.new.instance) (c.in_ok-instance.ensures ∙ sym (world.newest_is old here)) c.apply.ensures in
    let bad : c.in_ok-verdict.verdict ≢ Good = search rules in
    record { next = tt; refused = (old, c.apply.new.instance, here, applied, c.in_ok-verdict.ensures, bad) }

pub make-requires-clause-shape : goal.make-requires-clause-shape
make-requires-clause-shape c =
    let h = c.args.self.now.history in
    let old = c.version_at-last.result.now in
    let (world, here) = seen _ c.args.self.now c.self.inside.instance c.as_slice.result.now c.newest-newest.result old c.self.view_is c.self.invariant c.as_slice.ensures.value c.newest-newest.ensures c.version_at-last.ensures in
    let applied : IsApplied old.market c.args.batch.now c.apply.new.instance = subst (λ (m : Market). IsApplied m c.args.batch.now c.apply.new.instance) (c.in_ok-instance.ensures ∙ sym (world.newest_is old here)) c.apply.ensures in
    let good = (world.versions (length h - 1) old here).0 in
    subst (λ (m : Market). IsSameShape m c.apply.new.instance) (sym (ap (λ (p : Plan). p.market) c.in_ok-shared.ensures.plan)) (shape_trans old.plan.market old.market c.apply.new.instance good.shape applied.shape)

pub returns-clause-next : goal.returns-clause-next
returns-clause-next c =
    let h = c.args.self.now.history in
    let old = c.version_at-last.result.now in
    let (world, here) = seen _ c.args.self.now c.self.inside.instance c.as_slice.result.now c.newest-newest.result old c.self.view_is c.self.invariant c.as_slice.ensures.value c.newest-newest.ensures c.version_at-last.ensures in
    let made = subst (λ (p : Plan). c.in_ok-version.version ≡ record { serial = c.newest-newest.result + 1; market = c.apply.new.instance; lines = c.args.map.now.lines.items; names = c.args.map.now.names.items; plan = p }) c.in_ok-shared.ensures.plan c.in_ok-version.ensures.value in
    commit_of h c.self.inside.instance c.apply.new.instance c.args.self.now.lanes old c.in_ok-version.version c.newest-newest.result c.args.batch.now c.args.map.now world here c.newest-newest.ensures
    (subst (λ (m : Market). IsApplied m c.args.batch.now c.apply.new.instance) c.in_ok-instance.ensures c.apply.ensures) made c.in_ok-version.ensures.version
