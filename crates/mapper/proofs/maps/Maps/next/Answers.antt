use Rattle.std.proofs.Common.{◌≡◌, ℕ, ◌+◌, ap, sym, subst, ◌∙◌}
use Rattle.std.proofs.lemmas.Option.{IfSome_then}
use Rattle.map_model.specs.Batch.{IsBatch}
use Rattle.map_model.proofs.NameForm.{IsMapForm-IsGood}
use Rattle.map_repair.specs.Repaired.{IsWithinTwiceSpread}
use Rattle.topology_text.specs.Plan.{Plan}
use Rattle.published_map.specs.Between.{IsBetween}
use Rattle.published_map.specs.Changes.{after}
use Rattle.published_map.specs.Version.{IsVersion, Version}
use Rattle.map_cell.specs.Ends.{PublisherState}
use Rattle.mapper.specs.Currents.{IsKeptFor, IsPrepared, IsWritten, Makes, version_of}
use Rattle.mapper.specs.Mappers.{IsRepairing}
use Rattle.mapper.proofs.Nexts.{batch_for, good_of, led, prepared, written_of}
use Rattle.mapper.proofs.maps.Maps.next.Given.{Over}
use Rattle.mapper.proofs.maps.Maps.next.Goals.{In_ok-delta}
use Rattle.mapper.proofs.maps.Maps.next.Goals as goal

pub next_of-requires-clause-good : goal.next_of-requires-clause-good
next_of-requires-clause-good g c = good_of c.self.inside.publisher.newest c.self.inside.current c.self.invariant.0 c.self.invariant.2

pub next_of-requires-clause-written : goal.next_of-requires-clause-written
next_of-requires-clause-written g c =
    let topology : c.topology.result.now ≡ c.self.inside.publisher.newest.plan = c.topology.ensures ∙ ap (λ (w : Version). w.plan) c.newest-newest.ensures in
    subst (λ (t : Plan). IsWritten t c.self.inside.current) (sym topology) (written_of c.self.inside.publisher.newest c.self.inside.current c.self.invariant.2)

pub after_batch-requires-clause-spare : goal.after_batch-requires-clause-spare
after_batch-requires-clause-spare g c =
    let v : Version = c.self.inside.publisher.newest in
    let old : v.market ≡ c.self.inside.current.instance = ap (λ (w : Version). w.market) c.self.invariant.2.version in
    IfSome_then c.args.spare c.requires.spare (λ s is. is ∙ ap (λ (p : PublisherState). p.newest.market) (sym c.self.view_is) ∙ old)

pub between-requires-clause-old : goal.between-requires-clause-old
between-requires-clause-old g c =
    let old = c.self.inside.current in
    IsMapForm-IsGood old.instance c.groups.ensures.market old.map.lines.items old.map.names.items (good_of c.self.inside.publisher.newest old c.self.invariant.0 c.self.invariant.2)

pub between-requires-clause-new : goal.between-requires-clause-new
between-requires-clause-new g c =
    let new = c.in_ok-current.current in
    IsMapForm-IsGood new.instance c.groups-2.ensures.market new.map.lines.items new.map.names.items ((c.in_ok-current.ensures.makes c.args.batch.now c.in_ok-instance.ensures).next 0).good

pub between-requires-clause-shape : goal.between-requires-clause-shape
between-requires-clause-shape g c = ((c.in_ok-current.ensures.makes c.args.batch.now c.in_ok-instance.ensures).next 0).applied.shape

-- what changes between the parts of the newest version and those of the next one
between : (g : Over) (c : In_ok-delta g)
    → IsBetween (version_of c.self.inside.publisher.newest.serial c.self.inside.publisher.newest.plan c.self.inside.current) (version_of (c.self.inside.publisher.newest.serial + 1) c.self.inside.publisher.newest.plan c.in_ok-current.current) c.in_ok-delta.delta
between g c =
    let v : Version = c.self.inside.publisher.newest in
    let serial : c.serial.result ≡ v.serial = c.serial.ensures ∙ ap (λ (w : Version). w.serial) c.newest-newest.ensures in
    subst (λ (s : ℕ). IsBetween (version_of s v.plan c.self.inside.current) (version_of (s + 1) v.plan c.in_ok-current.current) c.in_ok-delta.delta) serial (c.in_ok-delta.ensures v.plan)

-- what holds from the parts of the newest version to those of the next one holds from the newest version on
leads : (g : Over) (c : In_ok-delta g) (P : Version → Version → Type 0)
    → P (version_of c.self.inside.publisher.newest.serial c.self.inside.publisher.newest.plan c.self.inside.current) (version_of (c.self.inside.publisher.newest.serial + 1) c.self.inside.publisher.newest.plan c.in_ok-current.current)
    → P c.args.self.now.newest (after c.args.self.now.newest c.in_ok-delta.delta)
leads g c P made =
    subst (λ (p : PublisherState). P p.newest (after p.newest c.in_ok-delta.delta)) c.self.view_is
    (led P c.self.inside.publisher.newest c.self.inside.current c.in_ok-current.current c.in_ok-delta.delta c.self.invariant.2 (between g c) made)

pub returns-clause-next : goal.returns-clause-next
returns-clause-next g c =
    let old = c.self.inside.current in
    let new = c.in_ok-current.current in
    let v : Version = c.self.inside.publisher.newest in
    let d = c.in_ok-delta.delta in
    let topology : c.topology.result.now ≡ v.plan = c.topology.ensures ∙ ap (λ (w : Version). w.plan) c.newest-newest.ensures in
    let made = subst (λ (t : Plan). Makes t old c.args.batch.now new) topology (c.in_ok-current.ensures.makes c.args.batch.now c.in_ok-instance.ensures) in
    subst (λ (p : PublisherState). IsPrepared p.newest c.args.batch.now (record { current = new; delta = d })) c.self.view_is
    (prepared v old new c.args.batch.now d c.self.invariant.0 c.self.invariant.2 c.groups-2.ensures.market made (between g (goal.at.returns-clause-next g c).In_ok-delta))

pub returns-clause-kept : goal.returns-clause-kept
returns-clause-kept g c = leads g (goal.at.returns-clause-kept g c).In_ok-delta (λ _ b. IsKeptFor b.market b.lines c.next_of.new.kept) c.in_ok-current.ensures.kept

pub returns-clause-counted : goal.returns-clause-counted
returns-clause-counted g c = leads g (goal.at.returns-clause-counted g c).In_ok-delta (λ a b. IsRepairing a b c.args.steps.now c.next_of.new.steps) c.in_ok-current.ensures.counted

pub returns-clause-steps : goal.returns-clause-steps
returns-clause-steps g c = leads g (goal.at.returns-clause-steps g c).In_ok-delta (λ a b. IsWithinTwiceSpread a.market a.lines b.market c.args.steps.now c.next_of.new.steps) c.in_ok-current.ensures.steps

pub after_batch-requires-clause-ids : goal.after_batch-requires-clause-ids
after_batch-requires-clause-ids g c =
    let v : Version = c.self.inside.publisher.newest in
    let is = subst IsVersion c.self.invariant.2.version c.self.invariant.0 in
    batch_for v.plan.market c.self.inside.current.instance is.shape c.args.batch.now (subst (λ (p : PublisherState). IsBatch p.newest.plan.market c.args.batch.now) (sym c.self.view_is) c.requires.ids)
