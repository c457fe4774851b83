use Rattle.std.proofs.Common.{◌≡◌, IfSome, Option, ap, sym, subst, ◌∙◌}
use Rattle.map_model.specs.Batch.{IsApplied, IsBatch}
use Rattle.map_model.specs.Market.{Market}
use Rattle.map_repair.specs.Repaired.{IsWithinTwiceSpread}
use Rattle.published_map.specs.Changes.{after}
use Rattle.published_map.specs.Version.{IsVersion, Version}
use Rattle.map_cell.specs.Ends.{PublisherState}
use Rattle.map_cell.specs.Histories.{IsSealed}
use Rattle.mapper.specs.Currents.{IsCurrent, IsKeptFor, IsPrepared}
use Rattle.mapper.specs.Mappers.{IsPublished, IsRepairing}
use Rattle.mapper.specs.declared.current.Current.{Current}
use Rattle.mapper.specs.declared.current.Kept.{Kept}
use Rattle.mapper.proofs.Nexts.{batch_for, committed, published}
use Rattle.mapper.proofs.maps.Maps.commit.Goals as goal

-- where nothing was published, all is as it was
pub invariant_of-self : goal.invariant_of-self
invariant_of-self g c =
    subst
    (λ (p : PublisherState). IsVersion p.newest × IsSealed p.history p.newest × IsCurrent p.newest c.self.inside.current × IfSome c.self.inside.kept (λ k. IsKeptFor p.newest.market p.newest.lines k) × IfSome c.self.inside.spare (λ s. s ≡ p.newest.market))
    (sym c.in_err-serial.ensures.err) c.self.invariant

pub applied-requires : goal.applied-requires
applied-requires g c =
    let v : Version = c.self.inside.publisher.newest in
    let same : c.self.inside.publisher ≡ c.args.self.now = c.self.view_is ∙ c.take_spare-spare.ensures.same ∙ c.in_ok-kept.ensures.same in
    let is = subst IsVersion c.self.invariant.2.version c.self.invariant.0 in
    let batch : IsBatch c.self.inside.current.instance c.args.batch.now = batch_for v.plan.market c.self.inside.current.instance is.shape c.args.batch.now (subst (λ (p : PublisherState). IsBatch p.newest.plan.market c.args.batch.now) (sym same) c.requires.ids) in
    subst (λ (old : Current). IsBatch old.instance c.args.batch.now) (sym c.replace-old.ensures.value) batch

pub invariant_of-self-2 : goal.invariant_of-self-2
invariant_of-self-2 g c =
    let p : PublisherState = c.self.inside.publisher in
    let q : PublisherState = c.publish.new.self in
    let n = c.in_ok-next.next in
    let prepared : IsPrepared p.newest c.args.batch.now n = subst (λ (x : PublisherState). IsPrepared x.newest c.args.batch.now n) (sym c.self.view_is) c.in_ok-next.ensures.next in
    let kept : IsKeptFor (after p.newest n.delta).market (after p.newest n.delta).lines c.next.new.kept = subst (λ (x : PublisherState). IsKeptFor (after x.newest n.delta).market (after x.newest n.delta).lines c.next.new.kept) (sym c.self.view_is) c.in_ok-next.ensures.kept in
    let applied : IsApplied c.self.inside.current.instance c.args.batch.now c.applied.result = subst (λ (old : Current). IsApplied old.instance c.args.batch.now c.applied.result) c.replace-old.ensures.value c.applied.ensures in
    let done = committed p q c.self.inside.current n c.next.new.kept c.args.batch.now c.applied.result c.self.invariant.0 c.self.invariant.1 c.self.invariant.2 prepared c.in_ok-serial.ensures.ok.0 c.in_ok-serial.ensures.ok.1 kept applied in (
      done.0,
      done.1,
      subst (λ (new : Current). IsCurrent q.newest new) (sym c.replace-old.ensures.after) done.2,
      subst (λ (k : Option Kept). IfSome k (λ kept. IsKeptFor q.newest.market q.newest.lines kept)) (sym c.store-2.ensures) done.3,
      subst (λ (s : Option Market). IfSome s (λ spare. spare ≡ q.newest.market)) (sym c.store.ensures) done.4,
    )

pub returns-clause-next : goal.returns-clause-next
returns-clause-next g c =
    let p : PublisherState = c.self.inside.publisher in
    let n = c.in_ok-next.next in
    let same : p ≡ c.args.self.now = c.self.view_is ∙ c.take_spare-spare.ensures.same ∙ c.in_ok-kept.ensures.same in
    let prepared : IsPrepared p.newest c.args.batch.now n = subst (λ (x : PublisherState). IsPrepared x.newest c.args.batch.now n) (sym c.self.view_is) c.in_ok-next.ensures.next in
    let done = published p c.publish.new.self n c.args.batch.now c.in_ok-serial.serial prepared c.in_ok-serial.ensures.ok.0 c.in_ok-serial.ensures.ok.1 c.in_ok-serial.ensures.ok.2 in
    (subst (λ (x : PublisherState). IsPublished x c.args.batch.now c.publish.new.self) same done.0, done.1)

pub returns-clause-counted : goal.returns-clause-counted
returns-clause-counted g c =
    let d = c.in_ok-next.next.delta in
    let old : PublisherState = c.take_spare-spare.new.self in
    let newest : c.publish.new.self.newest ≡ after old.newest d = c.in_ok-serial.ensures.ok.1 ∙ ap (λ (p : PublisherState). after p.newest d) c.self.view_is in
    let made = subst (λ (v : Version). IsRepairing old.newest v c.args.steps.now c.next.new.steps) (sym newest) c.in_ok-next.ensures.counted in
    subst (λ (p : PublisherState). IsRepairing p.newest c.publish.new.self.newest c.args.steps.now c.next.new.steps) (c.take_spare-spare.ensures.same ∙ c.in_ok-kept.ensures.same) made

pub returns-clause-steps : goal.returns-clause-steps
returns-clause-steps g c =
    let d = c.in_ok-next.next.delta in
    let old : PublisherState = c.take_spare-spare.new.self in
    let newest : c.publish.new.self.newest ≡ after old.newest d = c.in_ok-serial.ensures.ok.1 ∙ ap (λ (p : PublisherState). after p.newest d) c.self.view_is in
    let within = subst (λ (v : Version). IsWithinTwiceSpread old.newest.market old.newest.lines v.market c.args.steps.now c.next.new.steps) (sym newest) c.in_ok-next.ensures.steps in
    subst (λ (p : PublisherState). IsWithinTwiceSpread p.newest.market p.newest.lines c.publish.new.self.newest.market c.args.steps.now c.next.new.steps) (c.take_spare-spare.ensures.same ∙ c.in_ok-kept.ensures.same) within
