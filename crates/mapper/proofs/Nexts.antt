-- What a batch makes may be published, and is then the newest version.
use Rattle.std.proofs.Common.{◌≡◌, ℕ, ◌+◌, IfOk, OnOk, Result, Ok, Err, List, [], ◌∷◌, ◌++◌, length, slice_get, Some, refl, sym, ap, subst, ◌∙◌, arith, length-append, slice_index_or}
use Rattle.map_model.specs.declared.change.Change.{Change}
use Rattle.map_model.specs.declared.change.Change.TheVariants.{Capacity, Demand}
use Rattle.map_model.specs.Market.{IsMarket, IsSameShape, Market}
use Rattle.map_model.specs.Allocation.{IsGood}
use Rattle.map_model.specs.Batch.{IsApplied, IsBatch, IsChange}
use Rattle.map_repair.specs.Determined.{IsRepairedOf}
use Rattle.map_repair.specs.Repaired.{IsKept, IsLocal}
use Rattle.map_model.proofs.Shapes.{shape_trans}
use Rattle.topology_text.specs.Plan.{Plan}
use Rattle.published_map.specs.declared.delta.Delta.{Delta}
use Rattle.published_map.specs.Between.{IsBetween}
use Rattle.published_map.specs.Changes.{after}
use Rattle.published_map.specs.Version.{IsVersion, Version}
use Rattle.published_map.proofs.Within.{after_is_version, within}
use Rattle.map_cell.specs.Ends.{PublisherState}
use Rattle.map_cell.specs.Histories.{IsSealed}
use Rattle.map_laws.proofs.Applied.{applied_one}
use Rattle.mapper.specs.Control.{IsNext}
use Rattle.mapper.specs.Currents.{IsCurrent, IsKeptFor, IsPrepared, IsWritten, Makes, version_of}
use Rattle.mapper.specs.Mappers.{IsPublished}
use Rattle.map_text.specs.Writing.{text_of_map}
use Rattle.mapper.specs.Words.{map_text}
use Rattle.mapper.specs.declared.current.Current.{Current}
use Rattle.mapper.specs.declared.current.Kept.{Kept}
use Rattle.mapper.specs.declared.maps.Following.{Following}

-- the version after a batch is one
next_version : (old new : Version) (changes : List Change) → IsVersion old → IsMarket new.market → IsNext old changes new → IsVersion new
next_version old new changes is market next = record {
  plan = rw next.plan is.plan;
  market = market;
  shape = rw next.plan (shape_trans old.plan.market old.market new.market is.shape next.applied.shape);
  good = next.good;
}

-- what a batch makes, and what changes by it, are prepared
pub prepared : (v : Version) (old new : Current) (changes : List Change) (d : Delta) → IsVersion v → IsCurrent v old → IsMarket new.instance → Makes v.plan old changes new
    → IsBetween (version_of v.serial v.plan old) (version_of (v.serial + 1) v.plan new) d → IsPrepared v changes (record { current = new; delta = d })
prepared v old new changes d is current market makes between =
    let w : Version = version_of (v.serial + 1) v.plan new in
    let b : IsBetween v w d = subst (λ (x : Version). IsBetween x w d) (sym current.version) between in
    let next : IsNext v changes w = subst (λ (x : Version). IsNext x changes w) (sym current.version) (makes.next v.serial) in
    record {
      base = b.base;
      within = within v w d b;
      good = after_is_version v w d b (next_version v w changes is market next);
      next = subst (IsNext v changes) (sym b.leads) next;
      current = subst (λ (x : Version). IsCurrent x new) (sym b.leads) (makes.current (v.serial + 1));
    }

-- what holds from the parts of a version to those of the next one holds from the version to the one that its changes lead to
pub led : (P : Version → Version → Type 0) (v : Version) (old new : Current) (d : Delta) → IsCurrent v old → IsBetween (version_of v.serial v.plan old) (version_of (v.serial + 1) v.plan new) d
    → P (version_of v.serial v.plan old) (version_of (v.serial + 1) v.plan new) → P v (after v d)
led P v old new d current between p =
    let w : Version = version_of (v.serial + 1) v.plan new in
    let b : IsBetween v w d = subst (λ (x : Version). IsBetween x w d) (sym current.version) between in
    subst (P v) (sym b.leads) (subst (λ (x : Version). P x w) (sym current.version) p)

get_last : (h : List Version) (v : Version) → slice_get (h ++ v ∷ []) (length h) ≡ Some v
get_last [] v = refl
get_last (x ∷ xs) v = get_last xs v

-- a history with one version more
pub one_longer : (h k : List Version) (w : Version) → k ≡ h ++ w ∷ [] → length k ≡ length h + 1
one_longer h k w e = ap length e ∙ length-append h (w ∷ [])

-- the next version is the last of the history that it is added to
pub sealed_next : (h : List Version) (v w : Version) → IsSealed h v → w.serial ≡ v.serial + 1 → IsSealed (h ++ w ∷ []) w
sealed_next h v w sealed next = record {
  last = subst (λ (k : ℕ). slice_get (h ++ w ∷ []) k ≡ Some w) (sealed.whole ∙ sym next) (get_last h w);
  whole = length-append h (w ∷ []) ∙ omega (arith, sealed.whole, next);
}

-- what a batch makes, by its parts
pub makes : (t : Plan) (old new : Current) (changes : List Change) → IsApplied old.instance changes new.instance → IsGood new.instance new.map.lines.items new.map.names.items
    → IsKept old.instance old.map.lines.items new.instance new.map.lines.items → IsLocal old.instance old.map.lines.items new.instance new.map.lines.items → IsRepairedOf old.instance old.map.lines.items new.instance new.map.lines.items
    → ((serial : ℕ) → IsCurrent (version_of serial t new) new) → Makes t old changes new
makes t old new changes applied good kept local repaired current = record {
  next = λ serial. record { serial = refl; plan = refl; applied = applied; good = good; kept = kept; local = local; repaired = repaired };
  current = current;
}

-- what two clauses say of a result, of its value
pub both : {X E : Type 0} {P Q S : X → Type 0} (r : Result X E) → IfOk r P → IfOk r Q → ((x : X) → P x → Q x → S x) → IfOk r S
both (Ok x) p q f = f x p q
both (Err e) p q f = tt

pub whenever : {X E P : Type 0} (r : Result X E) → P → OnOk r P
whenever (Ok x) p = p
whenever (Err e) p = tt

-- the map of a version's parts is good
pub good_of : (v : Version) (c : Current) → IsVersion v → IsCurrent v c → IsGood c.instance c.map.lines.items c.map.names.items
good_of v c is current = (subst IsVersion current.version is).good

-- the text that goes with a version is that of the map
pub written_of : (v : Version) (c : Current) → IsCurrent v c → IsWritten v.plan c
unfolding map_text
written_of v c current = record {
  text = current.text ∙ ap (λ (w : Version). text_of_map v.plan (record { lines = w.lines; names = w.names })) current.version;
  cuts = current.cuts;
}

change_for : (m n : Market) → IsSameShape m n → (change : Change) → IsChange m change → IsChange n change
change_for m n s (Demand group demand) is = (omega (arith, s.groups, is.0), is.1, is.2)
change_for m n s (Capacity node capacity) is = (omega (arith, s.nodes, is.0), is.1)

-- a batch for an instance is one for each instance of its shape
pub batch_for : (m n : Market) → IsSameShape m n → (changes : List Change) → IsBatch m changes → IsBatch n changes
batch_for m n s changes all = λ k d lt. change_for m n s (slice_index_or changes k d) (all k d lt)

-- What is held of a publisher once the map of a batch was published: of an instance to which the batch was applied too, it is the newest one.
pub committed : (p q : PublisherState) (old : Current) (n : Following) (kept : Kept) (changes : List Change) (spare : Market) → IsVersion p.newest → IsSealed p.history p.newest → IsCurrent p.newest old → IsPrepared p.newest changes n
    → q.history ≡ p.history ++ after p.newest n.delta ∷ [] → q.newest ≡ after p.newest n.delta → IsKeptFor (after p.newest n.delta).market (after p.newest n.delta).lines kept → IsApplied old.instance changes spare
    → IsVersion q.newest × IsSealed q.history q.newest × IsCurrent q.newest n.current × IsKeptFor q.newest.market q.newest.lines kept × (spare ≡ q.newest.market)
committed p q old n kept changes spare is sealed current prepared history newest kept_is applied =
    let w : Version = after p.newest n.delta in
    let last : IsSealed (p.history ++ w ∷ []) w = sealed_next p.history p.newest w sealed prepared.next.serial in
    let market : p.newest.market ≡ old.instance = ap (λ (v : Version). v.market) current.version in
    let same : spare ≡ w.market = applied_one p.newest.market spare w.market changes (subst (λ (m : Market). IsApplied m changes spare) (sym market) applied) prepared.next.applied in (
      subst IsVersion (sym newest) prepared.good,
      subst (λ (h : List Version). IsSealed h q.newest) (sym history) (subst (λ (v : Version). IsSealed (p.history ++ w ∷ []) v) (sym newest) last),
      subst (λ (v : Version). IsCurrent v n.current) (sym newest) prepared.current,
      subst (λ (v : Version). IsKeptFor v.market v.lines kept) (sym newest) kept_is,
      same ∙ ap (λ (v : Version). v.market) (sym newest),
    )

-- and it was published
pub published : (p q : PublisherState) (n : Following) (changes : List Change) (serial : ℕ) → IsPrepared p.newest changes n → q.history ≡ p.history ++ after p.newest n.delta ∷ [] → q.newest ≡ after p.newest n.delta → serial ≡ n.delta.base + 1
    → IsPublished p changes q × (serial ≡ q.newest.serial)
published p q n changes serial prepared history newest is = (
  record {
    next = subst (λ (v : Version). IsNext p.newest changes v) (sym newest) prepared.next;
    history = history ∙ ap (λ (v : Version). p.history ++ v ∷ []) (sym newest);
  },
  is ∙ ap (λ (b : ℕ). b + 1) prepared.base ∙ sym (ap (λ (v : Version). v.serial) newest ∙ prepared.next.serial),
)
