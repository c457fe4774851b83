-- What a step shows, and what follows a history.
use Rattle.std.proofs.Common.{◌≡◌, ℕ, ◌+◌, true, false, true≢false, Result, Ok, Err, IsOk, MatchResult, List, [], ◌∷◌, ◌++◌, fold, length, slice_get, Some, refl, ap, sym, subst, ◌∙◌, arith, length-append}
use Rattle.published_map.specs.declared.delta.Delta.{Delta}
use Rattle.published_map.specs.Version.{Version, IsVersion}
use Rattle.published_map.specs.Changes.{is_within, moved, after}
use Rattle.map_cell.specs.Histories.{IsHistory, MayFollow, IsSealed}
use Rattle.map_cell.specs.Rules.{CopyState, DeltaState, stepped}
use Rattle.published_map.proofs.Changes.{after_plan}

-- a step that names what is there
pub steps : (s : CopyState) (o : DeltaState) → is_within s.version o.delta ≡ true → stepped s o ≡ record { book = o.book; history = o.history; version = moved s.version o.delta o.serial }
unfolding stepped
steps s o is = rw is refl

-- and one that names something else
pub stays : (s : CopyState) (o : DeltaState) → is_within s.version o.delta ≡ false → stepped s o ≡ s
unfolding stepped
stays s o is = rw is refl

pub after_step : (old shown next : CopyState) (o : DeltaState) (l : List DeltaState) → shown ≡ old → l ≡ o ∷ [] → is_within old.version o.delta ≡ true → next ≡ fold stepped shown l
    → next ≡ record { book = o.book; history = o.history; version = moved old.version o.delta o.serial }
after_step old shown next o l same one is e = e ∙ (ap (fold stepped shown) one ∙ (ap (λ s. stepped s o) same ∙ steps old o is))

-- the version after a delta may follow
pub may_follow : (h : List Version) (v : Version) (d : Delta) → IsHistory h → IsSealed h v → IsVersion (after v d) → MayFollow h (after v d)
may_follow h v d history sealed good = record {
  good = good;
  next = sym sealed.whole;
  same = λ n w e. history.one n v.serial w v e sealed.last ∙ sym (after_plan v d);
}

get_last : (h : List Version) (x : Version) → slice_get (h ++ x ∷ []) (length h) ≡ Some x
get_last [] x = refl
get_last (y ∷ ys) x = get_last ys x

-- and is then the last
pub sealed_more : (h : List Version) (v : Version) (d : Delta) (s : ℕ) → IsSealed h v → s ≡ v.serial + 1 → IsSealed (h ++ after v d ∷ []) (moved v d s)
sealed_more h v d s sealed is =
    subst (λ (k : ℕ). IsSealed (h ++ after v d ∷ []) (moved v d k)) (sym is) (record {
      last = subst (λ (k : ℕ). slice_get (h ++ after v d ∷ []) k ≡ Some (after v d)) sealed.whole (get_last h (after v d));
      whole = length-append h (after v d ∷ []) ∙ omega (arith, sealed.whole);
    })

pub ok_part : {A E : Type 0} (r : Result A E) (P Q : Type 0) → IsOk r → MatchResult r (λ _. P) (λ _. Q) → P
ok_part (Ok x) P Q is m = m
ok_part (Err x) P Q is m = absurd (true≢false (sym is))
