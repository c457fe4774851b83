-- A list of texts that is gone through from its end.
use Rattle.std.proofs.Common.{◌≡◌, ℕ, zero, suc, ◌+◌, ◌-◌, ◌<◌, Bool, true, false, ◌||◌, List, [], ◌∷◌, length, take, drop, map, Option, None, Some, refl, ap, sym, ◌∙◌, arith}
use Rattle.std.proofs.lemmas.List.{drop-drop, length-drop, take_all}
use Rattle.std.specs.List.{list_any}
use Rattle.std.specs.Str.{bytes_eq}
use Rattle.toml.specs.Data.{as_str}
use Rattle.toml.specs.View.{view}
use Rattle.toml.specs.declared.value.Value.{Value}
use Rattle.topology_text.specs.Names.{has_repeat, texts_of}

-- the texts among some values
abbrev pub texts : List Value → List (List ℕ)
texts vs = texts_of (map view vs)

-- a repeat among the last items is one among all
repeat_behind : (v : Value) (vs : List Value) → has_repeat (texts vs) ≡ true → has_repeat (texts (v ∷ vs)) ≡ true
repeat_behind v vs h = by_text (as_str (view v)) refl
  where
    by_text : (o : Option (List ℕ)) → as_str (view v) ≡ o → has_repeat (texts (v ∷ vs)) ≡ true
    by_text None is = rw is h
    by_text (Some t) is = rw (is, h) (or_later (list_any (bytes_eq t) (texts vs)))
      where
        or_later : (b : Bool) → (b || true) ≡ true
        or_later true = refl
        or_later false = refl

pub repeat_later : (vs : List Value) (i : ℕ) → has_repeat (texts (drop i vs)) ≡ true → has_repeat (texts vs) ≡ true
repeat_later vs zero h = h
repeat_later [] (suc i) h = h
repeat_later (v ∷ vs) (suc i) h = repeat_behind v vs (repeat_later vs i h)

pub or_none : (b c : Bool) → b ≡ false → (b || c) ≡ c
or_none b c h = rw h

pub or_some : (b c : Bool) → b ≡ true → (b || c) ≡ true
or_some b c h = rw h

-- the items behind the first ones, of which so many were looked at from the end
abbrev pub items_from : List Value → ℕ → List Value
items_from vs done = take (length vs - (length vs - 1 - done)) (drop (length vs - 1 - done) vs)

pub whole_from : (vs : List Value) (done : ℕ) → items_from vs done ≡ drop (length vs - 1 - done) vs
whole_from vs done = take_all (length vs - (length vs - 1 - done)) (drop (length vs - 1 - done) vs) (omega (arith, length-drop (length vs - 1 - done) vs))

pub behind_from : (vs : List Value) (done : ℕ) → done < length vs → drop 1 (items_from vs done) ≡ drop (length vs - done) vs
behind_from vs done h =
    let next : length vs - 1 - done + 1 ≡ length vs - done = omega arith in
    ap (drop 1) (whole_from vs done) ∙ drop-drop 1 (length vs - 1 - done) vs ∙ ap (λ k. drop k vs) next

-- one item more from the end
pub from_end : (vs : List Value) (done : ℕ) → done < length vs → drop (length vs - (done + 1)) vs ≡ items_from vs done
from_end vs done h =
    let same : length vs - (done + 1) ≡ length vs - 1 - done = omega arith in
    ap (λ k. drop k vs) same ∙ sym (whole_from vs done)
