-- The values of the parts of a text, one after another.
use Rattle.std.proofs.Common.{◌≡◌, ℕ, ◌+◌, ◌-◌, ◌<◌, ◌≤◌, ◌==◌, Bool, true, false, cond, nat_le, List, [], ◌∷◌, ◌++◌, length, take, drop, replicate, Option, None, Some, refl, ap, sym, ◌∙◌, arith, ◌⊎◌, inl, inr, length-append, append_assoc}
use Rattle.std.proofs.lemmas.Bool.Decides.{nat_tests}
use Rattle.std.specs.List.{position_from, slice_split}
use Rattle.addr_text.specs.Numbers.{all_of, only_if, together}
use Rattle.addr_text.specs.Groups.{filled}
use Rattle.text_parts.proofs.Splits.{split_at_hit, split_no_hit}

-- so many values in front of some, or none
abbrev pub with_front : List ℕ → Option (List ℕ) → Option (List ℕ)
with_front front None = None
with_front front (Some vs) = Some (front ++ vs)

-- no more than so many
abbrev pub at_most : ℕ → Option (List ℕ) → Option (List ℕ)
at_most limit o = only_if (λ vs. nat_le (length vs) limit) o

front_more : (front : List ℕ) (v : ℕ) (o : Option (List ℕ)) → with_front front (together (Some v) o) ≡ with_front (front ++ v ∷ []) o
front_more front v None = refl
front_more front v (Some vs) = ap Some (sym (append_assoc front (v ∷ []) vs))

-- one more part that has a value
pub values_step : (value : List ℕ → Option ℕ) (p : ℕ → Bool) (xs : List ℕ) (i v : ℕ) (old new : List ℕ) (all : Option (List ℕ)) → position_from p 0 xs ≡ Some i → value (take i xs) ≡ Some v → new ≡ old ++ v ∷ []
    → with_front old (all_of value (slice_split p xs)) ≡ all → with_front new (all_of value (slice_split p (drop (i + 1) xs))) ≡ all
values_step value p xs i v old new all hit is pushed before =
    ap (λ front. with_front front (all_of value (slice_split p (drop (i + 1) xs)))) pushed
    ∙ sym (front_more old v (all_of value (slice_split p (drop (i + 1) xs))))
    ∙ sym (ap (λ ps. with_front old (all_of value ps)) (split_at_hit p xs i hit) ∙ ap (λ (o : Option ℕ). with_front old (together o (all_of value (slice_split p (drop (i + 1) xs))))) is)
    ∙ before

values_last : (value : List ℕ → Option ℕ) (p : ℕ → Bool) (xs : List ℕ) (v : ℕ) (old new : List ℕ) (all : Option (List ℕ)) → position_from p 0 xs ≡ None → value xs ≡ Some v → new ≡ old ++ v ∷ []
    → with_front old (all_of value (slice_split p xs)) ≡ all → Some new ≡ all
values_last value p xs v old new all hit is pushed before =
    ap Some pushed ∙ sym (ap (λ ps. with_front old (all_of value ps)) (split_no_hit p xs hit) ∙ ap (λ (o : Option ℕ). with_front old (together o (Some []))) is) ∙ before

-- the last part has a value, and there is room for it
pub values_end : (limit : ℕ) (value : List ℕ → Option ℕ) (p : ℕ → Bool) (xs : List ℕ) (v : ℕ) (old new : List ℕ) (all : Option (List ℕ)) → position_from p 0 xs ≡ None → value xs ≡ Some v → new ≡ old ++ v ∷ [] → length new ≤ limit
    → with_front old (all_of value (slice_split p xs)) ≡ all → Some new ≡ at_most limit all
values_end limit value p xs v old new all hit is pushed few before =
    let under : nat_le (length new) limit ≡ true = grind (arith, nat_tests) in
    sym (ap (at_most limit) (sym (values_last value p xs v old new all hit is pushed before)) ∙ ap (λ b. cond b (Some new) None) under)

-- a part that has no value, or one that finds no room
tail_some : (limit : ℕ) (value : List ℕ → Option ℕ) (text : List ℕ) (parts : List (List ℕ)) (old : List ℕ) → length old ≡ limit → at_most limit (with_front old (together (value text) (all_of value parts))) ≡ None
tail_some limit value text parts old full = go (value text) (all_of value parts)
  where
    go : (o : Option ℕ) (rest : Option (List ℕ)) → at_most limit (with_front old (together o rest)) ≡ None
    go None rest = refl
    go (Some v) None = refl
    go (Some v) (Some vs) =
        let long : limit < length (old ++ v ∷ vs) = omega (arith, length-append old (v ∷ vs)) in
        let over : nat_le (length (old ++ v ∷ vs)) limit ≡ false = grind (arith, nat_tests) in
        rw over refl

by_cause : (limit : ℕ) (value : List ℕ → Option ℕ) (text : List ℕ) (parts : List (List ℕ)) (old : List ℕ) → (value text ≡ None) ⊎ (length old ≡ limit) → at_most limit (with_front old (together (value text) (all_of value parts))) ≡ None
by_cause limit value text parts old (inl none) = ap (λ (o : Option ℕ). at_most limit (with_front old (together o (all_of value parts)))) none
by_cause limit value text parts old (inr full) = tail_some limit value text parts old full

pub refused : (limit : ℕ) (value : List ℕ → Option ℕ) (p : ℕ → Bool) (xs : List ℕ) (i : ℕ) (old : List ℕ) (all : Option (List ℕ)) → position_from p 0 xs ≡ Some i → (value (take i xs) ≡ None) ⊎ (length old ≡ limit)
    → with_front old (all_of value (slice_split p xs)) ≡ all → None ≡ at_most limit all
refused limit value p xs i old all hit why before =
    sym (ap (at_most limit) (sym before ∙ ap (λ ps. with_front old (all_of value ps)) (split_at_hit p xs i hit)) ∙ by_cause limit value (take i xs) (slice_split p (drop (i + 1) xs)) old why)

pub refused_last : (limit : ℕ) (value : List ℕ → Option ℕ) (p : ℕ → Bool) (xs : List ℕ) (old : List ℕ) (all : Option (List ℕ)) → position_from p 0 xs ≡ None → (value xs ≡ None) ⊎ (length old ≡ limit)
    → with_front old (all_of value (slice_split p xs)) ≡ all → None ≡ at_most limit all
refused_last limit value p xs old all hit why before =
    sym (ap (at_most limit) (sym before ∙ ap (λ ps. with_front old (all_of value ps)) (split_no_hit p xs hit)) ∙ by_cause limit value xs [] old why)

-- two sides of which one has more than eight groups are not filled
pub filled_at_most : (l r : Option (List ℕ)) → filled (at_most 8 l) (at_most 8 r) ≡ filled l r
filled_at_most None r = refl
filled_at_most (Some ls) None = left (nat_le (length ls) 8)
  where
    left : (b : Bool) → filled (cond b (Some ls) None) None ≡ None
    left true = refl
    left false = refl
filled_at_most (Some ls) (Some rs) = both (nat_le (length ls) 8) (nat_le (length rs) 8) refl refl
  where
    none : nat_le (length ls + length rs) 7 ≡ false → None ≡ filled (Some ls) (Some rs)
    none over = sym (ap (λ b. cond b (Some (ls ++ replicate (8 - (length ls + length rs)) 0 ++ rs)) None) over)

    both : (a b : Bool) → nat_le (length ls) 8 ≡ a → nat_le (length rs) 8 ≡ b → filled (cond a (Some ls) None) (cond b (Some rs) None) ≡ filled (Some ls) (Some rs)
    both true true la lb = refl
    both true false la lb = none (grind (arith, nat_tests))
    both false b la lb = none (grind (arith, nat_tests))

filled_none : (l : Option (List ℕ)) → filled l None ≡ None
filled_none None = refl
filled_none (Some ls) = refl

pub no_left : (l r : Option (List ℕ)) → None ≡ at_most 8 l → None ≡ filled l r
no_left l r none = ap (λ (o : Option (List ℕ)). filled o (at_most 8 r)) none ∙ filled_at_most l r

pub no_right : (l r : Option (List ℕ)) → None ≡ at_most 8 r → None ≡ filled l r
no_right l r none = sym (filled_none (at_most 8 l)) ∙ ap (λ (o : Option (List ℕ)). filled (at_most 8 l) o) none ∙ filled_at_most l r

pub two_filled : (l r : Option (List ℕ)) (ls rs : List ℕ) → Some ls ≡ at_most 8 l → Some rs ≡ at_most 8 r → filled (Some ls) (Some rs) ≡ filled l r
two_filled l r ls rs left right = ap (λ (o : Option (List ℕ)). filled o (Some rs)) left ∙ ap (λ (o : Option (List ℕ)). filled (at_most 8 l) o) right ∙ filled_at_most l r
