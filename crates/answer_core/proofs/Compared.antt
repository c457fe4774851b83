-- A name is compared with an apex only from where it is as long.
use Rattle.std.proofs.Common.{◌≡◌, ℕ, ◌+◌, ◌<◌, Bool, true, false, List, length, get_or, drop, refl, sym, ◌∙◌, arith}
use Rattle.std.proofs.lemmas.List.{length-drop}
use Rattle.std.proofs.lemmas.Bool.{false_from_ne_true}
use Rattle.name_text.specs.Names.{is_same, is_under}
use Rattle.name_text.proofs.Rests.{found, goes_on}
use Rattle.answer_core.proofs.Labels.{no_shorter, other_length}

-- what is shorter than the apex does not stand under it
pub too_short : (name apex : List ℕ) → length name < length apex → is_under name apex ≡ false
too_short name apex short = false_from_ne_true (is_under name apex) (λ h. omega (arith, short, no_shorter name apex h))

pub too_far : (name apex : List ℕ) (at : ℕ) (all : Bool) → length name < at + length apex → 0 < length apex → is_under (drop at name) apex ≡ all → false ≡ all
too_far name apex at all far some so_far = sym (too_short (drop at name) apex (omega (arith, far, some, length-drop at name))) ∙ so_far

-- what is longer than the apex is not the apex, so the next label is looked at
pub one_label : (name apex : List ℕ) (at : ℕ) (all : Bool) → at + length apex < length name → is_under (drop at name) apex ≡ all → is_under (drop (at + (1 + get_or name at 0)) name) apex ≡ all
one_label name apex at all more so_far =
    goes_on name apex at all (omega (arith, more)) (other_length (drop at name) apex (λ e. omega (arith, more, e, length-drop at name))) so_far

-- what is as long as the apex decides
pub at_end : (name apex : List ℕ) (at : ℕ) (all : Bool) → at + length apex ≡ length name → 0 < length apex → is_under (drop at name) apex ≡ all → is_same (drop at name) apex ≡ all
at_end name apex at all size some so_far = by (is_same (drop at name) apex) refl
  where
    by : (b : Bool) → is_same (drop at name) apex ≡ b → b ≡ all
    by true same = found name apex at all (omega (arith, size, some)) same so_far
    by false other =
        let further = goes_on name apex at all (omega (arith, size, some)) other so_far in
        too_far name apex (at + (1 + get_or name at 0)) all (omega (arith, size, some)) some further
