-- The range of a number, by the last start up to it.
use Rattle.std.proofs.Common.{◌≡◌, ℕ, zero, suc, ◌+◌, ◌-◌, ◌^◌, ◌<◌, Bool, List, length, Option, None, Some, sym, ap, subst, ◌∙◌, arith, inl, inr}
use Rattle.std.specs.Prelude.{if◌then◌else◌, IfSome, unwrap_or, option_map}
use Rattle.std.proofs.lemmas.Bool.{cases_lt, lt-ltb, le-ltb}
use Rattle.map_model.specs.declared.instance.GroupId.{GroupId}
use Rattle.prefix_lookup.specs.declared.family.Family.{Family}
use Rattle.prefix_lookup.specs.declared.ranges.Range.{Range}
use Rattle.prefix_lookup.specs.Family.{bits_in}
use Rattle.prefix_lookup.specs.Ranges.{AreRanges, AreRangesTo, IsLastUpTo, IsRangeAt, IsRangeOf, end_in, longest_at, next_start, start_at, stop_at}
use Rattle.prefix_lookup.proofs.Longest.{Entry}

-- where the range ends, both ways it is said
ends : (stop i : ℕ) (starts : List ℕ) → unwrap_or (next_start starts i) stop ≡ stop_at stop starts i
ends stop i starts = elim (cases_lt (i + 1) (length starts)) [
  | inl more ↦ ap (λ (b : Bool). unwrap_or (if b then Some (start_at starts (i + 1)) else None) stop) (lt-ltb _ _ more) ∙ sym (ap (λ (b : Bool). if b then start_at starts (i + 1) else stop) (lt-ltb _ _ more))
  | inr last ↦ ap (λ (b : Bool). unwrap_or (if b then Some (start_at starts (i + 1)) else None) stop) (le-ltb _ _ last) ∙ sym (ap (λ (b : Bool). if b then start_at starts (i + 1) else stop) (le-ltb _ _ last))
]

-- what holds of the start after this one, where there is one
of_next : (P : ℕ → Type 0) (starts : List ℕ) (i : ℕ) → (i + 1 < length starts → P (start_at starts (i + 1))) → IfSome (next_start starts i) P
of_next P starts i each = elim (cases_lt (i + 1) (length starts)) [
  | inl more ↦ subst (λ (b : Bool). IfSome (if b then Some (start_at starts (i + 1)) else None) P) (sym (lt-ltb _ _ more)) (each more)
  | inr last ↦ subst (λ (b : Bool). IfSome (if b then Some (start_at starts (i + 1)) else None) P) (sym (le-ltb _ _ last)) tt
]

below_stop : (stop : ℕ) (family : Family) (table : List Entry) (starts : List ℕ) (groups : List GroupId) (n i : ℕ) → AreRangesTo stop family table starts groups → IsLastUpTo starts n i → n < stop → n < stop_at stop starts i
below_stop stop family table starts groups n i are last small = elim (cases_lt (i + 1) (length starts)) [
  | inl more ↦ subst (λ (b : Bool). n < (if b then start_at starts (i + 1) else stop)) (sym (lt-ltb _ _ more)) (last.to more)
  | inr le ↦ subst (λ (b : Bool). n < (if b then start_at starts (i + 1) else stop)) (sym (le-ltb _ _ le)) small
]

-- the number right before a range is of the range before it
before_it : (stop : ℕ) (family : Family) (table : List Entry) (starts : List ℕ) (groups : List GroupId) (i : ℕ) → AreRangesTo stop family table starts groups → i < length starts → 0 < start_at starts i → longest_at family table (start_at starts i - 1) ≡ longest_at family table (start_at starts i) → ⊥
before_it stop family table starts groups zero are lt some same = omega (arith, are.first)
before_it stop family table starts groups (suc i) are lt some same =
    let e : suc i ≡ i + 1 = omega arith in
    let more : i + 1 < length starts = omega arith in
    let up : start_at starts i < start_at starts (suc i) = subst (λ (n : ℕ). start_at starts i < start_at starts n) (sym e) (are.rising i more) in
    let to : start_at starts (suc i) ≡ stop_at stop starts i = ap (start_at starts) e ∙ sym (ap (λ (b : Bool). if b then start_at starts (i + 1) else stop) (lt-ltb _ _ more)) in
    are.differ i more (sym (are.held i (start_at starts (suc i) - 1) (omega arith) (omega arith) (omega arith)) ∙ same ∙ ap (λ (k : ℕ). longest_at family table (start_at starts k)) e)

pub range_is : (family : Family) (table : List Entry) (starts : List ℕ) (groups : List GroupId) (n i : ℕ) (r : Range) → AreRanges family table starts groups → IsLastUpTo starts n i → n < 2 ^ bits_in family → IsRangeAt starts groups i r → IsRangeOf family table n r
range_is family table starts groups n i r are last small at =
    let group = at.group in
    let start = at.start in
    let end = at.end in
    let stop : ℕ = 2 ^ bits_in family in
    let to : end_in family r ≡ stop_at stop starts i = ap (λ (o : Option ℕ). unwrap_or o stop) end ∙ ends stop i starts in
    let below : n < stop_at stop starts i = below_stop stop family table starts groups n i are.all last small in
    let here : longest_at family table n ≡ longest_at family table (start_at starts i) = are.all.held i n last.within last.from below in
    record {
      group = ap (option_map (λ (e : Entry). e.1)) here ∙ are.all.group i last.within ∙ ap (λ (g : GroupId). Some g) (sym group);
      inside = record {
        from = omega (arith, last.from);
        to = omega arith;
        fits = subst (λ (o : Option ℕ). IfSome o (λ e. e < stop)) (sym end) (of_next (λ e. e < stop) starts i (λ more. are.all.below (i + 1) more));
      };
      held = λ m from upto. are.all.held i m last.within (omega arith) (omega arith) ∙ sym here;
      before = λ some same. before_it stop family table starts groups i are.all last.within (omega arith) (ap (λ (k : ℕ). longest_at family table (k - 1)) (sym start) ∙ same ∙ here);
      after = subst (λ (o : Option ℕ). IfSome o (λ e. longest_at family table e ≡ longest_at family table n → ⊥)) (sym end) (of_next (λ e. longest_at family table e ≡ longest_at family table n → ⊥) starts i (λ more same. are.all.differ i more (sym here ∙ sym same)));
    }
