-- The scope of a number, by the numbers right beside its range.
use Rattle.std.proofs.Common.{◌≡◌, ℕ, ◌-◌, ◌/◌, ◌^◌, ◌<◌, ◌≤◌, true, List, Option, None, Some, refl, sym, ap, subst, ◌∙◌, arith, eq-eqb, inl, inr}
use Rattle.std.specs.Prelude.{IfSome, MatchOption, max, unwrap_or}
use Rattle.std.specs.Option.{SomeIff}
use Rattle.std.proofs.lemmas.Bool.{cases_lt, eqb-true}
use Rattle.addr_text.specs.declared.address.Addr.{Addr}
use Rattle.prefix_lookup.specs.declared.family.Family.{Family}
use Rattle.prefix_lookup.specs.declared.ranges.Range.{Range}
use Rattle.prefix_lookup.specs.Family.{address_in, bits_in}
use Rattle.prefix_lookup.specs.Longest.{IsAddress, agrees, longest}
use Rattle.prefix_lookup.specs.Parting.{PartsAt}
use Rattle.prefix_lookup.specs.Ranges.{IsRangeOf, longest_at}
use Rattle.prefix_lookup.specs.Scope.{IsScope, IsUniform}
use Rattle.prefix_lookup.proofs.Families.{fits, fits_back, in_family, same, width}
use Rattle.prefix_lookup.proofs.Intervals.{in_block, of_block}
use Rattle.prefix_lookup.proofs.Longest.{Entry}
use Rattle.prefix_lookup.proofs.Numbers.{same_above}

-- a number between two that are the same above k bits is the same above them
between_down : (k n m p : ℕ) → n / 2 ^ k ≡ m / 2 ^ k → m ≤ p → p ≤ n → n / 2 ^ k ≡ p / 2 ^ k
between_down k n m p e low high =
    let one = in_block k n m e in
    let two = in_block k n n refl in
    of_block k n p (omega (arith, one.0)) (omega (arith, two.1))

between_up : (k n m p : ℕ) → n / 2 ^ k ≡ m / 2 ^ k → n ≤ p → p ≤ m → n / 2 ^ k ≡ p / 2 ^ k
between_up k n m p e low high =
    let one = in_block k n m e in
    let two = in_block k n n refl in
    of_block k n p (omega (arith, two.0)) (omega (arith, one.1))

-- numbers that are the same in their first s bits are not told apart by fewer
not_apart : (bits n p r s : ℕ) → PartsAt bits n p r → r ≤ s → n / 2 ^ (bits - s) ≡ p / 2 ^ (bits - s) → ⊥
not_apart bits n p r s parts le e = parts.apart (same_above (bits - s) (bits - r) n p (omega arith) e)

-- no fewer bits have one longest prefix
not_fewer : (family : Family) (table : List Entry) (n p r t : ℕ) → PartsAt (bits_in family) n p r → t < r → p < 2 ^ bits_in family → IsUniform table (address_in family n) t → longest_at family table p ≡ longest_at family table n
not_fewer family table n p r t parts lt small uni =
    let e : n / 2 ^ (bits_in family - t) ≡ p / 2 ^ (bits_in family - t) = same_above (bits_in family - (r - 1)) (bits_in family - t) n p (omega (arith, parts.within)) parts.alike in
    uni (address_in family p) (fits family p small) (same family t n p ∙ eq-eqb _ _ e)

-- the bits that tell the number from one before it, if there is such
parts_before : (family : Family) (n start l : ℕ) (o : Option ℕ) → SomeIff o (1 ≤ start) (start - 1) → MatchOption o (l ≡ 0) (λ m. PartsAt (bits_in family) n m l) → 0 < start → PartsAt (bits_in family) n (start - 1) l
parts_before family n start l None none parts some = absurd (none (omega arith))
parts_before family n start l (Some m) is parts some = subst (λ (p : ℕ). PartsAt (bits_in family) n p l) is.1 parts

some_before : (family : Family) (n start l : ℕ) (o : Option ℕ) → SomeIff o (1 ≤ start) (start - 1) → MatchOption o (l ≡ 0) (λ m. PartsAt (bits_in family) n m l) → 0 < l → 0 < start
some_before family n start l None none parts some = omega (arith, parts)
some_before family n start l (Some m) is parts some = omega (arith, is.0)

from_start : (family : Family) (n start l s m : ℕ) (o : Option ℕ) → SomeIff o (1 ≤ start) (start - 1) → MatchOption o (l ≡ 0) (λ m. PartsAt (bits_in family) n m l) → start ≤ n → l ≤ s → n / 2 ^ (bits_in family - s) ≡ m / 2 ^ (bits_in family - s) → start ≤ m
from_start family n start l s m o is parts from le e = elim (cases_lt m start) [
  | inr ok ↦ ok
  | inl before ↦ absurd (not_apart (bits_in family) n (start - 1) l s (parts_before family n start l o is parts (omega arith)) le (between_down (bits_in family - s) n m (start - 1) e (omega arith) (omega arith)))
]

upto_end : (family : Family) (n h s m : ℕ) (o : Option ℕ) → MatchOption o (h ≡ 0) (λ e. PartsAt (bits_in family) n e h) → n < unwrap_or o (2 ^ bits_in family) → m < 2 ^ bits_in family → h ≤ s → n / 2 ^ (bits_in family - s) ≡ m / 2 ^ (bits_in family - s) → m < unwrap_or o (2 ^ bits_in family)
upto_end family n h s m None parts to small le e = small
upto_end family n h s m (Some x) parts to small le e = elim (cases_lt m x) [
  | inl ok ↦ ok
  | inr after ↦ absurd (not_apart (bits_in family) n x h s parts le (between_up (bits_in family - s) n m x e (omega arith) after))
]

no_fewer_after : (family : Family) (table : List Entry) (n h t : ℕ) (o : Option ℕ) → MatchOption o (h ≡ 0) (λ e. PartsAt (bits_in family) n e h) → IfSome o (λ e. e < 2 ^ bits_in family) → IfSome o (λ e. longest_at family table e ≡ longest_at family table n → ⊥) → t < h → IsUniform table (address_in family n) t → ⊥
no_fewer_after family table n h t None parts small other lt uni = omega (arith, parts)
no_fewer_after family table n h t (Some e) parts small other lt uni = other (not_fewer family table n e h t parts lt small uni)

within_after : (family : Family) (n h : ℕ) (o : Option ℕ) → MatchOption o (h ≡ 0) (λ e. PartsAt (bits_in family) n e h) → h ≤ bits_in family
within_after family n h None parts = omega (arith, parts)
within_after family n h (Some e) parts = parts.within

pub is_scope : (family : Family) (table : List Entry) (n : ℕ) (r : Range) (l h s : ℕ) (o : Option ℕ) → IsRangeOf family table n r → n < 2 ^ bits_in family → SomeIff o (1 ≤ r.start) (r.start - 1) → MatchOption o (l ≡ 0) (λ m. PartsAt (bits_in family) n m l) → MatchOption r.end (h ≡ 0) (λ m. PartsAt (bits_in family) n m h) → s ≡ max l h → IsScope table (address_in family n) s
is_scope family table n r l h s o is small before parts_l parts_h most = record {
  within = omega (arith, within_after family n l o parts_l, within_after family n h r.end parts_h, width family n);
  uniform = λ b fit agree. (
      let m = in_family family s n b agree in
      let there : m.0 < 2 ^ bits_in family = fits_back family m.0 (subst IsAddress m.1 fit) in
      let e : n / 2 ^ (bits_in family - s) ≡ m.0 / 2 ^ (bits_in family - s) = eqb-true _ _ (sym (same family s n m.0) ∙ subst (λ (a : Addr). agrees s (address_in family n) a ≡ true) m.1 agree) in
      ap (longest table) m.1 ∙ is.held m.0 (from_start family n r.start l s m.0 o before parts_l is.inside.from (omega arith) e) (upto_end family n h s m.0 r.end parts_h is.inside.to there (omega arith) e));
  least = λ t lt uni. elim (cases_lt t l) [
    | inl few ↦ (
        let some : 0 < r.start = some_before family n r.start l o before parts_l (omega arith) in
        is.before some (not_fewer family table n (r.start - 1) l t (parts_before family n r.start l o before parts_l some) few (omega (arith, is.inside.from)) uni))
    | inr le ↦ no_fewer_after family table n h t r.end parts_h is.inside.fits is.after (omega arith) uni
  ];
}
