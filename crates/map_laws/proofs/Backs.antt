-- Where groups go back to, and what they hold there, is determined.
use Rattle.std.proofs.Common.{◌≡◌, ℕ, ◌<◌, ◌==◌, Bool, true, false, ◌&&◌, nat_le, nat_lt, List, length, slice_index, refl, sym, ap, ◌∙◌, subst, inl, inr, arith}
use Rattle.std.proofs.lemmas.Bool.{and_parts, cases_Bool, cases_order, eqb-true, false≢true}
use Rattle.std.proofs.lemmas.Bool.Decides.{nat_tests}
use Rattle.map_model.specs.declared.lines.MapLine.{MapLine}
use Rattle.map_model.specs.Market.{Market}
use Rattle.map_model.specs.Allocation.{IsOffer, units_of}
use Rattle.evict.specs.Standing.{IsPastWanted, Standing}
use Rattle.evict.proofs.Shaped.{units_of-same}
use Rattle.reopen.specs.Rolling.{IsBackAt, IsRolledBack, is_marked}
use Rattle.map_laws.proofs.Same.{same_lines}

-- two lists mark the same trees
abbrev pub MarkSame : Market → List Bool → List Bool → Type 0
MarkSame m marks others = (g k : ℕ) → is_marked m marks g k ≡ is_marked m others g k

back_not_before : (m : Market) (marks others : List Bool) (g old a b : ℕ) → MarkSame m marks others → IsBackAt m marks g old a → IsBackAt m others g old b → a < b → ⊥
back_not_before m marks others g old a b same x y l = false≢true (sym (y.before a l) ∙ sym (same g a) ∙ x.at (omega (arith, l, y.within)))

-- the place to which a group goes back is determined
pub back_one : (m : Market) (marks others : List Bool) (g old a b : ℕ) → MarkSame m marks others → IsBackAt m marks g old a → IsBackAt m others g old b → a ≡ b
back_one m marks others g old a b same x y = elim (cases_order a b) [
  | inl e ↦ e
  | inr (inl l) ↦ absurd (back_not_before m marks others g old a b same x y l)
  | inr (inr l) ↦ absurd (back_not_before m others marks g old b a (λ h k. sym (same h k)) y x l)
]

pub backs_one : (m : Market) (marks others : List Bool) (s t a b : Standing) → MarkSame m marks others → ((g : ℕ) → g < length m.groups → slice_index s.pointers g ≡ slice_index t.pointers g) → IsRolledBack m marks s a → IsRolledBack m others t b → (g : ℕ) → g < length m.groups → slice_index a.pointers g ≡ slice_index b.pointers g
backs_one m marks others s t a b same places x y g l = back_one m marks others g (slice_index t.pointers g) (slice_index a.pointers g) (slice_index b.pointers g) same (subst (λ p. IsBackAt m marks g p (slice_index a.pointers g)) (places g l) (x.pointers g l)) (y.pointers g l)

-- and what it holds there
pub back_lines_one : (m : Market) (marks others : List Bool) (s t a b : Standing) → MarkSame m marks others → s.lines ≡ t.lines → ((g : ℕ) → g < length m.groups → slice_index s.pointers g ≡ slice_index t.pointers g) → IsRolledBack m marks s a → IsRolledBack m others t b → a.lines ≡ b.lines
back_lines_one m marks others s t a b same held places x y = same_lines m x.ready.market a.lines b.lines x.ready.resumable.form y.ready.resumable.form (λ g k o.
    x.units (λ h j. (h == g) && (j == k))
    ∙ units_of-same (λ h j. ((h == g) && (j == k)) && nat_le j (slice_index a.pointers h)) (λ h j. ((h == g) && (j == k)) && nat_le j (slice_index b.pointers h)) (λ h j. each g k o h j) s.lines
    ∙ ap (λ (ls : List MapLine). units_of (λ h j. ((h == g) && (j == k)) && nat_le j (slice_index b.pointers h)) ls) held
    ∙ sym (y.units (λ h j. (h == g) && (j == k))))
  where
    each : (g k : ℕ) → IsOffer m g k → (h j : ℕ) → (((h == g) && (j == k)) && nat_le j (slice_index a.pointers h)) ≡ (((h == g) && (j == k)) && nat_le j (slice_index b.pointers h))
    each g k o h j = elim (cases_Bool ((h == g) && (j == k))) [
      | inr e ↦ rw e refl
      | inl e ↦
          let group : h ≡ g = eqb-true h g (and_parts (h == g) (j == k) e).0 in
          let at : slice_index a.pointers h ≡ slice_index b.pointers h = ap (slice_index a.pointers) group ∙ backs_one m marks others s t a b same places x y g o.group ∙ ap (slice_index b.pointers) (sym group) in
          ap (λ p. ((h == g) && (j == k)) && nat_le j p) at
    ]

past_not_before : (m : Market) (lines : List MapLine) (g a b : ℕ) → g < length m.groups → IsPastWanted m lines g a → IsPastWanted m lines g b → a < b → ⊥
past_not_before m lines g a b l x y less =
    let o : IsOffer m g a = record { group = l; place = omega (arith, less, y.in_list) } in
    let no : nat_lt a a ≡ false = grind (arith, nat_tests) in
    let yes : nat_lt a b ≡ true = grind (arith, nat_tests, less) in
    false≢true (sym no ∙ sym (x.wanted a o) ∙ y.wanted a o ∙ yes)

-- the place past the wanted ones is determined
pub past_one : (m : Market) (lines : List MapLine) (g a b : ℕ) → g < length m.groups → IsPastWanted m lines g a → IsPastWanted m lines g b → a ≡ b
past_one m lines g a b l x y = elim (cases_order a b) [
  | inl e ↦ e
  | inr (inl less) ↦ absurd (past_not_before m lines g a b l x y less)
  | inr (inr less) ↦ absurd (past_not_before m lines g b a l y x less)
]
