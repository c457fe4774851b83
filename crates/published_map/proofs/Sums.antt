-- The units of a group, in rows.
use Rattle.std.proofs.Common.{◌≡◌, ℕ, zero, suc, ◌+◌, ◌<◌, ◌≤◌, ◌==◌, ◌&&◌, Bool, true, false, cond, if◌then◌else◌, List, [], ◌∷◌, length, map, sum_by, get_or, refl, sym, ap, ◌∙◌, subst, arith}
use Rattle.std.proofs.lemmas.List.Sums.{sum_by-append, sum_by-cons}
use Rattle.map_model.specs.declared.lines.MapLine.{MapLine}
use Rattle.map_model.specs.Allocation.{units_of, amount_at, placed}
use Rattle.published_map.specs.declared.row.GroupRow.{GroupRow}
use Rattle.std.proofs.lemmas.Bool.Decides.{nat_tests}
use Rattle.published_map.specs.Rows.{lines_at, in_rows}

-- what a line adds where a test on groups and places passes
abbrev pub weight : (ℕ → ℕ → Bool) → MapLine → ℕ
weight test l = if test l.group.0 l.place then l.amount else 0

of_pairs : (test : ℕ → ℕ → Bool) (g : ℕ) (own : List (ℕ × ℕ)) → sum_by (weight test) (map (λ a. record { group = record { 0 = g }; place = a.0; amount = a.1 }) own) ≡ sum_by (λ a. if test g a.0 then a.1 else 0) own
of_pairs test g [] = refl
of_pairs test g (a ∷ own) =
    sum_by-cons (weight test) _ (map (λ a. record { group = record { 0 = g }; place = a.0; amount = a.1 }) own) ∙ (ap (λ n. (if test g a.0 then a.1 else 0) + n) (of_pairs test g own) ∙ sym (sum_by-cons (λ a. if test g a.0 then a.1 else 0) a own))

-- the units of one row
pub of_row : (test : ℕ → ℕ → Bool) (g : ℕ) (r : GroupRow) → units_of test (lines_at g r) ≡ sum_by (λ a. if test g a.0 then a.1 else 0) r.amounts.items
unfolding lines_at
of_row test g r = of_pairs test g r.amounts.items

zero_of : (test : ℕ → ℕ → Bool) (g : ℕ) (own : List (ℕ × ℕ)) → ((j : ℕ) → test g j ≡ false) → sum_by (λ a. if test g a.0 then a.1 else 0) own ≡ 0
zero_of test g [] fails = refl
zero_of test g (a ∷ own) fails =
    let here : (if test g a.0 then a.1 else 0) ≡ 0 = rw (fails a.0) refl in
    omega (arith, sum_by-cons (λ (b : ℕ × ℕ). if test g b.0 then b.1 else 0) a own, here, zero_of test g own fails)

-- no units where the test passes no group from o on
none_in : (test : ℕ → ℕ → Bool) (o : ℕ) (rows : List GroupRow) → ((h j : ℕ) → o ≤ h → test h j ≡ false) → units_of test (in_rows lines_at o rows) ≡ 0
unfolding in_rows
none_in test o [] fails = refl
none_in test o (r ∷ rs) fails =
    omega (arith, sum_by-append (weight test) (lines_at o r) (in_rows lines_at (suc o) rs), of_row test o r, zero_of test o r.amounts.items (λ j. fails o j (omega arith)), none_in test (suc o) rs (λ h j le. fails h j (omega arith)))

-- the units that a test on one group passes are those of its row
pub own_units : (test : ℕ → ℕ → Bool) (o i g : ℕ) (rows : List GroupRow) (d : GroupRow) → g ≡ o + i → i < length rows → ((h j : ℕ) → (h ≡ g → ⊥) → test h j ≡ false)
    → units_of test (in_rows lines_at o rows) ≡ sum_by (λ a. if test g a.0 then a.1 else 0) (get_or rows i d).amounts.items
unfolding in_rows
own_units test o i g [] d is lt only = absurd (omega arith)
own_units test o zero g (r ∷ rs) d is lt only =
    let here : o ≡ g = omega arith in
    let rest : units_of test (in_rows lines_at (suc o) rs) ≡ 0 = none_in test (suc o) rs (λ h j le. only h j (λ e. omega (arith, e))) in
    let own : units_of test (lines_at o r) ≡ sum_by (λ a. if test g a.0 then a.1 else 0) r.amounts.items = subst (λ (n : ℕ). units_of test (lines_at o r) ≡ sum_by (λ a. if test n a.0 then a.1 else 0) r.amounts.items) here (of_row test o r) in
    omega (arith, sum_by-append (weight test) (lines_at o r) (in_rows lines_at (suc o) rs), own, rest)
own_units test o (suc i) g (r ∷ rs) d is lt only =
    let first : units_of test (lines_at o r) ≡ 0 = of_row test o r ∙ zero_of test o r.amounts.items (λ j. only o j (λ e. omega (arith, e))) in
    omega (arith, sum_by-append (weight test) (lines_at o r) (in_rows lines_at (suc o) rs), first, own_units test (suc o) i g rs d (omega arith) (omega arith) only)

-- what a pair adds at a place
abbrev pub at_place : ℕ → ℕ × ℕ → ℕ
at_place k a = if a.0 == k then a.1 else 0

part_of : (b : Bool) (n : ℕ) → cond b n 0 ≤ n
part_of true n = omega arith
part_of false n = omega arith

pub part_le : (k : ℕ) (a : ℕ × ℕ) → at_place k a ≤ a.1
part_le k a = part_of (a.0 == k) a.1

yes_self : (g : ℕ) → (g == g) ≡ true
yes_self g = grind (arith, nat_tests)

other_no : (h g : ℕ) → (h ≡ g → ⊥) → (h == g) ≡ false
other_no h g apart = grind (arith, nat_tests)

-- the units of a group, and those at one place
pub placed_row : (rows : List GroupRow) (g : ℕ) (d : GroupRow) → g < length rows → placed (in_rows lines_at 0 rows) g ≡ sum_by (λ a. a.1) (get_or rows g d).amounts.items
placed_row rows g d lt =
    own_units (λ h _. h == g) 0 g g rows d (omega arith) lt (λ h j apart. other_no h g apart) ∙ ap (λ (b : Bool). sum_by (λ a. if b then a.1 else 0) (get_or rows g d).amounts.items) (yes_self g)

pub amount_row : (rows : List GroupRow) (g k : ℕ) (d : GroupRow) → g < length rows → amount_at (in_rows lines_at 0 rows) g k ≡ sum_by (at_place k) (get_or rows g d).amounts.items
amount_row rows g k d lt =
    own_units (λ h j. (h == g) && (j == k)) 0 g g rows d (omega arith) lt (λ h j apart. rw (other_no h g apart) refl) ∙ ap (λ (b : Bool). sum_by (λ a. if b && (a.0 == k) then a.1 else 0) (get_or rows g d).amounts.items) (yes_self g)
