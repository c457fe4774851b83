-- A map cut into rows, and put together again.
use Rattle.std.proofs.Common.{◌≡◌, ℕ, zero, suc, ◌+◌, ◌<◌, ◌≤◌, ◌==◌, ◌⊎◌, Bool, true, false, cond, nat_le, List, [], ◌∷◌, ◌++◌, length, map, filter, refl, sym, ap, ap₂, ◌∙◌, subst, arith, ⊎_elim}
use Rattle.std.specs.List.{prefix_len, range_with_len}
use Rattle.std.specs.Prelude.{take, drop}
use Rattle.std.proofs.Math.Seq.{take-append_seam, drop-append_seam}
use Rattle.std.proofs.lemmas.Bool.{eqb-true}
use Rattle.std.proofs.lemmas.Bool.Decides.{nat_tests}
use Rattle.map_model.specs.declared.lines.By.{By}
use Rattle.map_model.specs.declared.lines.MapLine.{MapLine}
use Rattle.map_model.specs.declared.lines.NameLine.{NameLine}
use Rattle.map_model.specs.Market.{Market}
use Rattle.published_map.specs.declared.row.GroupRow.{GroupRow}
use Rattle.published_map.specs.Rows.{lines_at, names_at, in_rows, amounts_in, names_in, row_of, rows_of}

-- each is at least as large as m
abbrev pub AllFrom : {X : Type 0} → (X → ℕ) → ℕ → List X → Type 0
AllFrom key m [] = Unit {0}
AllFrom key m (x ∷ xs) = (m ≤ key x) × AllFrom key m xs

-- none is below one before it
abbrev pub Rising : {X : Type 0} → (X → ℕ) → List X → Type 0
Rising key [] = Unit {0}
Rising key (x ∷ xs) = AllFrom key (key x) xs × Rising key xs

-- each is below n
abbrev pub AllBelow : {X : Type 0} → (X → ℕ) → ℕ → List X → Type 0
AllBelow key n [] = Unit {0}
AllBelow key n (x ∷ xs) = (key x < n) × AllBelow key n xs

le_yes : (a b : ℕ) → a ≤ b → nat_le a b ≡ true
le_yes a b h = grind (arith, nat_tests)

le_no : (a b : ℕ) → b < a → nat_le a b ≡ false
le_no a b h = grind (arith, nat_tests)

eq_yes : (a b : ℕ) → a ≡ b → (a == b) ≡ true
eq_yes a b h = grind (arith, nat_tests)

eq_no : (a b : ℕ) → (a ≡ b → ⊥) → (a == b) ≡ false
eq_no a b h = grind (arith, nat_tests)

three : (a b : ℕ) → (a < b) ⊎ ((a ≡ b) ⊎ (b < a))
three a b = grind arith

module _ {X : Type 0} (key : X → ℕ) where
  unfoldable pub from : ℕ → List X → List X
  from o xs = filter (λ x. nat_le o (key x)) xs

  unfoldable pub of : ℕ → List X → List X
  of g xs = filter (λ x. key x == g) xs

  none_of : (o m : ℕ) (xs : List X) → o < m → AllFrom key m xs → of o xs ≡ []
  unfolding of
  none_of o m [] lt all = refl
  none_of o m (x ∷ xs) lt all = ap (λ b. cond b (x ∷ of o xs) (of o xs)) (eq_no (key x) o (λ e. omega (arith, e, all.0))) ∙ none_of o m xs lt all.1

  none_left : (o : ℕ) (xs : List X) → AllBelow key o xs → from o xs ≡ []
  unfolding from
  none_left o [] all = refl
  none_left o (x ∷ xs) all = ap (λ b. cond b (x ∷ from o xs) (from o xs)) (le_no o (key x) all.0) ∙ none_left o xs all.1

  pub all_left : (xs : List X) → from 0 xs ≡ xs
  unfolding from
  all_left [] = refl
  all_left (x ∷ xs) = ap (λ b. cond b (x ∷ from 0 xs) (from 0 xs)) (le_yes 0 (key x) (omega arith)) ∙ ap (λ ys. x ∷ ys) (all_left xs)

  -- in a list that rises those of group o stand before those behind it
  one_group : (o : ℕ) (xs : List X) → Rising key xs → from o xs ≡ of o xs ++ from (suc o) xs
  unfolding from of
  one_group o [] rising = refl
  one_group o (x ∷ xs) rising =
      let rest = one_group o xs rising.1 in
      ⊎_elim
      (λ (lt : key x < o).
      ap (λ b. cond b (x ∷ from o xs) (from o xs)) (le_no o (key x) lt)
      ∙ (rest
      ∙ sym (ap₂ (λ a b. cond a (x ∷ of o xs) (of o xs) ++ cond b (x ∷ from (suc o) xs) (from (suc o) xs)) (eq_no (key x) o (λ e. omega (arith, e))) (le_no (suc o) (key x) (omega arith)))))
      (λ (h : (key x ≡ o) ⊎ (o < key x)).
      ⊎_elim
      (λ (e : key x ≡ o).
      ap (λ b. cond b (x ∷ from o xs) (from o xs)) (le_yes o (key x) (omega (arith, e)))
      ∙ (ap (λ ys. x ∷ ys) rest
      ∙ sym (ap₂ (λ a b. cond a (x ∷ of o xs) (of o xs) ++ cond b (x ∷ from (suc o) xs) (from (suc o) xs)) (eq_yes (key x) o e) (le_no (suc o) (key x) (omega (arith, e))))))
      (λ (gt : o < key x).
      let none : of o xs ≡ [] = none_of o (key x) xs gt rising.0 in
      ap (λ b. cond b (x ∷ from o xs) (from o xs)) (le_yes o (key x) (omega arith))
      ∙ (ap (λ ys. x ∷ ys) (rest ∙ ap (λ ys. ys ++ from (suc o) xs) none)
      ∙ sym (ap₂ (λ a b. cond a (x ∷ of o xs) (of o xs) ++ cond b (x ∷ from (suc o) xs) (from (suc o) xs)) (eq_no (key x) o (λ e. omega (arith, e))) (le_yes (suc o) (key x) (omega arith))
      ∙ ap (λ ys. ys ++ (x ∷ from (suc o) xs)) none)))
      h)
      (three (key x) o)

  pub together : (at : ℕ → GroupRow → List X) (row : ℕ → GroupRow) (xs : List X) → ((g : ℕ) → at g (row g) ≡ filter (λ x. key x == g) xs) → Rising key xs → (o n : ℕ) → AllBelow key (o + n) xs
      → in_rows at o (map row (range_with_len o n)) ≡ filter (λ x. nat_le o (key x)) xs
  unfolding in_rows from of
  together at row xs own rising o zero below = sym (none_left o xs (subst (λ (k : ℕ). AllBelow key k xs) (omega arith) below))
  together at row xs own rising o (suc n) below =
      let rest = together at row xs own rising (suc o) n (subst (λ (k : ℕ). AllBelow key k xs) (omega arith) below) in
      let step : o + 1 ≡ suc o = omega arith in
      ap (λ (k : ℕ). at o (row o) ++ in_rows at (suc o) (map row (range_with_len k n))) step ∙ (ap₂ (λ a b. a ++ b) (own o) rest ∙ sym (one_group o xs rising))

  pub all_together : (at : ℕ → GroupRow → List X) (row : ℕ → GroupRow) (xs : List X) → ((g : ℕ) → at g (row g) ≡ filter (λ x. key x == g) xs) → Rising key xs → (n : ℕ) → AllBelow key n xs → in_rows at 0 (map row (range_with_len 0 n)) ≡ xs
  unfolding from
  all_together at row xs own rising n below = together at row xs own rising 0 n (subst (λ (k : ℕ). AllBelow key k xs) (omega arith) below) ∙ all_left xs

  -- a list that goes on with group o begins with what it has of that group
  stops : (g : ℕ) (xs : List X) → prefix_len (λ x. key x == g) (from (suc g) xs) ≡ 0
  unfolding from
  stops g [] = refl
  stops g (x ∷ xs) =
      ⊎_elim
      (λ (lt : key x < suc g).
      ap (λ b. prefix_len (λ x. key x == g) (cond b (x ∷ from (suc g) xs) (from (suc g) xs))) (le_no (suc g) (key x) lt) ∙ stops g xs)
      (λ (h : (key x ≡ suc g) ⊎ (suc g < key x)).
      let above : suc g ≤ key x = ⊎_elim (λ (e : key x ≡ suc g). omega (arith, e)) (λ (l : suc g < key x). omega arith) h in
      ap (λ b. prefix_len (λ x. key x == g) (cond b (x ∷ from (suc g) xs) (from (suc g) xs))) (le_yes (suc g) (key x) above)
      ∙ ap (λ b. cond b (1 + prefix_len (λ x. key x == g) (from (suc g) xs)) 0) (eq_no (key x) g (λ e. omega (arith, e, above))))
      (three (key x) (suc g))

  run_one : (g : ℕ) (b : Bool) (x : X) (zs ys : List X) → (b ≡ true → (key x == g) ≡ true) → prefix_len (λ x. key x == g) (zs ++ ys) ≡ length zs
      → prefix_len (λ x. key x == g) (cond b (x ∷ zs) zs ++ ys) ≡ length (cond b (x ∷ zs) zs)
  run_one g true x zs ys is rest =
      let one : 1 + prefix_len (λ x. key x == g) (zs ++ ys) ≡ suc (length zs) = omega (arith, rest) in
      ap (λ b. cond b (1 + prefix_len (λ x. key x == g) (zs ++ ys)) 0) (is refl) ∙ one
  run_one g false x zs ys is rest = rest

  runs : (g : ℕ) (xs ys : List X) → prefix_len (λ x. key x == g) ys ≡ 0 → prefix_len (λ x. key x == g) (of g xs ++ ys) ≡ length (of g xs)
  unfolding of
  runs g [] ys stop = stop
  runs g (x ∷ xs) ys stop = run_one g (key x == g) x (of g xs) ys (λ e. e) (runs g xs ys stop)

  -- how many of a list that goes on with group g are of that group
  count : (g : ℕ) (xs ys : List X) → Rising key xs → ys ≡ from g xs → prefix_len (λ x. key x == g) ys ≡ length (of g xs)
  count g xs ys rising is = ap (prefix_len (λ x. key x == g)) (is ∙ one_group g xs rising) ∙ runs g xs (from (suc g) xs) (stops g xs)

  pub first_part : (g : ℕ) (xs ys : List X) → Rising key xs → ys ≡ from g xs → take (prefix_len (λ x. key x == g) ys) ys ≡ of g xs
  first_part g xs ys rising is = ap₂ (λ n zs. take n zs) (count g xs ys rising is) (is ∙ one_group g xs rising) ∙ take-append_seam (of g xs) (from (suc g) xs)

  pub behind_part : (g : ℕ) (xs ys : List X) → Rising key xs → ys ≡ from g xs → drop (prefix_len (λ x. key x == g) ys) ys ≡ from (suc g) xs
  behind_part g xs ys rising is = ap₂ (λ n zs. drop n zs) (count g xs ys rising is) (is ∙ one_group g xs rising) ∙ drop-append_seam (of g xs) (from (suc g) xs)

  own_one : {Y : Type 0} (pair : X → Y) (make : ℕ → Y → X) → ((x : X) → make (key x) (pair x) ≡ x) → (g : ℕ) (b : Bool) (x : X) (xs : List X) → (b ≡ true → key x ≡ g)
      → map (make g) (map pair xs) ≡ xs → map (make g) (map pair (cond b (x ∷ xs) xs)) ≡ cond b (x ∷ xs) xs
  own_one pair make back g true x xs is rest = ap₂ (λ y ys. y ∷ ys) (ap (λ (n : ℕ). make n (pair x)) (sym (is refl)) ∙ back x) rest
  own_one pair make back g false x xs is rest = rest

  -- what is taken without its number of a group, and given that number again, is what a list has of the group
  own : {Y : Type 0} (pair : X → Y) (make : ℕ → Y → X) → ((x : X) → make (key x) (pair x) ≡ x) → (xs : List X) (g : ℕ) → map (make g) (map pair (filter (λ x. key x == g) xs)) ≡ filter (λ x. key x == g) xs
  own pair make back [] g = refl
  own pair make back (x ∷ xs) g = own_one pair make back g (key x == g) x (filter (λ x. key x == g) xs) (λ e. eqb-true (key x) g e) (own pair make back xs g)

pub own_lines : (lines : List MapLine) (g : ℕ) → map (λ (a : ℕ × ℕ). record { group = record { 0 = g }; place = a.0; amount = a.1 }) (map (λ (l : MapLine). (l.place, l.amount)) (filter (λ (l : MapLine). l.group.0 == g) lines)) ≡ filter (λ (l : MapLine). l.group.0 == g) lines
own_lines lines = own (λ (l : MapLine). l.group.0) (λ (l : MapLine). (l.place, l.amount)) (λ g (a : ℕ × ℕ). record { group = record { 0 = g }; place = a.0; amount = a.1 }) (λ l. refl) lines

-- the lines of a map that rise by group are those of its rows
pub lines_together : (m : Market) (lines : List MapLine) (names : List NameLine) → Rising (λ (l : MapLine). l.group.0) lines → AllBelow (λ (l : MapLine). l.group.0) (length m.groups) lines → in_rows lines_at 0 (rows_of m lines names) ≡ lines
unfolding lines_at amounts_in
lines_together m lines names rising below = all_together (λ (l : MapLine). l.group.0) lines_at (row_of m lines names) lines (own_lines lines) rising (length m.groups) below

pub own_names : (names : List NameLine) (g : ℕ) → map (λ (a : ℕ × By). record { group = record { 0 = g }; place = a.0; by = a.1 }) (map (λ (l : NameLine). (l.place, l.by)) (filter (λ (l : NameLine). l.group.0 == g) names)) ≡ filter (λ (l : NameLine). l.group.0 == g) names
own_names names = own (λ (l : NameLine). l.group.0) (λ (l : NameLine). (l.place, l.by)) (λ g (a : ℕ × By). record { group = record { 0 = g }; place = a.0; by = a.1 }) (λ l. refl) names

-- the names of a map that rise by group are those of its rows
pub names_together : (m : Market) (lines : List MapLine) (names : List NameLine) → Rising (λ (l : NameLine). l.group.0) names → AllBelow (λ (l : NameLine). l.group.0) (length m.groups) names → in_rows names_at 0 (rows_of m lines names) ≡ names
unfolding names_at names_in
names_together m lines names rising below = all_together (λ (l : NameLine). l.group.0) names_at (row_of m lines names) names (own_names names) rising (length m.groups) below
