-- Rows of which one is replaced.
use Rattle.std.proofs.Common.{◌≡◌, ℕ, zero, suc, ◌+◌, ◌<◌, ◌≤◌, Bool, true, false, cond, nat_lt, List, [], ◌∷◌, ◌++◌, length, map, filter, slice_set, get_or, refl, sym, ap, ap₂, ◌∙◌, subst, arith, append_assoc}
use Rattle.std.proofs.lemmas.List.Elements.{filter-append}
use Rattle.std.proofs.lemmas.Bool.Decides.{nat_tests}
use Rattle.map_model.specs.declared.instance.Node.{Node}
use Rattle.map_model.specs.declared.lines.MapLine.{MapLine}
use Rattle.map_model.specs.declared.lines.NameLine.{NameLine}
use Rattle.map_model.specs.Market.{Group}
use Rattle.published_map.specs.declared.row.GroupRow.{GroupRow}
use Rattle.published_map.specs.Rows.{each_with, lines_at, names_at, in_rows, with_demands, with_capacities}
use Rattle.published_map.specs.Changes.{replaced}

kept : {X Y : Type 0} (p : X → Bool) (f : Y → X) → ((y : Y) → p (f y) ≡ true) → (ys : List Y) → filter p (map f ys) ≡ map f ys
kept p f h [] = refl
kept p f h (y ∷ ys) = ap (λ b. cond b (f y ∷ filter p (map f ys)) (filter p (map f ys))) (h y) ∙ ap (λ zs. f y ∷ zs) (kept p f h ys)

gone : {X Y : Type 0} (p : X → Bool) (f : Y → X) → ((y : Y) → p (f y) ≡ false) → (ys : List Y) → filter p (map f ys) ≡ []
gone p f h [] = refl
gone p f h (y ∷ ys) = ap (λ b. cond b (f y ∷ filter p (map f ys)) (filter p (map f ys))) (h y) ∙ gone p f h ys

-- what stands in a row has the group's number
pub record Keyed (X : Type 0) (key : X → ℕ) (at : ℕ → GroupRow → List X) : Type 0 where
  pub all : (test : ℕ → Bool) (g : ℕ) (r : GroupRow) → test g ≡ true → filter (λ x. test (key x)) (at g r) ≡ at g r
  pub none : (test : ℕ → Bool) (g : ℕ) (r : GroupRow) → test g ≡ false → filter (λ x. test (key x)) (at g r) ≡ []

pub lines_keyed : Keyed MapLine (λ l. l.group.0) lines_at
unfolding lines_at
lines_keyed = record { all = λ test g r is. kept _ _ (λ y. is) r.amounts.items; none = λ test g r is. gone _ _ (λ y. is) r.amounts.items }

pub names_keyed : Keyed NameLine (λ l. l.group.0) names_at
unfolding names_at
names_keyed = record { all = λ test g r is. kept _ _ (λ y. is) r.names.items; none = λ test g r is. gone _ _ (λ y. is) r.names.items }

less_no : (a b : ℕ) → b ≤ a → nat_lt a b ≡ false
less_no a b h = grind (arith, nat_tests)

less_yes : (a b : ℕ) → a < b → nat_lt a b ≡ true
less_yes a b h = grind (arith, nat_tests)

-- nothing in rows from group o on is of a group that fails the test
none_from : (X : Type 0) (key : X → ℕ) (at : ℕ → GroupRow → List X) → Keyed X key at → (test : ℕ → Bool) (o : ℕ) → ((n : ℕ) → o ≤ n → test n ≡ false) → (rows : List GroupRow) → filter (λ x. test (key x)) (in_rows at o rows) ≡ []
unfolding in_rows
none_from X key at k test o nope [] = refl
none_from X key at k test o nope (r ∷ rs) =
    filter-append (λ x. test (key x)) (at o r) (in_rows at (suc o) rs)
    ∙ (ap (λ xs. xs ++ filter (λ x. test (key x)) (in_rows at (suc o) rs)) (k.none test o r (nope o (omega arith))) ∙ none_from X key at k test (suc o) (λ n le. nope n (omega arith)) rs)

all_from : (X : Type 0) (key : X → ℕ) (at : ℕ → GroupRow → List X) → Keyed X key at → (test : ℕ → Bool) (o : ℕ) → ((n : ℕ) → o ≤ n → test n ≡ true) → (rows : List GroupRow) → filter (λ x. test (key x)) (in_rows at o rows) ≡ in_rows at o rows
unfolding in_rows
all_from X key at k test o yep [] = refl
all_from X key at k test o yep (r ∷ rs) =
    filter-append (λ x. test (key x)) (at o r) (in_rows at (suc o) rs)
    ∙ (ap (λ xs. xs ++ filter (λ x. test (key x)) (in_rows at (suc o) rs)) (k.all test o r (yep o (omega arith))) ∙ ap (λ xs. at o r ++ xs) (all_from X key at k test (suc o) (λ n le. yep n (omega arith)) rs))

-- rows with one replaced hold what the others hold, and what that one holds
pub replaced_rows : (X : Type 0) (key : X → ℕ) (at : ℕ → GroupRow → List X) → Keyed X key at → (o i g : ℕ) (row : GroupRow) (rows : List GroupRow) → g ≡ o + i → i < length rows
    → in_rows at o (slice_set rows i row) ≡ replaced key g (at g row) (in_rows at o rows)
unfolding in_rows replaced
replaced_rows X key at k o i g row [] is lt = absurd (omega arith)
replaced_rows X key at k o zero g row (r ∷ rs) is lt =
    let here : g ≡ o = omega arith in
    let low : filter (λ x. nat_lt (key x) o) (at o r ++ in_rows at (suc o) rs) ≡ [] =
    none_from X key at k (λ n. nat_lt n o) o (λ n le. less_no n o le) (r ∷ rs) in
    let own : filter (λ x. nat_lt o (key x)) (at o r) ≡ [] = k.none (λ n. nat_lt o n) o r (less_no o o (omega arith)) in
    let rest : filter (λ x. nat_lt o (key x)) (in_rows at (suc o) rs) ≡ in_rows at (suc o) rs = all_from X key at k (λ n. nat_lt o n) (suc o) (λ n le. less_yes o n (omega arith)) rs in
    let high : filter (λ x. nat_lt o (key x)) (at o r ++ in_rows at (suc o) rs) ≡ in_rows at (suc o) rs =
    filter-append (λ x. nat_lt o (key x)) (at o r) (in_rows at (suc o) rs) ∙ (ap (λ xs. xs ++ filter (λ x. nat_lt o (key x)) (in_rows at (suc o) rs)) own ∙ rest) in
    let at_o : at o row ++ in_rows at (suc o) rs ≡ filter (λ x. nat_lt (key x) o) (at o r ++ in_rows at (suc o) rs) ++ (at o row ++ filter (λ x. nat_lt o (key x)) (at o r ++ in_rows at (suc o) rs)) =
    sym (ap (λ xs. xs ++ (at o row ++ filter (λ x. nat_lt o (key x)) (at o r ++ in_rows at (suc o) rs))) low ∙ ap (λ xs. at o row ++ xs) high) in
    subst (λ (n : ℕ). at o row ++ in_rows at (suc o) rs ≡ filter (λ x. nat_lt (key x) n) (at o r ++ in_rows at (suc o) rs) ++ (at n row ++ filter (λ x. nat_lt n (key x)) (at o r ++ in_rows at (suc o) rs))) (sym here) at_o
replaced_rows X key at k o (suc i) g row (r ∷ rs) is lt =
    let xs = in_rows at (suc o) rs in
    let low : filter (λ x. nat_lt (key x) g) (at o r ++ xs) ≡ at o r ++ filter (λ x. nat_lt (key x) g) xs =
    filter-append (λ x. nat_lt (key x) g) (at o r) xs ∙ ap (λ ys. ys ++ filter (λ x. nat_lt (key x) g) xs) (k.all (λ n. nat_lt n g) o r (less_yes o g (omega arith))) in
    let high : filter (λ x. nat_lt g (key x)) (at o r ++ xs) ≡ filter (λ x. nat_lt g (key x)) xs =
    filter-append (λ x. nat_lt g (key x)) (at o r) xs ∙ ap (λ ys. ys ++ filter (λ x. nat_lt g (key x)) xs) (k.none (λ n. nat_lt g n) o r (less_no g o (omega arith))) in
    let deeper : in_rows at (suc o) (slice_set rs i row) ≡ filter (λ x. nat_lt (key x) g) xs ++ (at g row ++ filter (λ x. nat_lt g (key x)) xs) =
    replaced_rows X key at k (suc o) i g row rs (omega arith) (omega arith) in
    ap (λ ys. at o r ++ ys) deeper
    ∙ (sym (append_assoc (at o r) (filter (λ x. nat_lt (key x) g) xs) (at g row ++ filter (λ x. nat_lt g (key x)) xs))
    ∙ sym (ap (λ ys. ys ++ (at g row ++ filter (λ x. nat_lt g (key x)) (at o r ++ xs))) low ∙ ap (λ ys. (at o r ++ filter (λ x. nat_lt (key x) g) xs) ++ (at g row ++ ys)) high))

module _ {X Y : Type 0} (put : X → Y → X) where
  set_with : ((x : X) (y z : Y) → put (put x y) z ≡ put x z) → (xs : List X) (ys : List Y) (i : ℕ) (y : Y) (d : X) → i < length ys → length ys ≡ length xs
      → each_with put xs (slice_set ys i y) ≡ slice_set (each_with put xs ys) i (put (get_or (each_with put xs ys) i d) y)
  unfolding each_with
  set_with again xs [] i y d lt same = absurd (omega arith)
  set_with again [] (z ∷ zs) i y d lt same = absurd (omega arith)
  set_with again (x ∷ xs) (z ∷ zs) zero y d lt same = ap (λ w. w ∷ each_with put xs zs) (sym (again x z y))
  set_with again (x ∷ xs) (z ∷ zs) (suc i) y d lt same = ap (λ ws. put x z ∷ ws) (set_with again xs zs i y d (omega arith) (omega arith))

  length_with : (xs : List X) (ys : List Y) → length (each_with put xs ys) ≡ length xs
  unfolding each_with
  length_with [] ys = refl
  length_with (x ∷ xs) [] = refl
  length_with (x ∷ xs) (y ∷ ys) = ap suc (length_with xs ys)

  at_with : (xs : List X) (ys : List Y) (i : ℕ) (d : X) (e : Y) → i < length ys → length ys ≡ length xs → get_or (each_with put xs ys) i d ≡ put (get_or xs i d) (get_or ys i e)
  unfolding each_with
  at_with xs [] i d e lt same = absurd (omega arith)
  at_with [] (y ∷ ys) i d e lt same = absurd (omega arith)
  at_with (x ∷ xs) (y ∷ ys) zero d e lt same = refl
  at_with (x ∷ xs) (y ∷ ys) (suc i) d e lt same = at_with xs ys i d e (omega arith) (omega arith)

  -- it is the list that has at each place what is put there
  pub all_with : (xs zs : List X) (ys : List Y) (d : X) (e : Y) → length zs ≡ length xs → length ys ≡ length xs → ((i : ℕ) → i < length xs → put (get_or xs i d) (get_or ys i e) ≡ get_or zs i d) → each_with put xs ys ≡ zs
  unfolding each_with
  all_with [] [] ys d e many same each = refl
  all_with [] (z ∷ zs) ys d e many same each = absurd (omega arith)
  all_with (x ∷ xs) [] ys d e many same each = absurd (omega arith)
  all_with (x ∷ xs) (z ∷ zs) [] d e many same each = absurd (omega arith)
  all_with (x ∷ xs) (z ∷ zs) (y ∷ ys) d e many same each = ap₂ (λ w ws. w ∷ ws) (each 0 (omega arith)) (all_with xs zs ys d e (omega arith) (omega arith) (λ i l. each (suc i) (omega arith)))

-- demands of rows of which one is replaced
pub demands_set : (gs : List Group) (rows : List GroupRow) (i : ℕ) (row : GroupRow) (d : Group) → i < length rows → length rows ≡ length gs
    → with_demands gs (slice_set rows i row) ≡ slice_set (with_demands gs rows) i (record (get_or (with_demands gs rows) i d) { demand = row.demand })
unfolding with_demands
demands_set gs rows i row d lt same = set_with (λ (g : Group) (r : GroupRow). record g { demand = r.demand }) (λ g r s. refl) gs rows i row d lt same

pub capacities_set : (ns : List Node) (caps : List ℕ) (i c : ℕ) (d : Node) → i < length caps → length caps ≡ length ns
    → with_capacities ns (slice_set caps i c) ≡ slice_set (with_capacities ns caps) i (record (get_or (with_capacities ns caps) i d) { capacity = c })
unfolding with_capacities
capacities_set ns caps i c d lt same = set_with (λ (n : Node) (c : ℕ). record n { capacity = c }) (λ n b c. refl) ns caps i c d lt same

pub length-demands : (gs : List Group) (rows : List GroupRow) → length (with_demands gs rows) ≡ length gs
unfolding with_demands
length-demands gs rows = length_with (λ (g : Group) (r : GroupRow). record g { demand = r.demand }) gs rows

pub length-capacities : (ns : List Node) (caps : List ℕ) → length (with_capacities ns caps) ≡ length ns
unfolding with_capacities
length-capacities ns caps = length_with (λ (n : Node) (c : ℕ). record n { capacity = c }) ns caps

pub demand_at : (gs : List Group) (rows : List GroupRow) (i : ℕ) (d : Group) (e : GroupRow) → i < length rows → length rows ≡ length gs → (get_or (with_demands gs rows) i d).demand ≡ (get_or rows i e).demand
unfolding with_demands
demand_at gs rows i d e lt same = ap (λ (g : Group). g.demand) (at_with (λ (g : Group) (r : GroupRow). record g { demand = r.demand }) gs rows i d e lt same)

pub capacity_at : (ns : List Node) (caps : List ℕ) (i : ℕ) (d : Node) (e : ℕ) → i < length caps → length caps ≡ length ns → (get_or (with_capacities ns caps) i d).capacity ≡ get_or caps i e
unfolding with_capacities
capacity_at ns caps i d e lt same = ap (λ (n : Node). n.capacity) (at_with (λ (n : Node) (c : ℕ). record n { capacity = c }) ns caps i d e lt same)
