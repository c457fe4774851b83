-- The lines of a table, and what they sum up to.
use Rattle.std.proofs.Common.{◌≡◌, ◌≢◌, ℕ, zero, suc, ◌+◌, ◌-◌, ◌/◌, ◌%◌, ◌<◌, ◌≤◌, ◌==◌, Bool, true, false, ◌&&◌, if◌then◌else◌, cond, List, [], ◌∷◌, ◌++◌, length, take, replicate, slice_index, slice_set, get_or-set_other, IsTrue, refl, sym, ap, ◌∙◌, subst, arith, ◌⊎◌, inl, inr}
use Rattle.std.proofs.lemmas.Bool.{cases_eq, eq-eqb, eqb-true, false≢true, lt-ltb, ne_eqb, and_from}
use Rattle.std.proofs.lemmas.List.{length-take-le, take_more}
use Rattle.std.proofs.lemmas.List.Sums.{sum_by-cons}
use Rattle.map_model.specs.declared.lines.MapLine.{MapLine}
use Rattle.map_model.specs.Market.{IsMarket, Market}
use Rattle.map_model.specs.Allocation.{AreLines, IsOffer, amount_at, is_line, line_at, units_of}
use Rattle.map_model.proofs.MapForm.{IsLineAt-from, few_places, rises, no_line}
use Rattle.map_model.proofs.Rising.{IsRisen, Rises, Rises-at, Rises-lower, before_by_rank, first_or}
use Rattle.offer_pool.specs.Table.{amount_in, line_of, lines_from, lines_in, place_at}
use Rattle.offer_pool.specs.Filed.{AreAmounts}

-- the units of one amount, where its place passes a test
abbrev part : (ℕ → ℕ → Bool) → ℕ → ℕ → ℕ
part test i x = if test (i / 16) (i % 16) then x else 0

part_none : (test : ℕ → ℕ → Bool) (i x : ℕ) → x ≡ 0 → part test i x ≡ 0
part_none test i x e = go (test (i / 16) (i % 16))
  where
    go : (b : Bool) → cond b x 0 ≡ 0
    go true = e
    go false = refl

-- one amount more at the front
units-cons : (test : ℕ → ℕ → Bool) (i x : ℕ) (xs : List ℕ) → units_of test (lines_from i (x ∷ xs)) ≡ part test i x + units_of test (lines_from (i + 1) xs)
unfolding lines_from
units-cons test i x xs = go (x == 0) refl
  where
    go : (b : Bool) → (x == 0) ≡ b → units_of test (cond b (lines_from (i + 1) xs) (line_of i x ∷ lines_from (i + 1) xs)) ≡ part test i x + units_of test (lines_from (i + 1) xs)
    go true t = let none = part_none test i x (eqb-true x 0 t) in omega arith
    go false t = sum_by-cons (λ (l : MapLine). if test l.group.0 l.place then l.amount else 0) (line_of i x) (lines_from (i + 1) xs)

units-nil : (test : ℕ → ℕ → Bool) (i : ℕ) → units_of test (lines_from i []) ≡ 0
unfolding lines_from
units-nil test i = refl

-- another amount at one place
units-set : (test : ℕ → ℕ → Bool) (xs : List ℕ) (base i at v : ℕ) → i < length xs → base + i ≡ at
    → units_of test (lines_from base (slice_set xs i v)) + part test at (slice_index xs i) ≡ units_of test (lines_from base xs) + part test at v
units-set test [] base i at v h e = absurd (omega arith)
units-set test (x ∷ xs) base zero at v h e =
    let same : base ≡ at = omega arith in
    let new : part test base v ≡ part test at v = ap (λ n. part test n v) same in
    let old : part test base x ≡ part test at x = ap (λ n. part test n x) same in
    omega (arith, units-cons test base v xs, units-cons test base x xs, new, old)
units-set test (x ∷ xs) base (suc i) at v h e =
    omega (arith, units-cons test base x (slice_set xs i v), units-cons test base x xs, units-set test xs (base + 1) i at v (omega arith) (omega arith))

-- the place of an offer, back to the offer
part-place : (test : ℕ → ℕ → Bool) (g k x : ℕ) → k < 16 → part test (place_at g k) x ≡ (if test g k then x else 0)
part-place test g k x small =
    let q : place_at g k / 16 ≡ g = omega arith in
    let r : place_at g k % 16 ≡ k = omega arith in
    ap (λ (h : ℕ). if test h (place_at g k % 16) then x else 0) q ∙ ap (λ (j : ℕ). if test g j then x else 0) r

pub units_changed : (test : ℕ → ℕ → Bool) (amounts : List ℕ) (g k v : ℕ) → k < 16 → place_at g k < length amounts
    → units_of test (lines_in (slice_set amounts (place_at g k) v)) + (if test g k then amount_in amounts g k else 0) ≡ units_of test (lines_in amounts) + (if test g k then v else 0)
units_changed test amounts g k v small within =
    omega (arith, units-set test amounts 0 (place_at g k) (place_at g k) v within (omega arith), part-place test g k v small, part-place test g k (amount_in amounts g k) small)

-- some units more, and some fewer
pub units_more : (amounts : List ℕ) (g k u : ℕ) → k < 16 → place_at g k < length amounts → (test : ℕ → ℕ → Bool)
    → units_of test (lines_in (slice_set amounts (place_at g k) (amount_in amounts g k + u))) ≡ units_of test (lines_in amounts) + (if test g k then u else 0)
units_more amounts g k u small within test = let e = units_changed test amounts g k (amount_in amounts g k + u) small within in omega (arith, e, sum (test g k))
  where
    sum : (b : Bool) → cond b (amount_in amounts g k + u) 0 ≡ cond b (amount_in amounts g k) 0 + cond b u 0
    sum true = refl
    sum false = refl

pub units_fewer : (amounts : List ℕ) (g k u : ℕ) → k < 16 → place_at g k < length amounts → u ≤ amount_in amounts g k → (test : ℕ → ℕ → Bool)
    → units_of test (lines_in (slice_set amounts (place_at g k) (amount_in amounts g k - u))) + (if test g k then u else 0) ≡ units_of test (lines_in amounts)
units_fewer amounts g k u small within enough test = let e = units_changed test amounts g k (amount_in amounts g k - u) small within in omega (arith, e, sum (test g k))
  where
    sum : (b : Bool) → cond b (amount_in amounts g k - u) 0 + cond b u 0 ≡ cond b (amount_in amounts g k) 0
    sum true = omega arith
    sum false = refl

-- no units where the test fails at each place that has some
no_units : (test : ℕ → ℕ → Bool) (xs : List ℕ) (base : ℕ) → ((i : ℕ) → i < length xs → 0 < slice_index xs i → test ((base + i) / 16) ((base + i) % 16) ≡ false) → units_of test (lines_from base xs) ≡ 0
no_units test [] base fails = units-nil test base
no_units test (x ∷ xs) base fails =
    let later = no_units test xs (base + 1) (λ i h some. let e : base + 1 + i ≡ base + suc i = omega arith in ap (λ n. test (n / 16) (n % 16)) e ∙ fails (suc i) (omega arith) some) in
    let here : part test base x ≡ 0 = go (cases_eq x 0) in
    omega (arith, units-cons test base x xs, later, here)
  where
    go : (x ≡ 0) ⊎ (x ≢ 0) → part test base x ≡ 0
    go (inl e) = part_none test base x e
    go (inr ne) = let e : base + 0 ≡ base = omega arith in let f : test (base / 16) (base % 16) ≡ false = ap (λ n. test (n / 16) (n % 16)) (sym e) ∙ fails 0 (omega arith) (omega arith) in ap (λ b. cond b x 0) f

pub units_none : (test : ℕ → ℕ → Bool) (amounts : List ℕ) → ((i : ℕ) → i < length amounts → 0 < slice_index amounts i → test (i / 16) (i % 16) ≡ false) → units_of test (lines_in amounts) ≡ 0
units_none test amounts fails = no_units test amounts 0 (λ i h some. let e : 0 + i ≡ i = omega arith in ap (λ n. test (n / 16) (n % 16)) e ∙ fails i h some)

-- the units at one place
one_place : (test : ℕ → ℕ → Bool) (xs : List ℕ) (base i at : ℕ) → i < length xs → base + i ≡ at → test (at / 16) (at % 16) ≡ true → ((j : ℕ) → j ≢ at → test (j / 16) (j % 16) ≡ false) → units_of test (lines_from base xs) ≡ slice_index xs i
one_place test [] base i at h e hit others = absurd (omega arith)
one_place test (x ∷ xs) base zero at h e hit others =
    let later = no_units test xs (base + 1) (λ j h some. others (base + 1 + j) (λ f. absurd (omega arith))) in
    let same : base ≡ at = omega arith in
    let here : part test base x ≡ x = ap (λ n. part test n x) same ∙ ap (λ b. cond b x 0) hit in
    omega (arith, units-cons test base x xs, later, here)
one_place test (x ∷ xs) base (suc i) at h e hit others =
    let here : part test base x ≡ 0 = ap (λ b. cond b x 0) (others base (λ f. absurd (omega arith))) in
    omega (arith, units-cons test base x xs, here, one_place test xs (base + 1) i at (omega arith) (omega arith) hit others)

pub amount_is : (amounts : List ℕ) (g k : ℕ) → k < 16 → place_at g k < length amounts → amount_at (lines_in amounts) g k ≡ amount_in amounts g k
amount_is amounts g k small within =
    let q : place_at g k / 16 ≡ g = omega arith in
    let r : place_at g k % 16 ≡ k = omega arith in
    one_place (λ h j. (h == g) && (j == k)) amounts 0 (place_at g k) (place_at g k) within (omega arith) (ap (λ b. b && (place_at g k % 16 == k)) (eq-eqb _ g q) ∙ eq-eqb _ k r) (λ j ne. apart j ne (cases_eq (j / 16) g) (cases_eq (j % 16) k))
  where
    apart : (j : ℕ) → j ≢ place_at g k → ((j / 16) ≡ g) ⊎ ((j / 16) ≢ g) → ((j % 16) ≡ k) ⊎ ((j % 16) ≢ k) → ((j / 16 == g) && (j % 16 == k)) ≡ false
    apart j ne (inl e) (inl f) = absurd (ne (omega arith))
    apart j ne (inl e) (inr f) = ap (λ b. b && (j % 16 == k)) (eq-eqb (j / 16) g e) ∙ ne_eqb (j % 16) k f
    apart j ne (inr e) f = ap (λ b. b && (j % 16 == k)) (ne_eqb (j / 16) g e)

-- one amount more at the end
lines-append : (xs : List ℕ) (base at x : ℕ) → base + length xs ≡ at → lines_from base (xs ++ x ∷ []) ≡ lines_from base xs ++ lines_from at (x ∷ [])
unfolding lines_from
lines-append [] base at x e = let same : base ≡ at = omega arith in ap (λ n. lines_from n (x ∷ [])) same
lines-append (y ∷ ys) base at x e = go (y == 0) (lines-append ys (base + 1) at x (omega arith))
  where
    go : (b : Bool) → lines_from (base + 1) (ys ++ x ∷ []) ≡ lines_from (base + 1) ys ++ lines_from at (x ∷ [])
        → cond b (lines_from (base + 1) (ys ++ x ∷ [])) (line_of base y ∷ lines_from (base + 1) (ys ++ x ∷ [])) ≡ cond b (lines_from (base + 1) ys) (line_of base y ∷ lines_from (base + 1) ys) ++ lines_from at (x ∷ [])
    go true e = e
    go false e = ap (λ ls. line_of base y ∷ ls) e

-- the lines of a table, one place further
pub lines_more : (amounts : List ℕ) (i : ℕ) → i < length amounts → lines_in (take (i + 1) amounts) ≡ lines_in (take i amounts) ++ lines_from i (slice_index amounts i ∷ [])
lines_more amounts i h = ap lines_in (take_more amounts i 0 h) ∙ lines-append (take i amounts) 0 i (slice_index amounts i) (omega (arith, length-take-le i amounts (omega arith)))

pub line_some : (i x : ℕ) → 0 < x → lines_from i (x ∷ []) ≡ line_of i x ∷ []
unfolding lines_from
line_some i x some = ap (λ b. cond b [] (line_of i x ∷ [])) (ne_eqb x 0 (λ e. absurd (omega arith)))

pub line_none : (i x : ℕ) → x ≡ 0 → lines_from i (x ∷ []) ≡ []
unfolding lines_from
line_none i x e = ap (λ b. cond b [] (line_of i x ∷ [])) (eq-eqb x 0 e)

-- no lines of an empty table
lines-zeros : (n base : ℕ) → lines_from base (replicate n 0) ≡ []
unfolding lines_from
lines-zeros zero base = refl
lines-zeros (suc n) base = lines-zeros n (base + 1)

pub lines_empty : (n : ℕ) → lines_in (replicate n 0) ≡ []
lines_empty n = lines-zeros n 0

-- lines of which nothing is left from a place on
pub lines-none : (xs : List ℕ) (base : ℕ) → ((j : ℕ) → slice_index xs j ≡ 0) → lines_from base xs ≡ []
unfolding lines_from
lines-none [] base none = refl
lines-none (x ∷ xs) base none = ap (λ b. cond b (lines_from (base + 1) xs) (line_of base x ∷ lines_from (base + 1) xs)) (eq-eqb x 0 (none 0)) ∙ lines-none xs (base + 1) (λ j. none (suc j))

-- an amount behind all others
lines-last : (xs : List ℕ) (base i at v : ℕ) → i < length xs → base + i ≡ at → 0 < v → ((j : ℕ) → i ≤ j → slice_index xs j ≡ 0) → lines_from base (slice_set xs i v) ≡ lines_from base xs ++ line_of at v ∷ []
unfolding lines_from
lines-last [] base i at v h e some clear = absurd (omega arith)
lines-last (x ∷ xs) base zero at v h e some clear =
    let same : base ≡ at = omega arith in
    let rest : lines_from (base + 1) xs ≡ [] = lines-none xs (base + 1) (λ j. clear (suc j) (omega arith)) in
    ap (λ b. cond b (lines_from (base + 1) xs) (line_of base v ∷ lines_from (base + 1) xs)) (ne_eqb v 0 (λ f. absurd (omega arith)))
    ∙ ap (λ ls. line_of base v ∷ ls) rest ∙ ap (λ n. line_of n v ∷ []) same
    ∙ sym (ap (λ b. cond b (lines_from (base + 1) xs) (line_of base x ∷ lines_from (base + 1) xs) ++ line_of at v ∷ []) (eq-eqb x 0 (clear 0 (omega arith))) ∙ ap (λ ls. ls ++ line_of at v ∷ []) rest)
lines-last (x ∷ xs) base (suc i) at v h e some clear = go (x == 0) (lines-last xs (base + 1) i at v (omega arith) (omega arith) some (λ j l. clear (suc j) (omega arith)))
  where
    go : (b : Bool) → lines_from (base + 1) (slice_set xs i v) ≡ lines_from (base + 1) xs ++ line_of at v ∷ []
        → cond b (lines_from (base + 1) (slice_set xs i v)) (line_of base x ∷ lines_from (base + 1) (slice_set xs i v)) ≡ cond b (lines_from (base + 1) xs) (line_of base x ∷ lines_from (base + 1) xs) ++ line_of at v ∷ []
    go true f = f
    go false f = ap (λ ls. line_of base x ∷ ls) f

pub lines_behind : (amounts : List ℕ) (at v : ℕ) → at < length amounts → 0 < v → ((j : ℕ) → at ≤ j → slice_index amounts j ≡ 0) → lines_in (slice_set amounts at v) ≡ lines_in amounts ++ line_of at v ∷ []
lines_behind amounts at v within some clear = lines-last amounts 0 at at v within (omega arith) some clear

-- where a line stands in the order
abbrev rank : MapLine → ℕ
rank l = place_at l.group.0 l.place

-- a line of an offer that holds something
record IsInRange (m : Market) (l : MapLine) : Type 0 where
  offer : IsOffer m l.group.0 l.place
  some : 0 < l.amount

-- lines in range whose ranks rise, from one on
abbrev Rise : Market → ℕ → List MapLine → Type 0
Rise m from lines = Rises rank (IsInRange m) from lines

lines-rise : (m : Market) (xs : List ℕ) (base : ℕ) → ((i : ℕ) → 0 < slice_index xs i → IsOffer m ((base + i) / 16) ((base + i) % 16)) → Rise m base (lines_from base xs)
unfolding lines_from
lines-rise m [] base offers = tt
lines-rise m (x ∷ xs) base offers = go (x == 0) refl (lines-rise m xs (base + 1) (λ i some. let e : base + suc i ≡ base + 1 + i = omega arith in subst (λ n. IsOffer m (n / 16) (n % 16)) e (offers (suc i) some)))
  where
    here : 0 < x → IsOffer m (base / 16) (base % 16)
    here some = let e : base + 0 ≡ base = omega arith in subst (λ n. IsOffer m (n / 16) (n % 16)) e (offers 0 some)

    go : (b : Bool) → (x == 0) ≡ b → Rise m (base + 1) (lines_from (base + 1) xs) → Rise m base (cond b (lines_from (base + 1) xs) (line_of base x ∷ lines_from (base + 1) xs))
    go true t later = Rises-lower rank (IsInRange m) base (base + 1) (lines_from (base + 1) xs) (omega arith) later
    go false t later =
        let some : 0 < x = nonzero t in
        let same : place_at (base / 16) (base % 16) ≡ base = omega arith in
        (omega arith, record { offer = here some; some = some }, subst (λ n. Rise m (n + 1) (lines_from (base + 1) xs)) (sym same) later)
      where
        nonzero : (x == 0) ≡ false → 0 < x
        nonzero t = elim (cases_eq x 0) [ inl e ↦ absurd (false≢true (sym t ∙ eq-eqb x 0 e)) | inr ne ↦ omega arith ]

in_form : (m : Market) → IsMarket m → (lines : List MapLine) (i : ℕ) → i < length lines → IsRisen rank (IsInRange m) no_line 0 lines i → ((j : ℕ) → j < length lines → IsInRange m (line_at lines j)) → IsTrue (is_line m lines i)
in_form m market lines i h a each =
    let l = line_at lines i in
    let b = line_at lines (i - 1) in
    and_from _ _ (and_from _ _ (and_from _ _ (lt-ltb _ _ a.range.offer.group) (lt-ltb _ _ a.range.offer.place)) (lt-ltb _ _ a.range.some)) (first_or i _ (λ some. before_by_rank b.group.0 b.place l.group.0 l.place (few_places m market _ _ (each (i - 1) (omega arith)).offer) (few_places m market _ _ a.range.offer) (a.above some)))

-- the lines of a table are in the form of a map
pub lines_form : (m : Market) (amounts : List ℕ) → IsMarket m → AreAmounts m amounts → AreLines m (lines_in amounts)
lines_form m amounts market table i h =
    let rise = lines-rise m amounts 0 (λ j some. let e : 0 + j ≡ j = omega arith in subst (λ n. IsOffer m (n / 16) (n % 16)) (sym e) (table.offers j some)) in
    in_form m market (lines_in amounts) i h (Rises-at rank (IsInRange m) no_line 0 (lines_in amounts) rise i h) (λ j l. (Rises-at rank (IsInRange m) no_line 0 (lines_in amounts) rise j l).range)

-- a line of a map, put behind those before it
pub line_room : (m : Market) (lines : List MapLine) (a : List ℕ) (i : ℕ) → IsMarket m → AreLines m lines → i < length lines → ((j : ℕ) → (0 < i → rank (line_at lines (i - 1)) < j) → slice_index a j ≡ 0) → (j : ℕ) → rank (line_at lines i) ≤ j → slice_index a j ≡ 0
line_room m lines a i market form within clear j behind = clear j (λ some.
    let here = IsLineAt-from m lines i (form i within) in
    let last = IsLineAt-from m lines (i - 1) (form (i - 1) (omega arith)) in
    let risen : rank (line_at lines (i - 1)) < rank (line_at lines i) = rises (line_at lines (i - 1)) (line_at lines i) (here.above some) (few_places m market _ _ last.offer) in
    omega arith)

pub line_put : (m : Market) (lines : List MapLine) (a b : List ℕ) (i : ℕ) → IsMarket m → AreLines m lines → i < length lines → AreAmounts m a → ((j : ℕ) → rank (line_at lines i) ≤ j → slice_index a j ≡ 0) → lines_in a ≡ take i lines
    → b ≡ slice_set a (rank (line_at lines i)) (slice_index a (rank (line_at lines i)) + (line_at lines i).amount) → (rank (line_at lines i) < length a) → lines_in b ≡ take (i + 1) lines
line_put m lines a b i market form within table clear so_far is there =
    let l = line_at lines i in
    let here = IsLineAt-from m lines i (form i within) in
    let small = few_places m market _ _ here.offer in
    let none : slice_index a (rank (line_at lines i)) ≡ 0 = clear (rank (line_at lines i)) (omega arith) in
    let amount : slice_index a (rank (line_at lines i)) + (line_at lines i).amount ≡ (line_at lines i).amount = omega arith in
    let itself : line_of (rank (line_at lines i)) (line_at lines i).amount ≡ line_at lines i = line-back (line_at lines i) small in
    ap lines_in is ∙ ap (λ (v : ℕ). lines_in (slice_set a (rank (line_at lines i)) v)) amount
    ∙ lines_behind a (rank (line_at lines i)) (line_at lines i).amount there here.some clear
    ∙ ap (λ (ls : List MapLine). ls ++ line_of (rank (line_at lines i)) (line_at lines i).amount ∷ []) so_far
    ∙ ap (λ (x : MapLine). take i lines ++ x ∷ []) itself
    ∙ sym (take_more lines i (record { group = record { 0 = 0 }; place = 0; amount = 0 }) within)
  where
    line-back : (x : MapLine) → x.place < 16 → line_of (rank x) x.amount ≡ x
    line-back x small =
        let q : rank x / 16 ≡ x.group.0 = omega arith in
        let r : rank x % 16 ≡ x.place = omega arith in
        ap (λ (g : ℕ). record { group = record { 0 = g }; place = rank x % 16; amount = x.amount }) q ∙ ap (λ (k : ℕ). record { group = x.group; place = k; amount = x.amount }) r

-- behind the line that came, nothing is held
pub line_clear : (m : Market) (lines : List MapLine) (a b : List ℕ) (i : ℕ) (v : ℕ) → ((j : ℕ) → rank (line_at lines i) ≤ j → slice_index a j ≡ 0) → b ≡ slice_set a (rank (line_at lines i)) v
    → (j : ℕ) → (0 < i + 1 → rank (line_at lines (i + 1 - 1)) < j) → slice_index b j ≡ 0
line_clear m lines a b i v clear is j behind =
    let e : i + 1 - 1 ≡ i = omega arith in
    let past : rank (line_at lines i) < j = subst (λ (n : ℕ). rank (line_at lines n) < j) e (behind (omega arith)) in
    ap (λ (l : List ℕ). slice_index l j) is ∙ get_or-set_other a (rank (line_at lines i)) j v 0 (λ f. absurd (omega arith)) ∙ clear j (omega arith)
