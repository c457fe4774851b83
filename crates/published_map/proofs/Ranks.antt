-- The lines and the names of a map rise by group, and a group has at most sixteen of each.
use Rattle.std.proofs.Common.{◌≡◌, ℕ, zero, suc, ◌+◌, ◌-◌, ◌*◌, ◌<◌, ◌≤◌, ◌==◌, true, cond, List, [], ◌∷◌, length, slice_index_or, IsTrue, sym, ap, subst, arith, inl, inr}
use Rattle.std.proofs.lemmas.Bool.{and_parts, or_cases, ltb-true, eqb-true, cases_Bool}
use Rattle.map_model.specs.declared.lines.MapLine.{MapLine}
use Rattle.map_model.specs.declared.lines.By.TheVariants.{Limit}
use Rattle.map_model.specs.declared.lines.NameLine.{NameLine}
use Rattle.map_model.specs.Market.{Market, IsMarket}
use Rattle.map_model.specs.Allocation.{AreLines, AreNames, is_name, is_name_before, name_at}
use Rattle.map_model.proofs.MapForm.{IsLineAt-from, few_places, no_line, rises}
use Rattle.map_model.proofs.Rising.{Rises, Rises-lower}
use Rattle.published_map.proofs.Cut.{AllFrom, Rising, AllBelow, of}

-- of one of so many groups, at one of sixteen places
abbrev pub IsPlaced : {X : Type 0} → (X → ℕ) → (X → ℕ) → ℕ → X → Type 0
IsPlaced group place n x = (group x < n) × (place x < 16)

-- where an element stands in the order
abbrev pub rank_by : {X : Type 0} → (X → ℕ) → (X → ℕ) → X → ℕ
rank_by group place x = group x * 16 + place x

-- what a form by index says of one element and of the one before it
abbrev pub IsUp : {X : Type 0} → (X → ℕ) → (X → Type 0) → X → List X → ℕ → Type 0
IsUp rank In none xs i = In (slice_index_or xs i none) × (0 < i → rank (slice_index_or xs (i - 1) none) < rank (slice_index_or xs i none))

shifted : {X : Type 0} (rank : X → ℕ) (none x : X) (xs : List X) (i : ℕ) → (0 < suc i → rank (slice_index_or (x ∷ xs) (suc i - 1) none) < rank (slice_index_or xs i none)) → 0 < i
    → rank (slice_index_or xs (i - 1) none) < rank (slice_index_or xs i none)
shifted rank none x xs zero h some = absurd (omega arith)
shifted rank none x xs (suc j) h some =
    let e : suc (suc j) - 1 ≡ suc j = omega arith in
    let f : suc j - 1 ≡ j = omega arith in
    let here : rank (slice_index_or (x ∷ xs) (suc j) none) < rank (slice_index_or xs (suc j) none) = subst (λ (n : ℕ). rank (slice_index_or (x ∷ xs) n none) < rank (slice_index_or xs (suc j) none)) e (h (omega arith)) in
    subst (λ (n : ℕ). rank (slice_index_or xs n none) < rank (slice_index_or xs (suc j) none)) (sym f) here

-- a form by index, as a list whose ranks rise
pub rises_by : {X : Type 0} (rank : X → ℕ) (In : X → Type 0) (none : X) (xs : List X) (from : ℕ) → ((i : ℕ) → i < length xs → IsUp rank In none xs i) → (0 < length xs → from ≤ rank (slice_index_or xs 0 none)) → Rises rank In from xs
rises_by rank In none [] from each low = tt
rises_by rank In none (x ∷ xs) from each low =
    let start : from ≤ rank x = low (omega arith) in (
      start,
      (each 0 (omega arith)).0,
      rises_by rank In none xs (rank x + 1)
          (λ i l. let at = each (suc i) (omega arith) in (at.0, shifted rank none x xs i at.1))
          (λ some. next some (each 1)),
    )
  where
    next : 0 < length xs → (1 < length (x ∷ xs) → IsUp rank In none (x ∷ xs) 1) → rank x + 1 ≤ rank (slice_index_or xs 0 none)
    next some at =
        let e : 1 - 1 ≡ 0 = omega arith in
        let up : rank (slice_index_or (x ∷ xs) (1 - 1) none) < rank (slice_index_or xs 0 none) = (at (omega arith)).1 (omega arith) in
        let here : rank x < rank (slice_index_or xs 0 none) = subst (λ (n : ℕ). rank (slice_index_or (x ∷ xs) n none) < rank (slice_index_or xs 0 none)) e up in
        omega arith

all_from : {X : Type 0} (group place : X → ℕ) (n g from : ℕ) (xs : List X) → g * 16 ≤ from → Rises (rank_by group place) (IsPlaced group place n) from xs → AllFrom group g xs
all_from group place n g from [] le r = tt
all_from group place n g from (x ∷ xs) le r =
    let low : from ≤ group x * 16 + place x = r.0 in
    let few : place x < 16 = r.1.1 in
    (omega arith, all_from group place n g (group x * 16 + place x + 1) xs (omega arith) r.2)

-- such a list rises by group
pub rising : {X : Type 0} (group place : X → ℕ) (n from : ℕ) (xs : List X) → Rises (rank_by group place) (IsPlaced group place n) from xs → Rising group xs
rising group place n from [] r = tt
rising group place n from (x ∷ xs) r = (all_from group place n (group x) (group x * 16 + place x + 1) xs (omega arith) r.2, rising group place n (group x * 16 + place x + 1) xs r.2)

pub below : {X : Type 0} (group place : X → ℕ) (n from : ℕ) (xs : List X) → Rises (rank_by group place) (IsPlaced group place n) from xs → AllBelow group n xs
below group place n from [] r = tt
below group place n from (x ∷ xs) r = (r.1.0, below group place n (group x * 16 + place x + 1) xs r.2)

few_behind : {X : Type 0} (group place : X → ℕ) (n g from : ℕ) (xs : List X) → g * 16 ≤ from → Rises (rank_by group place) (IsPlaced group place n) from xs → length (of group g xs) ≤ g * 16 + 16 - from
unfolding of
few_behind group place n g from [] le r = omega arith
few_behind group place n g from (x ∷ xs) le r = elim (cases_Bool (group x == g)) [
  | inl e ↦
      let low : from ≤ group x * 16 + place x = r.0 in
      let few : place x < 16 = r.1.1 in
      let same : group x ≡ g = eqb-true (group x) g e in
      let rest : length (of group g xs) ≤ g * 16 + 16 - (group x * 16 + place x + 1) = few_behind group place n g (group x * 16 + place x + 1) xs (omega (arith, same)) r.2 in
      let len : length (cond (group x == g) (x ∷ of group g xs) (of group g xs)) ≡ suc (length (of group g xs)) = ap (λ b. length (cond b (x ∷ of group g xs) (of group g xs))) e in
      omega (arith, same, len, rest)
  | inr e ↦
      let low : from ≤ group x * 16 + place x = r.0 in
      let len : length (cond (group x == g) (x ∷ of group g xs) (of group g xs)) ≡ length (of group g xs) = ap (λ b. length (cond b (x ∷ of group g xs) (of group g xs))) e in
      let lower = Rises-lower (rank_by group place) (IsPlaced group place n) from (group x * 16 + place x + 1) xs (omega arith) r.2 in
      omega (arith, len, few_behind group place n g from xs le lower)
]

-- at most sixteen of it are of one group
pub few : {X : Type 0} (group place : X → ℕ) (n g from : ℕ) (xs : List X) → Rises (rank_by group place) (IsPlaced group place n) from xs → length (of group g xs) ≤ 16
unfolding of
few group place n g from [] r = omega arith
few group place n g from (x ∷ xs) r = elim (cases_Bool (group x == g)) [
  | inl e ↦
      let same : group x ≡ g = eqb-true (group x) g e in
      let rest : length (of group g xs) ≤ g * 16 + 16 - (group x * 16 + place x + 1) = few_behind group place n g (group x * 16 + place x + 1) xs (omega (arith, same)) r.2 in
      let len : length (cond (group x == g) (x ∷ of group g xs) (of group g xs)) ≡ suc (length (of group g xs)) = ap (λ b. length (cond b (x ∷ of group g xs) (of group g xs))) e in
      omega (arith, same, len, rest)
  | inr e ↦
      let len : length (cond (group x == g) (x ∷ of group g xs) (of group g xs)) ≡ length (of group g xs) = ap (λ b. length (cond b (x ∷ of group g xs) (of group g xs))) e in
      omega (arith, len, few group place n g (group x * 16 + place x + 1) xs r.2)
]

-- the lines of a map
pub lines_rise : (m : Market) → IsMarket m → (lines : List MapLine) → AreLines m lines → Rises (rank_by (λ (l : MapLine). l.group.0) (λ (l : MapLine). l.place)) (IsPlaced (λ (l : MapLine). l.group.0) (λ (l : MapLine). l.place) (length m.groups)) 0 lines
lines_rise m market lines form = rises_by (rank_by (λ (l : MapLine). l.group.0) (λ (l : MapLine). l.place)) (IsPlaced (λ (l : MapLine). l.group.0) (λ (l : MapLine). l.place) (length m.groups)) no_line lines 0 at (λ some. omega arith)
  where
    at : (i : ℕ) → i < length lines → IsUp (rank_by (λ (l : MapLine). l.group.0) (λ (l : MapLine). l.place)) (IsPlaced (λ (l : MapLine). l.group.0) (λ (l : MapLine). l.place) (length m.groups)) no_line lines i
    at i lt =
        let here = IsLineAt-from m lines i (form i lt) in (
          (here.offer.group, few_places m market _ _ here.offer),
          λ some.
              let was = IsLineAt-from m lines (i - 1) (form (i - 1) (omega arith)) in
              rises (slice_index_or lines (i - 1) no_line) (slice_index_or lines i no_line) (here.above some) (few_places m market _ _ was.offer),
        )

-- a name before another has the lesser rank
name_rises : (a b : NameLine) → is_name_before a b ≡ true → a.place < 16 → a.group.0 * 16 + a.place < b.group.0 * 16 + b.place
name_rises a b h small = elim (or_cases _ _ h) [
  | inl l ↦ omega (arith, ltb-true a.group.0 b.group.0 l)
  | inr e ↦ let p = and_parts _ _ e in omega (arith, eqb-true a.group.0 b.group.0 p.0, ltb-true a.place b.place p.1)
]

-- what the form of a name says
record IsNameAt (m : Market) (names : List NameLine) (i : ℕ) : Type 0 where
  group : (name_at names i).group.0 < length m.groups
  place : (name_at names i).place < 16
  above : 0 < i → is_name_before (name_at names (i - 1)) (name_at names i) ≡ true

name_form : (m : Market) → IsMarket m → (names : List NameLine) (i : ℕ) → IsTrue (is_name m names i) → IsNameAt m names i
name_form m market names i h =
    let p = and_parts _ _ h in
    let q = and_parts _ _ p.0 in
    let r = and_parts _ _ q.0 in
    record {
      group = ltb-true _ _ r.0;
      place = few_places m market _ _ (record { group = ltb-true _ _ r.0; place = ltb-true _ _ r.1 });
      above = λ l. elim (or_cases _ _ p.1) [ inl e ↦ absurd (omega (arith, eqb-true i 0 e)) | inr b ↦ b ];
    }

-- the names of a map
pub names_rise : (m : Market) → IsMarket m → (names : List NameLine) → AreNames m names → Rises (rank_by (λ (l : NameLine). l.group.0) (λ (l : NameLine). l.place)) (IsPlaced (λ (l : NameLine). l.group.0) (λ (l : NameLine). l.place) (length m.groups)) 0 names
names_rise m market names form = rises_by (rank_by (λ (l : NameLine). l.group.0) (λ (l : NameLine). l.place)) (IsPlaced (λ (l : NameLine). l.group.0) (λ (l : NameLine). l.place) (length m.groups)) (record { group = record { 0 = 0 }; place = 0; by = Limit }) names 0 at (λ some. omega arith)
  where
    at : (i : ℕ) → i < length names → IsUp (rank_by (λ (l : NameLine). l.group.0) (λ (l : NameLine). l.place)) (IsPlaced (λ (l : NameLine). l.group.0) (λ (l : NameLine). l.place) (length m.groups)) (record { group = record { 0 = 0 }; place = 0; by = Limit }) names i
    at i lt =
        let here = name_form m market names i (form i lt) in (
          (here.group, here.place),
          λ some.
              let was = name_form m market names (i - 1) (form (i - 1) (omega arith)) in
              name_rises (name_at names (i - 1)) (name_at names i) (here.above some) was.place,
        )
