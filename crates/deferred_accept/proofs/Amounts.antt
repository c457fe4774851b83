-- Lines in the form of a map, with some units at another offer.
use Rattle.std.proofs.Common.{◌≡◌, ℕ, ◌+◌, ◌-◌, ◌*◌, ◌/◌, ◌%◌, ◌<◌, ◌≤◌, ◌==◌, ◌&&◌, Bool, if◌then◌else◌, List, [], ◌∷◌, length, replicate, slice_index, slice_set, get_or-set_other, All, refl, sym, ap, ◌∙◌, subst, inl, inr, arith}
use Rattle.std.proofs.lemmas.Bool.{cases_eq, cases_lt, eq-eqb, ne_eqb}
use Rattle.std.proofs.lemmas.Grind.{get_or-set_at}
use Rattle.std.proofs.lemmas.List.{get_or-replicate, length-replicate, length-set}
use Rattle.std.proofs.lemmas.List.Elements.{All-head, All-tail}
use Rattle.std.proofs.lemmas.List.Sums.{sum_by-cons}
use Rattle.std.proofs.Math.ListN.{get_or-eq_default}
use Rattle.map_model.specs.declared.lines.MapLine.{MapLine}
use Rattle.map_model.specs.Market.{IsMarket, Market}
use Rattle.map_model.specs.Allocation.{AreLines, IsOffer, amount_at, units_of}
use Rattle.map_model.proofs.MapForm.{few_places, offers-AreLines}
use Rattle.offer_pool.specs.Filed.{AreAmounts}
use Rattle.offer_pool.specs.Table.{amount_in, lines_in, place_at}
use Rattle.offer_pool.proofs.Tables.{amount_is, lines_empty, lines_form, units_fewer, units_more}

-- some units more at one place of a list, and some fewer
more_at : (xs : List ℕ) (i u h : ℕ) → i < length xs → slice_index (slice_set xs i (slice_index xs i + u)) h ≡ slice_index xs h + (if i == h then u else 0)
more_at xs i u h l = elim (cases_eq h i) [
  | inl e ↦
      let here : (if i == h then u else 0) ≡ u = rw (eq-eqb i h (sym e)) refl in
      omega (arith, get_or-set_at xs i h (slice_index xs i + u) 0 e l, ap (slice_index xs) e, here)
  | inr ne ↦
      let here : (if i == h then u else 0) ≡ 0 = rw (ne_eqb i h (λ e. ne (sym e))) refl in
      omega (arith, get_or-set_other xs i h (slice_index xs i + u) 0 ne, here)
]

fewer_at : (xs : List ℕ) (i u h : ℕ) → i < length xs → u ≤ slice_index xs i → slice_index (slice_set xs i (slice_index xs i - u)) h + (if i == h then u else 0) ≡ slice_index xs h
fewer_at xs i u h l enough = elim (cases_eq h i) [
  | inl e ↦
      let here : (if i == h then u else 0) ≡ u = rw (eq-eqb i h (sym e)) refl in
      omega (arith, get_or-set_at xs i h (slice_index xs i - u) 0 e l, ap (slice_index xs) e, here)
  | inr ne ↦
      let here : (if i == h then u else 0) ≡ 0 = rw (ne_eqb i h (λ e. ne (sym e))) refl in
      omega (arith, get_or-set_other xs i h (slice_index xs i - u) 0 ne, here)
]

-- some units from one place of a list to another
pub carried : (xs : List ℕ) (i j u : ℕ) → i < length xs → j < length xs → u ≤ slice_index xs i → (new : List ℕ) × (length new ≡ length xs) × ((h : ℕ) → slice_index new h + (if i == h then u else 0) ≡ slice_index xs h + (if j == h then u else 0))
carried xs i j u li lj enough =
    let fewer : List ℕ = slice_set xs i (slice_index xs i - u) in
    let same : length fewer ≡ length xs = length-set xs i (slice_index xs i - u) in
    (slice_set fewer j (slice_index fewer j + u), length-set fewer j (slice_index fewer j + u) ∙ same, λ h. omega (arith, more_at fewer j u h (omega (arith, same)), fewer_at xs i u h li enough))

-- the amounts of lines as a table
table_of : ℕ → List MapLine → List ℕ
table_of size [] = replicate size 0
table_of size (l ∷ ls) = slice_set (table_of size ls) (place_at l.group.0 l.place) (amount_in (table_of size ls) l.group.0 l.place + l.amount)

table_length : (size : ℕ) (lines : List MapLine) → length (table_of size lines) ≡ size
unfolding table_of
table_length size [] = length-replicate size 0
table_length size (l ∷ ls) = length-set (table_of size ls) (place_at l.group.0 l.place) (amount_in (table_of size ls) l.group.0 l.place + l.amount) ∙ table_length size ls

-- the place of an offer is one of the table
place_there : (m : Market) → IsMarket m → (g k : ℕ) → IsOffer m g k → place_at g k < length m.groups * 16
place_there m market g k o = omega (arith, few_places m market g k o, o.group)

table_units : (m : Market) → IsMarket m → (test : ℕ → ℕ → Bool) (lines : List MapLine) → All (λ l. IsOffer m l.group.0 l.place) lines → units_of test (lines_in (table_of (length m.groups * 16) lines)) ≡ units_of test lines
unfolding table_of
table_units m market test [] each = ap (units_of test) (lines_empty (length m.groups * 16))
table_units m market test (l ∷ ls) each =
    let o : IsOffer m l.group.0 l.place = All-head (λ (x : MapLine). IsOffer m x.group.0 x.place) l ls each in
    omega (
      arith,
      sum_by-cons (λ (x : MapLine). if test x.group.0 x.place then x.amount else 0) l ls,
      units_more (table_of (length m.groups * 16) ls) l.group.0 l.place l.amount (few_places m market l.group.0 l.place o) (omega (arith, table_length (length m.groups * 16) ls, place_there m market l.group.0 l.place o)) test,
      table_units m market test ls (All-tail (λ (x : MapLine). IsOffer m x.group.0 x.place) l ls each),
    )

-- another amount at an offer leaves a table one of amounts
set_amounts : (m : Market) → IsMarket m → (amounts : List ℕ) (g k v : ℕ) → IsOffer m g k → AreAmounts m amounts → AreAmounts m (slice_set amounts (place_at g k) v)
set_amounts m market amounts g k v o table = record {
  size = length-set amounts (place_at g k) v ∙ table.size;
  offers = λ i some. elim (cases_eq i (place_at g k)) [
    | inl e ↦
        let small = few_places m market g k o in
        let q : i / 16 ≡ g = omega arith in
        let r : i % 16 ≡ k = omega arith in
        subst (λ h. IsOffer m h (i % 16)) (sym q) (subst (λ j. IsOffer m g j) (sym r) o)
    | inr ne ↦ table.offers i (subst (λ n. 0 < n) (get_or-set_other amounts (place_at g k) i v 0 ne) some)
  ];
}

-- an empty table has nothing anywhere
zero_at : (n i : ℕ) → slice_index (replicate n 0) i ≡ 0
zero_at n i = elim (cases_lt i n) [
  | inl l ↦ get_or-replicate n i 0 0 l
  | inr past ↦
      let zeros : List ℕ = replicate n 0 in
      let size : length zeros ≡ n = length-replicate n 0 in
      get_or-eq_default zeros 0 (omega arith)
]

table_amounts : (m : Market) → IsMarket m → (lines : List MapLine) → All (λ l. IsOffer m l.group.0 l.place) lines → AreAmounts m (table_of (length m.groups * 16) lines)
unfolding table_of
table_amounts m market [] each = record {
  size = length-replicate (length m.groups * 16) 0;
  offers = λ i some. absurd (omega (arith, some, zero_at (length m.groups * 16) i));
}
table_amounts m market (l ∷ ls) each =
    set_amounts m market (table_of (length m.groups * 16) ls) l.group.0 l.place (amount_in (table_of (length m.groups * 16) ls) l.group.0 l.place + l.amount) (All-head (λ (x : MapLine). IsOffer m x.group.0 x.place) l ls each)
    (table_amounts m market ls (All-tail (λ (x : MapLine). IsOffer m x.group.0 x.place) l ls each))

-- Some units of an offer may stand at another one, in lines in the form of a map.
pub moved : (m : Market) → IsMarket m → (lines : List MapLine) → AreLines m lines → (g k h j u : ℕ) → IsOffer m g k → IsOffer m h j → u ≤ amount_at lines h j
    → (new : List MapLine) × AreLines m new × ((test : ℕ → ℕ → Bool) → units_of test new + (if test h j then u else 0) ≡ units_of test lines + (if test g k then u else 0))
moved m market lines form g k h j u o p enough = (
  lines_in more,
  lines_form m more market (set_amounts m market fewer g k (amount_in fewer g k + u) o (set_amounts m market all h j (amount_in all h j - u) p table)),
  λ test. omega (
    arith,
    units_more fewer g k u (few_places m market g k o) (omega (arith, length-set all (place_at h j) (amount_in all h j - u), table.size, place_there m market g k o)) test,
    units_fewer all h j u (few_places m market h j p) there held test,
    table_units m market test lines offers,
  ),
)
  where
    offers : All (λ l. IsOffer m l.group.0 l.place) lines
    offers = offers-AreLines m lines form

    all : List ℕ
    all = table_of (length m.groups * 16) lines

    table : AreAmounts m all
    table = table_amounts m market lines offers

    there : place_at h j < length all
    there = omega (arith, table.size, place_there m market h j p)

    held : u ≤ amount_in all h j
    held = omega (arith, amount_is all h j (few_places m market h j p) there, table_units m market (λ x y. (x == h) && (y == j)) lines offers)

    fewer : List ℕ
    fewer = slice_set all (place_at h j) (amount_in all h j - u)

    more : List ℕ
    more = slice_set fewer (place_at g k) (amount_in fewer g k + u)
