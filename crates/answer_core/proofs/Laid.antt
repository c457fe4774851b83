-- A group's amounts, laid end to end.
use Rattle.std.proofs.Common.{◌≡◌, ℕ, ◌+◌, ◌-◌, ◌<◌, ◌≤◌, Bool, true, false, List, length, get_or, take, refl, sym, ap, subst, ◌∙◌, arith, inl, inr}
use Rattle.std.specs.Prelude.{map, sum, find, Option, None, Some, IfSome, IsNone, IsSome}
use Rattle.std.specs.List.{range_with_len, slice_get}
use Rattle.std.proofs.lemmas.Bool.{and_from, and_right, le-leb, lt-ltb, le-ltb, cases_lt}
use Rattle.std.proofs.lemmas.List.{take-take}
use Rattle.std.proofs.lemmas.List.Folds.{find_at}
use Rattle.std.proofs.lemmas.List.FromFn.{take-map-range_with_len, length-map-range_with_len, get_or-range_with_len, length-range_with_len}
use Rattle.std.proofs.lemmas.List.Sums.{sum_by-take-le, position_or_len_is}
use Rattle.std.proofs.lemmas.Option.{slice_get-get_or, slice_get_past}
use Rattle.map_model.specs.declared.lines.MapLine.{MapLine}
use Rattle.map_model.specs.Market.{choices_of}
use Rattle.map_model.specs.Allocation.{amount_at, placed_through, placed}
use Rattle.map_model.proofs.Units.{placed_below, placed_through-below, placed_through-split}
use Rattle.published_map.proofs.Totals.{added}
use Rattle.published_map.specs.Version.{Version, amounts_of}
use Rattle.answer_core.specs.Pick.{IsPicked, falls_on, pick_of, slot_of}

-- where a place's interval begins, and where it ends
pub begins : (lines : List MapLine) (g n k : ℕ) → k < n → sum (take k (map (amount_at lines g) (range_with_len 0 n))) ≡ placed_through lines g k - amount_at lines g k
begins lines g n k lt =
    let some : sum (take k (map (amount_at lines g) (range_with_len 0 n))) ≡ placed_below lines g k = ap sum (take-map-range_with_len (amount_at lines g) 0 n k (omega arith)) ∙ added lines g k in
    omega (arith, some, placed_through-split lines g k)

pub ends : (lines : List MapLine) (g n k : ℕ) → k < n → sum (take (k + 1) (map (amount_at lines g) (range_with_len 0 n))) ≡ placed_through lines g k
ends lines g n k lt = ap sum (take-map-range_with_len (amount_at lines g) 0 n (k + 1) (omega arith)) ∙ added lines g (k + 1) ∙ sym (placed_through-below lines g k)

-- the first of the numbers below n that passes is found
found_first : (test : ℕ → Bool) (n k : ℕ) → k < n → ((j : ℕ) → j < k → test j ≡ false) → test k ≡ true → find test (range_with_len 0 n) ≡ Some k
found_first test n k lt before here =
    let numbers : List ℕ = range_with_len 0 n in
    let size : length numbers ≡ n = length-range_with_len 0 n in
    let at : (j : ℕ) → j < n → get_or numbers j 0 ≡ j = λ j l. omega (arith, get_or-range_with_len 0 n j 0 l) in
    let place = position_or_len_is test numbers k 0 (omega arith) (λ j l. subst (λ (m : ℕ). test m ≡ false) (sym (at j (omega arith))) (before j l)) (λ l. subst (λ (m : ℕ). test m ≡ true) (sym (at k lt)) here) in
    find_at test numbers ∙ ap (slice_get numbers) place ∙ slice_get-get_or numbers k 0 (omega arith) ∙ ap (λ (m : ℕ). Some m) (at k lt)

-- none is where none passes
found_none : (test : ℕ → Bool) (n : ℕ) → ((j : ℕ) → j < n → test j ≡ false) → find test (range_with_len 0 n) ≡ None
found_none test n each =
    let numbers : List ℕ = range_with_len 0 n in
    let size : length numbers ≡ n = length-range_with_len 0 n in
    let place = position_or_len_is test numbers n 0 (omega arith) (λ j l. subst (λ (m : ℕ). test m ≡ false) (sym (omega (arith, get_or-range_with_len 0 n j 0 l))) (each j l)) (λ l. absurd (omega arith)) in
    find_at test numbers ∙ ap (slice_get numbers) place ∙ slice_get_past numbers n (omega arith)

-- the sum of fewer amounts is not above that of more
sum_upto : (amounts : List ℕ) (i k : ℕ) → i ≤ k → sum (take i amounts) ≤ sum (take k amounts)
sum_upto amounts i k le = subst (λ (l : List ℕ). sum l ≤ sum (take k amounts)) (take-take i k amounts le) (sum_by-take-le (λ x. x) (take k amounts) i)

-- the place whose interval holds the slot is the one that is picked
is_picked : (v : Version) (g draw k slot : ℕ) (amounts : List ℕ) → g < length v.market.groups → amounts ≡ amounts_of v g → slot ≡ slot_of draw (placed v.lines g)
    → k < length amounts → sum (take k amounts) ≤ slot → slot < sum (take (k + 1) amounts) → IsPicked v g draw k
is_picked v g draw k slot amounts there items is lt from to =
    let n = length (choices_of v.market g) in
    let size : length amounts ≡ n = ap length items ∙ length-map-range_with_len (amount_at v.lines g) 0 n in
    let start : sum (take k amounts) ≡ placed_through v.lines g k - amount_at v.lines g k = ap (λ (l : List ℕ). sum (take k l)) items ∙ begins v.lines g n k (omega arith) in
    let end : sum (take (k + 1) amounts) ≡ placed_through v.lines g k = ap (λ (l : List ℕ). sum (take (k + 1) l)) items ∙ ends v.lines g n k (omega arith) in
    record { offer = record { group = there; place = omega arith }; from = omega arith; to = omega arith }

pub picked : (v : Version) (g draw slot : ℕ) (amounts : List ℕ) (found : Option ℕ) → g < length v.market.groups → amounts ≡ amounts_of v g → slot ≡ slot_of draw (placed v.lines g)
    → IfSome found (λ k. k < length amounts) → IfSome found (λ k. sum (take k amounts) ≤ slot) → IfSome found (λ k. slot < sum (take (k + 1) amounts)) → IfSome found (IsPicked v g draw)
picked v g draw slot amounts None there items is lt from to = tt
picked v g draw slot amounts (Some k) there items is lt from to = is_picked v g draw k slot amounts there items is lt from to

-- a slot that is not before the first amounts falls on none of their places
past : (v : Version) (g slot i j : ℕ) → j < i → i ≤ length (choices_of v.market g) → sum (take i (amounts_of v g)) ≤ slot → falls_on v g slot j ≡ false
past v g slot i j lt within le =
    let end : sum (take (j + 1) (amounts_of v g)) ≡ placed_through v.lines g j = ends v.lines g (length (choices_of v.market g)) j (omega arith) in
    let upto : sum (take (j + 1) (amounts_of v g)) ≤ sum (take i (amounts_of v g)) = sum_upto (amounts_of v g) (j + 1) i (omega arith) in
    and_right _ _ (le-ltb slot (placed_through v.lines g j) (omega arith))

-- that place, or none where the slot is behind all amounts, is the pick
pub pick_is : (v : Version) (g draw slot : ℕ) (amounts : List ℕ) (found : Option ℕ) → g < length v.market.groups → amounts ≡ amounts_of v g → slot ≡ slot_of draw (placed v.lines g)
    → (slot < sum amounts → IsSome found) → IfSome found (λ k. k < length amounts) → IfSome found (λ k. sum (take k amounts) ≤ slot) → IfSome found (λ k. slot < sum (take (k + 1) amounts)) → found ≡ pick_of v g draw
unfolding pick_of
pick_is v g draw slot amounts None there items is some lt from to =
    let n = length (choices_of v.market g) in
    let size : length (amounts_of v g) ≡ n = length-map-range_with_len (amount_at v.lines g) 0 n in
    let behind : sum amounts ≤ slot = elim (cases_lt slot (sum amounts)) [ inl l ↦ let none : false ≡ true = some l in absurd cc | inr ge ↦ ge ] in
    let all : sum (take n (amounts_of v g)) ≤ slot_of draw (placed v.lines g) = omega (arith, sum_by-take-le (λ x. x) (amounts_of v g) n, ap sum items) in
    sym (found_none (falls_on v g (slot_of draw (placed v.lines g))) n (λ j l. past v g (slot_of draw (placed v.lines g)) n j l (omega arith) all))
pick_is v g draw slot amounts (Some k) there items is some lt from to =
    let n = length (choices_of v.market g) in
    let size : length amounts ≡ n = ap length items ∙ length-map-range_with_len (amount_at v.lines g) 0 n in
    let p = is_picked v g draw k slot amounts there items is lt from to in
    let start : sum (take k (amounts_of v g)) ≤ slot_of draw (placed v.lines g) = omega (arith, ap (λ (l : List ℕ). sum (take k l)) items) in
    sym (found_first (falls_on v g (slot_of draw (placed v.lines g))) n k (omega arith) (λ j l. past v g (slot_of draw (placed v.lines g)) k j l (omega arith) start) (and_from _ _ (le-leb _ _ p.from) (lt-ltb _ _ p.to)))

-- none is found exactly where there are no units
pub nothing_found : (amounts : List ℕ) (slot units : ℕ) (found : Option ℕ) → units ≡ sum amounts → (0 < units → slot < units) → (slot < sum amounts → IsSome found) → IfSome found (λ k. slot < sum (take (k + 1) amounts))
    → (IsNone found → units ≡ 0) × (units ≡ 0 → IsNone found)
nothing_found amounts slot units None is within some to = (λ _. elim (cases_lt 0 units) [ inl l ↦ let none : false ≡ true = some (omega (arith, within l)) in absurd cc | inr ge ↦ omega (arith, ge) ], λ _. refl)
nothing_found amounts slot units (Some k) is within some to = (λ none. absurd cc, λ e. absurd (omega (arith, sum_by-take-le (λ x. x) amounts (k + 1))))
