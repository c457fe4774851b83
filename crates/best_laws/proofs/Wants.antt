-- What a stable map has less of than is held, it wants; so it has no more of what is refused.
use Rattle.std.proofs.Common.{◌≡◌, ℕ, zero, suc, ◌+◌, ◌*◌, ◌<◌, ◌≤◌, ◌==◌, ◌&&◌, true, false, nat_lt, if◌then◌else◌, List, length, All, IsSome, slice_index, refl, sym, ap, ◌∙◌, inl, inr, arith}
use Rattle.std.proofs.lemmas.Bool.{and_parts, cases_Bool, cases_lt, eqb-true, lt-ltb, ne_eqb}
use Rattle.std.proofs.lemmas.Bool.Decides.{nat_tests}
use Rattle.map_model.specs.declared.lines.MapLine.{MapLine}
use Rattle.map_model.specs.Market.{Market, IsMarket, capacity_of, demand_of, key_of, limit_of, pool_of}
use Rattle.map_model.specs.Allocation.{AreLines, IsOffer, amount_at, counts_at, is_wanted, key_le, load, none_worse, placed_through, refuser_of, units_of}
use Rattle.map_model.specs.Holding.{under_worse}
use Rattle.map_model.specs.Progress.{IsResumable}
use Rattle.map_model.proofs.MapForm.{few_places, offers-AreLines}
use Rattle.map_model.proofs.Paths.{pool_there}
use Rattle.map_model.proofs.Refused.{refused_either}
use Rattle.map_model.proofs.Trees.{under_there}
use Rattle.map_model.proofs.Units.{none-units, placed_below, placed_through-below, placed_through-split, through-le-placed}
use Rattle.evict.proofs.Bridge.{none_worse-units_of}
use Rattle.evict.proofs.Refusals.{refused_by, saturated_from_full, some-AreLines}
use Rattle.best_laws.specs.Ahead.{GainsFree, IsRightMap, IsWithin}
use Rattle.best_laws.specs.Tops.{is_closed}
use Rattle.best_laws.proofs.Laminar.{no_more}
use Rattle.best_laws.proofs.Offers.{held_offer, offer_one, pool_in}
use Rattle.best_laws.proofs.Refused.{is_closed-refuser}

-- no more at each place below one is no more below it
below_le : (a b : List MapLine) (g k : ℕ) → ((j : ℕ) → j < k → amount_at a g j ≤ amount_at b g j) → placed_below a g k ≤ placed_below b g k
below_le a b g zero each = omega (arith, none-units (λ h j. (h == g) && nat_lt j 0) a (λ h j. grind (arith, nat_tests)))
below_le a b g (suc k) each =
    let next : k + 1 ≡ suc k = omega arith in
    let of_a : placed_below a g (k + 1) ≡ placed_below a g (suc k) = ap (placed_below a g) next in
    let of_b : placed_below b g (k + 1) ≡ placed_below b g (suc k) = ap (placed_below b g) next in
    omega (arith, of_a, of_b, placed_through-below a g k, placed_through-below b g k, placed_through-split a g k, placed_through-split b g k, each k (omega arith), below_le a b g k (λ j l. each j (omega arith)))

-- and up to one
pub through_le : (a b : List MapLine) (g k : ℕ) → ((j : ℕ) → j ≤ k → amount_at a g j ≤ amount_at b g j) → placed_through a g k ≤ placed_through b g k
through_le a b g k each = omega (arith, placed_through-split a g k, placed_through-split b g k, each k (omega arith), below_le a b g k (λ j l. each j (omega arith)))

-- an offer of which another map has less than is held now is wanted there: at better places it has no more than was held, and what was gained was free
pub wants_less : (m : Market) (old new other : List MapLine) (pointers free : List ℕ) → IsResumable m old pointers free → GainsFree m old new pointers free → IsWithin m other old pointers → (g k : ℕ) → IsOffer m g k → amount_at other g k < amount_at new g k → is_wanted m other g k ≡ true
wants_less m old new other pointers free r gains within g k o less =
    let p : ℕ = slice_index pointers g in
    let gain = gains g k o in
    let bound : amount_at new g k ≤ amount_at old g k + slice_index free g = elim (cases_Bool (p == k)) [
      | inl e ↦ let all : (if p == k then slice_index free g else 0) ≡ slice_index free g = rw e refl in omega (arith, gain, all)
      | inr e ↦ let none : (if p == k then slice_index free g else 0) ≡ 0 = rw e refl in omega (arith, gain, none)
    ] in
    let reach : k ≤ p = elim (cases_lt p k) [
      | inr le ↦ le
      | inl past ↦
          let none : (if p == k then slice_index free g else 0) ≡ 0 = rw (ne_eqb p k (λ e. absurd (omega arith))) refl in
          absurd (omega (arith, r.none_past g k o past, gain, none, less))
    ] in
    let below = below_le other old g k (λ j l. within g j (record { group = o.group; place = omega (arith, o.place, l) }) (omega (arith, reach, l))) in
    lt-ltb (placed_through other g k) (demand_of m g) (omega (arith, placed_through-split other g k, placed_through-split old g k, below, less, bound, r.totals g o.group, through-le-placed old g k))

-- each line is one of 16 offers for each group
in_range : (m : Market) → IsMarket m → (lines : List MapLine) → AreLines m lines → All (λ l. (l.place < 16) × (l.group.0 * 16 + l.place < length m.groups * 16)) lines
in_range m market lines form i d l =
    let o = offers-AreLines m lines form i d l in
    let few = few_places m market _ _ o in
    (few, omega (arith, few, o.group))

-- If another map, which is feasible and stable, wants whatever it has less of than we, then it has no more than we of an offer that is refused to us. Where the limit refuses that, the offer has no room for more.
pub no_more_refused : (m : Market) → IsMarket m → (ours other : List MapLine) → IsRightMap m other → AreLines m ours → ((n : ℕ) → n < length m.nodes → load m ours n ≤ capacity_of m n) → ((g k : ℕ) → IsOffer m g k → amount_at ours g k ≤ limit_of m g k)
    → ((g k : ℕ) → IsOffer m g k → amount_at other g k < amount_at ours g k → is_wanted m other g k ≡ true) → (h j : ℕ) → IsOffer m h j → IsSome (refuser_of m ours h j) → amount_at other h j ≤ amount_at ours h j
no_more_refused m market ours other right form fits limits wants h j o refused = elim (refused_either m ours h j refused) [
  | inl at ↦ omega (arith, eqb-true (amount_at ours h j) (limit_of m h j) at, right.feasible.limits h j o)
  | inr node ↦ elim (cases_lt (amount_at ours h j) (amount_at other h j)) [
    | inr le ↦ le
    | inl more ↦
        let by = refused_by m ours h j node in
        let pool = pool_there m market h j o in
        let c_there = under_there m market by.0 (pool_of m h j) pool by.1 in
        no_more m market ours other by.0 h j (length m.groups * 16) (λ g k. pool_in m market (pool_of m h j) g k pool) fits (right.feasible.capacities by.0 c_there)
        (saturated_from_full m ours by.0 (key_of m h j) form by.2) by.1 (few_places m market h j o) (omega (arith, few_places m market h j o, o.group))
        (in_range m market ours form) (in_range m market other right.form) (λ g k t less. blocked by.0 by.1 more g k t less)
  ]
]
  where
    blocked : (c : ℕ) → counts_at m c h j ≡ true → amount_at ours h j < amount_at other h j → (g k : ℕ) → (counts_at m c g k && key_le (key_of m g k) (key_of m h j)) ≡ true → amount_at other g k < amount_at ours g k → (n : ℕ) × (is_closed m other c (key_of m h j) n ≡ true) × (counts_at m n g k ≡ true)
    blocked c on more g k t less =
        let q = and_parts (counts_at m c g k) (key_le (key_of m g k) (key_of m h j)) t in
        let og = held_offer m ours g k (offers-AreLines m ours form) (omega (arith, less)) in
        elim (refused_either m other g k (right.stable g k og (wants g k og less))) [
          | inl at ↦ absurd (omega (arith, less, limits g k og, eqb-true (amount_at other g k) (limit_of m g k) at))
          | inr node ↦
              let r = refused_by m other g k node in
              let p = and_parts (load m other r.0 == capacity_of m r.0) (none_worse m other r.0 (key_of m g k)) r.2 in
              let none : units_of (under_worse m r.0 (key_of m g k)) other ≡ 0 = eqb-true _ _ (sym (none_worse-units_of m r.0 (key_of m g k) other (some-AreLines m other right.form)) ∙ p.1) in
              let strict : key_le (key_of m h j) (key_of m g k) ≡ false = elim (cases_Bool (key_le (key_of m h j) (key_of m g k))) [
                | inr e ↦ e
                | inl e ↦
                    let one = offer_one m market g k h j og o q.1 e in
                    let theirs : amount_at other g k ≡ amount_at other h j = ap (λ x. amount_at other x k) one.0 ∙ ap (amount_at other h) one.1 in
                    let held : amount_at ours g k ≡ amount_at ours h j = ap (λ x. amount_at ours x k) one.0 ∙ ap (amount_at ours h) one.1 in
                    absurd (omega (arith, less, more, theirs, held))
              ] in (
                r.0,
                is_closed-refuser m market other c g k h j r.0 (pool_there m market g k og) (pool_there m market h j o) r.1 (eqb-true _ _ p.0) none q.0 on (omega (arith, more)) strict,
                r.1,
              )
        ]
