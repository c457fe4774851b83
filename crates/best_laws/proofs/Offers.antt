-- Offers with equal keys are one, and where units are held is an offer.
use Rattle.std.proofs.Common.{◌≡◌, ℕ, ◌<◌, ◌==◌, ◌&&◌, true, if◌then◌else◌, List, [], ◌∷◌, length, All, slice_index_or, refl, sym, ap, ◌∙◌, subst, inl, inr, arith}
use Rattle.std.specs.declared.cmp.Ordering.{Ordering}
use Rattle.std.specs.declared.cmp.Ordering.TheVariants.{Less, Equal, Greater}
use Rattle.std.specs.Ordering.{is_le, nat_cmp, ordering_reverse, ordering_then}
use Rattle.std.proofs.lemmas.Bool.{and_parts, cases_Bool, cases_lt, cases_order, eqb-true, false≢true}
use Rattle.std.proofs.lemmas.List.{get_or_past}
use Rattle.std.proofs.lemmas.List.Sums.{sum_by-cons}
use Rattle.std.proofs.lemmas.List.Elements.{All-head, All-tail}
use Rattle.std.proofs.lemmas.Map.Lookups.{exact_unsigned}
use Rattle.map_model.specs.declared.instance.Choice.{Choice}
use Rattle.map_model.specs.declared.lines.MapLine.{MapLine}
use Rattle.map_model.specs.Market.{Group, Market, IsMarket, choices_of, key_of, pool_of}
use Rattle.map_model.specs.Allocation.{IsOffer, amount_at, key_cmp, key_le}
use Rattle.map_model.proofs.Keys.{keys_total, then_tie}
use Rattle.map_model.proofs.Paths.{pool_there}

-- two keys that are each at most the other are a tie
both_ways : (o p : Ordering) → o ≡ ordering_reverse p → is_le o ≡ true → is_le p ≡ true → o ≡ Equal
both_ways o Less e h i = absurd (false≢true (sym (ap is_le e) ∙ h))
both_ways o Equal e h i = e
both_ways o Greater e h i = absurd (false≢true i)

-- each group has a pool at one place alone
place_one : (m : Market) → IsMarket m → (g k j : ℕ) → IsOffer m g k → IsOffer m g j → pool_of m g k ≡ pool_of m g j → k ≡ j
place_one m market g k j o p same = elim (cases_order k j) [
  | inl e ↦ e
  | inr (inl l) ↦ absurd ((market.groups g _ o.group).distinct k j _ l p.place same)
  | inr (inr l) ↦ absurd ((market.groups g _ o.group).distinct j k _ l o.place (sym same))
]

-- offers with keys that are each at most the other are one
pub offer_one : (m : Market) → IsMarket m → (g k h j : ℕ) → IsOffer m g k → IsOffer m h j → key_le (key_of m g k) (key_of m h j) ≡ true → key_le (key_of m h j) (key_of m g k) ≡ true → (g ≡ h) × (k ≡ j)
offer_one m market g k h j o p le ge =
    let tie : key_cmp (key_of m g k) (key_of m h j) ≡ Equal = both_ways _ _ (keys_total.antisymm (key_of m g k) (key_of m h j)) le ge in
    let by_group = then_tie (nat_cmp (key_of m g k).score (key_of m h j).score) (ordering_then (nat_cmp g h) (nat_cmp (pool_of m g k) (pool_of m h j))) tie in
    let by_pool = then_tie (nat_cmp g h) (nat_cmp (pool_of m g k) (pool_of m h j)) by_group.1 in
    let same : g ≡ h = exact_unsigned g h by_pool.0 in
    let pools : pool_of m g k ≡ pool_of m h j = exact_unsigned (pool_of m g k) (pool_of m h j) by_pool.1 in
    (same, place_one m market h k j (subst (λ x. IsOffer m x k) same o) p (subst (λ x. pool_of m x k ≡ pool_of m h j) same pools))

-- where there are nodes, the pool at each number is one of them
pub pool_in : (m : Market) → IsMarket m → (f g k : ℕ) → f < length m.nodes → pool_of m g k < length m.nodes
pool_in m market f g k there = elim (cases_lt g (length m.groups)) [
  | inr past ↦
      let none : pool_of m g k ≡ 0 = ap (λ (x : Group). (slice_index_or x.choices k (record { pool = record { 0 = 0 }; score = 0; limit = 0 })).pool.0) (get_or_past m.groups g (record { demand = 0; choices = [] }) past) in
      omega arith
  | inl l ↦ elim (cases_lt k (length (choices_of m g))) [
    | inr past ↦
        let none : pool_of m g k ≡ 0 = ap (λ (c : Choice). c.pool.0) (get_or_past (choices_of m g) k (record { pool = record { 0 = 0 }; score = 0; limit = 0 }) past) in
        omega arith
    | inl l' ↦ pool_there m market g k (record { group = l; place = l' })
  ]
]

-- where each line stands at an offer, units are held at offers alone
pub held_offer : (m : Market) (lines : List MapLine) (g k : ℕ) → All (λ l. IsOffer m l.group.0 l.place) lines → 0 < amount_at lines g k → IsOffer m g k
held_offer m [] g k offers some = absurd (omega arith)
held_offer m (l ∷ ls) g k offers some = elim (cases_Bool ((l.group.0 == g) && (l.place == k))) [
  | inl e ↦
      let p = and_parts (l.group.0 == g) (l.place == k) e in
      subst (λ x. IsOffer m g x) (eqb-true l.place k p.1) (subst (λ x. IsOffer m x l.place) (eqb-true l.group.0 g p.0) (All-head (λ (x : MapLine). IsOffer m x.group.0 x.place) l ls offers))
  | inr e ↦
      let none : (if (l.group.0 == g) && (l.place == k) then l.amount else 0) ≡ 0 = rw e refl in
      held_offer m ls g k (All-tail (λ (x : MapLine). IsOffer m x.group.0 x.place) l ls offers) (omega (arith, some, none, sum_by-cons (λ (x : MapLine). if (x.group.0 == g) && (x.place == k) then x.amount else 0) l ls))
]
