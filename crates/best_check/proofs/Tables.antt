-- Tables of the best offer that waits at each node, as one offer more is looked at.
use Rattle.std.proofs.Common.{◌≡◌, ◌⊎◌, ℕ, ◌+◌, ◌<◌, ◌≤◌, true, List, length, Option, None, Some, IfSome, replicate, slice_index, slice_index_or, slice_set, get_or-set_same, sym, ap, ◌∙◌, subst, inl, inr, refl, rules, arith}
use Rattle.std.proofs.lemmas.Bool.{cases_eq, lt-ltb, ltb-true}
use Rattle.std.proofs.lemmas.List.{get_or-replicate, get_or-set_other, length-replicate}
use Rattle.map_model.specs.declared.instance.Key.{Key}
use Rattle.map_model.specs.declared.instance.NodeId.{NodeId}
use Rattle.map_model.specs.declared.lines.MapLine.{MapLine}
use Rattle.map_model.specs.Market.{Market, IsMarket, demand_of, key_of, limit_of, pool_of}
use Rattle.map_model.specs.Allocation.{IsOffer, amount_at, key_le, placed_through}
use Rattle.map_model.proofs.Keys.{key_le_itself, key_le_trans}
use Rattle.map_model.proofs.Paths.{pool_there}
use Rattle.map_model.proofs.Trees.{above_le, under_there}
use Rattle.evict.specs.Standing.{IsPastWanted, IsReady, Standing}
use Rattle.best_laws.specs.Ahead.{IsRightMap}
use Rattle.map_laws.specs.Nearest.{IsFirstFull}
use Rattle.best_check.specs.declared.ranked.Ranked.{Ranked}
use Rattle.best_check.specs.Fullness.{FirstFull, IsFullTable}
use Rattle.best_check.specs.Tables.{AreRanked, ArePastWanted, IsBefore, IsBestBefore, IsEntry, IsRanked, IsTable, IsWaitingAt}

-- what a state holds is a right map, if its pointers are the numbers of wanted places
pub right_of_state : (m : Market) (state : Standing) → IsReady m state → ArePastWanted m state → IsRightMap m state.lines
right_of_state m state ready past =
    let r = ready.resumable in
    record {
      form = r.form;
      feasible = record { demands = λ g l. omega (arith, r.totals g l); capacities = r.capacities; limits = r.limits };
      stable = λ g k o wanted. r.refused g k o (ltb-true k (slice_index state.pointers g) (sym ((past g o.group).wanted k o) ∙ wanted));
    }

some_ranked : (x y : Ranked) → Some x ≡ Some y → x ≡ y
some_ranked x y e = cc

none_ranked : (y : Ranked) → None ≡ Some y → ⊥
none_ranked y e = cc

-- an entry stands for more, where no more offers wait at the node
entry_on : (m : Market) (lines : List MapLine) (g k g' k' n : ℕ) (entry : Option Ranked) → IsEntry m lines g k n entry → ((h j : ℕ) → IsBefore g' k' h j → IsWaitingAt m lines n h j → IsBefore g k h j) → IsEntry m lines g' k' n entry
entry_on m lines g k g' k' n None none less = λ h j before waiting. none h j (less h j before waiting) waiting
entry_on m lines g k g' k' n (Some o) some less = record { waiting = some.waiting; key = some.key; least = λ h j before waiting. some.least h j (less h j before waiting) waiting }

table_on : (m : Market) (lines : List MapLine) (g k g' k' : ℕ) (table : List (Option Ranked)) → IsTable m lines g k table → ((n h j : ℕ) → IsBefore g' k' h j → IsWaitingAt m lines n h j → IsBefore g k h j) → IsTable m lines g' k' table
table_on m lines g k g' k' table t less = record { size = t.size; entries = λ n l. entry_on m lines g k g' k' n (slice_index_or table n None) (t.entries n l) (less n) }

before_next : (g k h j : ℕ) → IsBefore g (k + 1) h j → IsBefore g k h j ⊎ ((h ≡ g) × (j ≡ k))
before_next g k h j (inl l) = inl (inl l)
before_next g k h j (inr x) = elim (cases_eq j k) [ inl e ↦ inr (x.0, e) | inr apart ↦ inl (inr (x.0, omega (arith, x.1, apart))) ]

waiting_is : (m : Market) (lines : List MapLine) (n g k h j : ℕ) → h ≡ g → j ≡ k → IsWaitingAt m lines n h j → IsWaitingAt m lines n g k
waiting_is m lines n g k h j e f w = subst (λ x. IsWaitingAt m lines n g x) f (subst (λ x. IsWaitingAt m lines n x j) e w)

key_is : (m : Market) (key : Key) (g k h j : ℕ) → h ≡ g → j ≡ k → key_le key (key_of m g k) ≡ true → key_le key (key_of m h j) ≡ true
key_is m key g k h j e f le = subst (λ x. key_le key (key_of m x j) ≡ true) (sym e) (subst (λ x. key_le key (key_of m g x) ≡ true) (sym f) le)

-- an entry that is ranked at least as high as the next offer, if that waits at the node
abbrev pub IsAtLeast : Market → List MapLine → ℕ → ℕ → ℕ → Option Ranked → Type 0
IsAtLeast m lines g k n entry = IsWaitingAt m lines n g k → (o : Ranked) × (entry ≡ Some o) × (key_le o.key (key_of m g k) ≡ true)

entry_passed : (m : Market) (lines : List MapLine) (g k n : ℕ) (entry : Option Ranked) → IsEntry m lines g k n entry → IsAtLeast m lines g k n entry → IsEntry m lines g (k + 1) n entry
entry_passed m lines g k n None none over = λ h j before w. elim (before_next g k h j before) [
  | inl b ↦ none h j b w
  | inr e ↦ let x = over (waiting_is m lines n g k h j e.0 e.1 w) in none_ranked x.0 x.1
]
entry_passed m lines g k n (Some o) some over = record {
  waiting = some.waiting;
  key = some.key;
  least = λ h j before w. elim (before_next g k h j before) [
    | inl b ↦ some.least h j b w
    | inr e ↦
        let x = over (waiting_is m lines n g k h j e.0 e.1 w) in
        key_is m o.key g k h j e.0 e.1 (subst (λ (y : Ranked). key_le y.key (key_of m g k) ≡ true) (sym (some_ranked o x.0 x.1)) x.2)
  ];
}

-- such an offer changes nothing
passed : (m : Market) (lines : List MapLine) (g k : ℕ) (table : List (Option Ranked)) → IsTable m lines g k table → ((n : ℕ) → IsAtLeast m lines g k n (slice_index_or table n None)) → IsTable m lines g (k + 1) table
passed m lines g k table t over = record { size = t.size; entries = λ n l. entry_passed m lines g k n (slice_index_or table n None) (t.entries n l) (over n) }

-- the full node nearest to an offer's pool is a node of the instance
pub first_there : (m : Market) → IsMarket m → (lines : List MapLine) (g k f : ℕ) → IsFirstFull m lines (pool_of m g k) f → IsOffer m g k → f < length m.nodes
first_there m market lines g k f first o = under_there m market f (pool_of m g k) (pool_there m market g k o) first.on

-- an offer waits at the nearest full node alone
waits_alone : (m : Market) → IsMarket m → (lines : List MapLine) (g k f n : ℕ) → IsFirstFull m lines (pool_of m g k) f → IsWaitingAt m lines n g k → n ≡ f
waits_alone m market lines g k f n first w = above_le m market f n (first_there m market lines g k f first w.in_line.offer) (w.near.nearest f first.on first.full) (first.nearest n w.near.on w.near.full)

-- an offer at its limit, or one that is no better than what is noted at its node, changes nothing
pub passed_other : (m : Market) → IsMarket m → (lines : List MapLine) (g k f : ℕ) (table : List (Option Ranked)) (key : Key) → IsTable m lines g k table → IsFirstFull m lines (pool_of m g k) f → key ≡ key_of m g k → (limit_of m g k ≤ amount_at lines g k) ⊎ ((o : Ranked) × (slice_index_or table f None ≡ Some o) × (key_le o.key key ≡ true)) → IsTable m lines g (k + 1) table
passed_other m market lines g k f table key t first is (inl full) = passed m lines g k table t (λ n w. absurd (omega (arith, w.in_line.room, full)))
passed_other m market lines g k f table key t first is (inr x) =
    passed m lines g k table t (λ n w. (x.0, ap (λ c. slice_index_or table c None) (waits_alone m market lines g k f n first w) ∙ x.1, subst (λ y. key_le x.0.key y ≡ true) is x.2))

-- the full node nearest to an offer's pool, as a table says it
pub first_at : (m : Market) → IsMarket m → (lines : List MapLine) (g k : ℕ) → IsOffer m g k → (nearest : List (Option NodeId)) → IsFullTable m lines nearest → (key : Key) → key ≡ key_of m g k → FirstFull m lines (pool_of m g k) (slice_index_or nearest key.pool.0 None)
first_at m market lines g k o nearest table key is =
    let at : key.pool.0 ≡ pool_of m g k = ap (λ (x : Key). x.pool.0) is in
    subst (λ p. FirstFull m lines p (slice_index_or nearest key.pool.0 None)) at (table.first key.pool.0 (omega (arith, at, pool_there m market g k o, table.size)))

-- where its group's wanted places are done, the group is
pub group_done : (m : Market) (lines : List MapLine) (g p at : ℕ) (table : List (Option Ranked)) → IsPastWanted m lines g p → p ≤ at → IsTable m lines g at table → IsTable m lines (g + 1) 0 table
group_done m lines g p at table past done t = table_on m lines g at (g + 1) 0 table t less
  where
    less : (n h j : ℕ) → IsBefore (g + 1) 0 h j → IsWaitingAt m lines n h j → IsBefore g at h j
    less n h j (inr x) waiting = absurd (omega (arith, x.1))
    less n h j (inl l) waiting = elim (cases_eq h g) [
      | inr apart ↦ inl (omega (arith, l, apart))
      | inl e ↦
          let w = waiting_is m lines n g j h j e refl waiting in
          inr (e, omega (arith, done, ltb-true j p (sym (past.wanted j w.in_line.offer) ∙ lt-ltb (placed_through lines g j) (demand_of m g) w.in_line.wanted)))
    ]

-- where all groups are done, all offers are
pub groups_done : (m : Market) (lines : List MapLine) (g : ℕ) (table : List (Option Ranked)) → length m.groups ≤ g → IsTable m lines g 0 table → IsTable m lines (length m.groups) 0 table
groups_done m lines g table done t = table_on m lines g 0 (length m.groups) 0 table t (λ n h j before w. inl (omega (arith, done, w.in_line.offer.group)))

-- the entries are offers with their keys
pub ranked_of_table : (m : Market) (lines : List MapLine) (g k : ℕ) (table : List (Option Ranked)) → IsTable m lines g k table → AreRanked m table
ranked_of_table m lines g k table t = λ n l. of_entry n (slice_index_or table n None) (t.entries n (omega (arith, l, t.size)))
  where
    of_entry : (n : ℕ) (entry : Option Ranked) → IsEntry m lines g k n entry → IfSome entry (λ o. IsRanked m o)
    of_entry n None none = tt
    of_entry n (Some o) best = record { offer = best.waiting.in_line.offer; key = best.key }

-- a table of nothing
pub table_of_none : (m : Market) (lines : List MapLine) → IsTable m lines 0 0 (replicate (length m.nodes) None)
table_of_none m lines = record { size = length-replicate (length m.nodes) None; entries = λ n l. subst (λ e. IsEntry m lines 0 0 n e) (sym (none n l)) (λ h j before waiting. nobody h j before) }
  where
    empty : Option Ranked
    empty = None

    none : (n : ℕ) → n < length m.nodes → slice_index_or (replicate (length m.nodes) empty) n None ≡ None
    none n l = get_or-replicate (length m.nodes) n None None l

    nobody : (h j : ℕ) → IsBefore 0 0 h j → ⊥
    nobody h j (inl l) = omega (arith, l)
    nobody h j (inr x) = omega (arith, x.1)

-- an offer that waits at a node and is ranked at least as high as what is there is the best there
entry_noted : (m : Market) (lines : List MapLine) (n : ℕ) (new : Ranked) (old : Option Ranked) → IsEntry m lines new.offer.group.0 new.offer.place n old → IsWaitingAt m lines n new.offer.group.0 new.offer.place → new.key ≡ key_of m new.offer.group.0 new.offer.place → IfSome old (λ o. key_le new.key o.key ≡ true)
    → IsBestBefore m lines new.offer.group.0 (new.offer.place + 1) n new
entry_noted m lines n new old entry waiting key over = record {
  waiting = waiting;
  key = key;
  least = λ h j before w. elim (before_next new.offer.group.0 new.offer.place h j before) [
    | inl b ↦ rest old entry over h j b w
    | inr e ↦ key_is m new.key new.offer.group.0 new.offer.place h j e.0 e.1 (subst (λ x. key_le new.key x ≡ true) key (key_le_itself new.key))
  ];
}
  where
    rest : (old : Option Ranked) → IsEntry m lines new.offer.group.0 new.offer.place n old → IfSome old (λ o. key_le new.key o.key ≡ true) → (h j : ℕ) → IsBefore new.offer.group.0 new.offer.place h j → IsWaitingAt m lines n h j → key_le new.key (key_of m h j) ≡ true
    rest None none le h j before w = absurd (none h j before w)
    rest (Some o) some le h j before w = key_le_trans new.key o.key (key_of m h j) le (some.least h j before w)

-- it is noted at its node
noted_at : (m : Market) → IsMarket m → (lines : List MapLine) (f : ℕ) (table : List (Option Ranked)) (new : Ranked) → IsTable m lines new.offer.group.0 new.offer.place table → IsFirstFull m lines (pool_of m new.offer.group.0 new.offer.place) f → IsWaitingAt m lines f new.offer.group.0 new.offer.place → new.key ≡ key_of m new.offer.group.0 new.offer.place
    → IfSome (slice_index_or table f None) (λ o. key_le new.key o.key ≡ true) → IsTable m lines new.offer.group.0 (new.offer.place + 1) (slice_set table f (Some new))
noted_at m market lines f table new t first waiting key over = record {
  size = search (rules, t.size);
  entries = λ c l. elim (cases_eq c f) [
    | inl e ↦ subst (λ o. IsEntry m lines g (k + 1) c o) (sym (ap (λ x. slice_index_or (slice_set table f (Some new)) x None) e ∙ get_or-set_same table f (Some new) None (omega (arith, there, t.size))))
        (subst (λ x. IsBestBefore m lines g (k + 1) x new) (sym e) (entry_noted m lines f new (slice_index_or table f None) (t.entries f there) waiting key over))
    | inr apart ↦ subst (λ o. IsEntry m lines g (k + 1) c o) (sym (get_or-set_other table f c (Some new) None apart)) (entry_passed m lines g k c (slice_index_or table c None) (t.entries c l) (λ w. absurd (apart (waits_alone m market lines g k f c first w))))
  ];
}
  where
    g : ℕ
    g = new.offer.group.0

    k : ℕ
    k = new.offer.place

    there : f < length m.nodes
    there = first_there m market lines g k f first waiting.in_line.offer

-- an offer before its group's pointer whose limit has room waits at the nearest full node
waits_there : (m : Market) (lines : List MapLine) (g k p f : ℕ) → IsOffer m g k → IsPastWanted m lines g p → k < p → amount_at lines g k < limit_of m g k → IsFirstFull m lines (pool_of m g k) f → IsWaitingAt m lines f g k
waits_there m lines g k p f o past before room first = record {
  in_line = record { offer = o; wanted = ltb-true (placed_through lines g k) (demand_of m g) (past.wanted k o ∙ lt-ltb k p before); room = room };
  near = first;
}

-- and is noted there, if it is ranked at least as high as what is there
pub noted : (m : Market) → IsMarket m → (lines : List MapLine) (p f : ℕ) (table : List (Option Ranked)) (new : Ranked) → IsTable m lines new.offer.group.0 new.offer.place table → IsOffer m new.offer.group.0 new.offer.place → IsPastWanted m lines new.offer.group.0 p → new.offer.place < p → amount_at lines new.offer.group.0 new.offer.place < limit_of m new.offer.group.0 new.offer.place
    → IsFirstFull m lines (pool_of m new.offer.group.0 new.offer.place) f → new.key ≡ key_of m new.offer.group.0 new.offer.place → IfSome (slice_index_or table f None) (λ o. key_le new.key o.key ≡ true) → IsTable m lines new.offer.group.0 (new.offer.place + 1) (slice_set table f (Some new))
noted m market lines p f table new t o past before room first key over = noted_at m market lines f table new t first (waits_there m lines new.offer.group.0 new.offer.place p f o past before room first) key over
