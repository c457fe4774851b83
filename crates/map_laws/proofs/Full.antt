-- Maps as sums over offers, what a refusal says, and covers by full nodes.
use Rattle.std.proofs.Common.{◌≡◌, ℕ, ◌*◌, ◌<◌, ◌≤◌, ◌==◌, Bool, true, not, ◌&&◌, nat_lt, List, length, ◌⊎◌, refl, sym, ◌∙◌, subst, inl, inr, arith}
use Rattle.std.proofs.lemmas.Bool.{and_parts, and_from, cases_Bool, cases_eq, eq-eqb, eqb-true, false≢true, lt-ltb, ltb-true, ne_eqb, not_from_true}
use Rattle.map_model.specs.declared.lines.MapLine.{MapLine}
use Rattle.map_model.specs.Market.{Market, IsMarket, capacity_of, demand_of, key_of, limit_of, pool_of}
use Rattle.map_model.specs.Allocation.{AreLines, IsOffer, amount_at, counts_at, is_under, key_le, load, none_worse, placed_through, units_of}
use Rattle.map_model.specs.Holding.{under_worse}
use Rattle.map_model.proofs.MapForm.{few_places, offers-AreLines}
use Rattle.map_model.proofs.Paths.{pool_there}
use Rattle.map_model.proofs.Refused.{refused_either}
use Rattle.map_model.proofs.Trees.{comparable, under_itself, under_le, under_there}
use Rattle.map_model.proofs.Units.{units_of-le}
use Rattle.evict.proofs.Bridge.{none_worse-units_of}
use Rattle.evict.proofs.Refusals.{refused_by, some-AreLines}
use Rattle.best_laws.specs.Ahead.{IsRightMap}
use Rattle.best_laws.proofs.Offers.{held_offer}
use Rattle.map_laws.proofs.Totals.{IsCounted, total, total-wider, units-total}
use Rattle.map_laws.proofs.Cover.{covered, covered_less}

-- how many offers there are, of 16 for each group
abbrev pub size_of : Market → ℕ
size_of m = length m.groups * 16

pub counted : (m : Market) → IsMarket m → (g k : ℕ) → IsOffer m g k → IsCounted (size_of m) g k
counted m market g k o = let few = few_places m market g k o in record { few = few; within = omega (arith, few, o.group) }

pub units_all : (m : Market) → IsMarket m → (lines : List MapLine) → AreLines m lines → (test : ℕ → ℕ → Bool) → units_of test lines ≡ total (size_of m) test (amount_at lines)
units_all m market lines form test = units-total (size_of m) test lines (λ i d l.
    let c = counted m market _ _ (offers-AreLines m lines form i d l) in
    (c.few, c.within))

-- where there are units, there is an offer
pub offer_of : (m : Market) (lines : List MapLine) → AreLines m lines → (g k : ℕ) → 0 < amount_at lines g k → IsOffer m g k
offer_of m lines form g k some = held_offer m lines g k (offers-AreLines m lines form) some

-- a node refuses an offer
pub record IsRefusedAt (m : Market) (lines : List MapLine) (n g k : ℕ) : Type 0 where
  pub there : n < length m.nodes
  pub on : counts_at m n g k ≡ true
  pub full : load m lines n ≡ capacity_of m n
  pub none : units_of (under_worse m n (key_of m g k)) lines ≡ 0

pub refused_at : (m : Market) → IsMarket m → (lines : List MapLine) → IsRightMap m lines → (g k : ℕ) → IsOffer m g k → placed_through lines g k < demand_of m g → amount_at lines g k < limit_of m g k → (n : ℕ) × IsRefusedAt m lines n g k
refused_at m market lines right g k o wanted room = elim (refused_either m lines g k (right.stable g k o (lt-ltb (placed_through lines g k) (demand_of m g) wanted))) [
  | inl at ↦ absurd (omega (arith, room, eqb-true (amount_at lines g k) (limit_of m g k) at))
  | inr node ↦
      let r = refused_by m lines g k node in
      let p = and_parts (load m lines r.0 == capacity_of m r.0) (none_worse m lines r.0 (key_of m g k)) r.2 in (
        r.0,
        record {
          there = under_there m market r.0 (pool_of m g k) (pool_there m market g k o) r.1;
          on = r.1;
          full = eqb-true _ _ p.0;
          none = eqb-true _ _ (sym (none_worse-units_of m r.0 (key_of m g k) lines (some-AreLines m lines right.form)) ∙ p.1);
        },
      )
]

-- what has units under it is ranked at least as high
pub ranked : (m : Market) (lines : List MapLine) (n g k : ℕ) → IsRefusedAt m lines n g k → (h j : ℕ) → counts_at m n h j ≡ true → 0 < amount_at lines h j → key_le (key_of m h j) (key_of m g k) ≡ true
ranked m lines n g k r h j on some = elim (cases_Bool (key_le (key_of m h j) (key_of m g k))) [
  | inl e ↦ e
  | inr e ↦
      let more = units_of-le (λ x y. (x == h) && (y == j)) (under_worse m n (key_of m g k)) (λ x y t.
      let q = and_parts (x == h) (y == j) t in
      let eh : x ≡ h = eqb-true x h q.0 in
      let ej : y ≡ j = eqb-true y j q.1 in
      rw (eh, ej) (and_from (counts_at m n h j) (not (key_le (key_of m h j) (key_of m g k))) on (rw e refl))) lines in
      absurd (omega (arith, more, some, r.none))
]

-- the node stands strictly below another
abbrev pub is_below : Market → ℕ → ℕ → Bool
is_below m n c = is_under m n c && not (c == n)

pub record IsBelow (m : Market) (n c : ℕ) : Type 0 where
  pub under : is_under m n c ≡ true
  pub after : c < length m.nodes → n < c

pub IsBelow-from : (m : Market) → IsMarket m → (n c : ℕ) → is_below m n c ≡ true → IsBelow m n c
IsBelow-from m market n c h =
    let p = and_parts (is_under m n c) (not (c == n)) h in
    record {
      under = p.0;
      after = λ there. elim (cases_eq c n) [
        | inl e ↦ absurd (false≢true (sym (not_from_true (c == n) (eq-eqb c n e)) ∙ p.1))
        | inr ne ↦ omega (arith, under_le m market n c there p.0, ne)
      ];
    }

-- of two nodes over a pool the second stands over the first, or strictly below it
pub above_or_below : (m : Market) (pool n c : ℕ) → is_under m n pool ≡ true → is_under m c pool ≡ true → (is_under m c n ≡ true) ⊎ (is_below m n c ≡ true)
above_or_below m pool n c on on' = elim (comparable m pool n c on on') [
  | inl a ↦ inl a
  | inr b ↦ elim (cases_eq c n) [
    | inl e ↦ inl (subst (λ x. is_under m x n ≡ true) (sym e) (under_itself m n))
    | inr ne ↦ inr (and_from (is_under m n c) (not (c == n)) b (rw (ne_eqb c n ne) refl))
  ]
]

-- an offer hangs under a full node of some kind
pub record IsHung (m : Market) (lines : List MapLine) (kind : ℕ → Bool) (g k : ℕ) : Type 0 where
  pub node : ℕ
  pub is : kind node ≡ true
  pub there : node < length m.nodes
  pub full : load m lines node ≡ capacity_of m node
  pub on : counts_at m node g k ≡ true

module _ (m : Market) (market : IsMarket m) (pools : (g k : ℕ) → pool_of m g k < length m.nodes) (lines : List MapLine) (form : AreLines m lines) (test : ℕ → ℕ → Bool) (kind : ℕ → Bool) (f : ℕ → ℕ → ℕ) where
  -- all offers under such a node are counted, and it can hold them
  abbrev pub CanHold : Type 0
  CanHold = (n : ℕ) → kind n ≡ true → n < length m.nodes → ((g k : ℕ) → counts_at m n g k ≡ true → test g k ≡ true) × (total (size_of m) (counts_at m n) f ≤ capacity_of m n)

  -- what there is more of than on the lines hangs under a full one
  abbrev pub AreHung : Type 0
  AreHung = (g k : ℕ) → test g k ≡ true → amount_at lines g k < f g k → IsHung m lines kind g k

  some : ℕ → Bool
  some n = kind n && ((load m lines n == capacity_of m n) && nat_lt n (length m.nodes))

  no_more : CanHold → (n : ℕ) → some n ≡ true → total (size_of m) (λ g k. test g k && counts_at m n g k) f ≤ total (size_of m) (λ g k. test g k && counts_at m n g k) (amount_at lines)
  unfolding some
  no_more hold n h =
      let p = and_parts (kind n) ((load m lines n == capacity_of m n) && nat_lt n (length m.nodes)) h in
      let q = and_parts (load m lines n == capacity_of m n) (nat_lt n (length m.nodes)) p.1 in
      let holds = hold n p.0 (ltb-true n (length m.nodes) q.1) in
      let fewer = total-wider (size_of m) (λ g k. test g k && counts_at m n g k) (counts_at m n) f (λ g k e. (and_parts (test g k) (counts_at m n g k) e).1) in
      let more = total-wider (size_of m) (counts_at m n) (λ g k. test g k && counts_at m n g k) (amount_at lines) (λ g k e. and_from (test g k) (counts_at m n g k) (holds.0 g k e) e) in
      omega (arith, fewer, more, holds.1, units_all m market lines form (counts_at m n), eqb-true (load m lines n) (capacity_of m n) q.0)

  hangs : AreHung → (g k : ℕ) → test g k ≡ true → amount_at lines g k < f g k → (n : ℕ) × (some n ≡ true) × (counts_at m n g k ≡ true)
  unfolding some
  hangs hung g k t more =
      let w = hung g k t more in (
        w.node,
        and_from (kind w.node) _ w.is (and_from (load m lines w.node == capacity_of m w.node) _ (eq-eqb _ _ w.full) (lt-ltb w.node (length m.nodes) w.there)),
        w.on,
      )

  some-kind : (n : ℕ) → some n ≡ true → kind n ≡ true
  unfolding some
  some-kind n h = (and_parts (kind n) ((load m lines n == capacity_of m n) && nat_lt n (length m.nodes)) h).0

  -- then there is no more in all
  pub held_by : CanHold → AreHung → total (size_of m) test f ≤ total (size_of m) test (amount_at lines)
  held_by hold hung = covered m market pools (size_of m) test some f (amount_at lines) (no_more hold) (hangs hung)

  -- and less, if there is less of an offer that hangs under no such node
  pub held_by_less : CanHold → AreHung → (h j : ℕ) → IsCounted (size_of m) h j → test h j ≡ true → f h j < amount_at lines h j → ((n : ℕ) → kind n ≡ true → counts_at m n h j ≡ true → ⊥) → total (size_of m) test f < total (size_of m) test (amount_at lines)
  held_by_less hold hung h j c t less apart = covered_less m market pools (size_of m) test some f (amount_at lines) (no_more hold) (hangs hung) h j c t less (λ n e on. apart n (some-kind n e) on)
