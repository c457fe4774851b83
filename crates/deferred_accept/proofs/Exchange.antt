-- Units of a better offer in place of as many of the worst one under a full node.
use Rattle.std.proofs.Common.{◌≡◌, ℕ, ◌+◌, ◌<◌, ◌≤◌, ◌==◌, Bool, true, false, not, ◌&&◌, if◌then◌else◌, List, length, IsSome, refl, ap, subst, ◌∙◌, inl, inr, ◌⊎◌, arith}
use Rattle.std.proofs.lemmas.Bool.{and_from, and_parts, cases_Bool, eq-eqb, eqb-true}
use Rattle.map_model.specs.declared.instance.Key.{Key}
use Rattle.map_model.specs.declared.lines.MapLine.{MapLine}
use Rattle.map_model.specs.Market.{Market, IsMarket, capacity_of, key_of, limit_of, pool_of}
use Rattle.map_model.specs.Allocation.{AreLines, IsOffer, amount_at, counts_at, is_under, key_le, load, refuser_of, refusing_node, units_of}
use Rattle.map_model.specs.Holding.{IsSaturated, under_within, under_worse}
use Rattle.map_model.proofs.Keys.{key_le_itself, key_le_trans}
use Rattle.map_model.proofs.Paths.{pool_there}
use Rattle.map_model.proofs.Refused.{refused_either, refused_limit, refused_node}
use Rattle.map_model.proofs.Trees.{comparable, under_itself, under_there, under_trans}
use Rattle.evict.specs.Putting.{IsSettled}
use Rattle.evict.specs.Standing.{KeepsRefusals}
use Rattle.evict.proofs.Evictions.{within-all}
use Rattle.evict.proofs.Refusals.{full_from_saturated, refusals_kept, refused_at, refused_by}

-- some units of (h, j), the worst offer under the full node n, gave way to as many of (g, k), which is better and stands under n too
pub record IsExchange (m : Market) (old new : List MapLine) (n g k h j units : ℕ) : Type 0 where
  pub offer : IsOffer m g k
  pub loser : IsOffer m h j
  pub path : counts_at m n g k ≡ true
  pub under : counts_at m n h j ≡ true
  pub full : load m old n ≡ capacity_of m n
  pub worst : units_of (under_worse m n (key_of m h j)) old ≡ 0
  pub better : key_le (key_of m g k) (key_of m h j) ≡ true
  pub held : (test : ℕ → ℕ → Bool) → units_of test new + (if test h j then units else 0) ≡ units_of test old + (if test g k then units else 0)
  pub fits : (c : ℕ) → c < length m.nodes → load m new c ≤ capacity_of m c

-- where a test says the same of both offers, as many units pass it as before
same_units : (m : Market) (old new : List MapLine) (n g k h j units : ℕ) → IsExchange m old new n g k h j units → (test : ℕ → ℕ → Bool) (b : Bool) → test g k ≡ b → test h j ≡ b → units_of test new ≡ units_of test old
same_units m old new n g k h j units x test b better worse =
    let came : (if test g k then units else 0) ≡ (if b then units else 0) = ap (λ c. if c then units else 0) better in
    let gone : (if test h j then units else 0) ≡ (if b then units else 0) = ap (λ c. if c then units else 0) worse in
    omega (arith, x.held test, came, gone)

-- the node stays full, and nothing under it is ranked lower than the worst offer was
still_full : (m : Market) (old new : List MapLine) (n g k h j units : ℕ) → IsExchange m old new n g k h j units → (key : Key) → key_le (key_of m h j) key ≡ true → IsSaturated m new n key
still_full m old new n g k h j units x key le =
    let worse : Key → Bool = λ y. not (key_le y (key_of m h j)) in
    let none : units_of (under_worse m n (key_of m h j)) new ≡ 0
    = same_units m old new n g k h j units x (under_worse m n (key_of m h j)) false (ap (λ b. counts_at m n g k && not b) x.better ∙ nothing (counts_at m n g k)) (ap (λ b. counts_at m n h j && not b) (key_le_itself (key_of m h j)) ∙ nothing (counts_at m n h j)) ∙ x.worst in
    let all = within-all m new n (key_of m h j) key none le in
    omega (arith, all, same_units m old new n g k h j units x (counts_at m n) true x.path x.under, x.full)
  where
    nothing : (b : Bool) → (b && false) ≡ false
    nothing true = refl
    nothing false = refl

-- what was full of units within a key is so after, or a node above it is
pub exchange_settled : (m : Market) → IsMarket m → (old new : List MapLine) (n g k h j units : ℕ) → IsExchange m old new n g k h j units → IsSettled m old new
exchange_settled m market old new n g k h j units x = record { fits = x.fits; kept = λ c l key full. kept c key full (cases_Bool (under_within m c key h j)) }
  where
    kept : (c : ℕ) (key : Key) → IsSaturated m old c key → (under_within m c key h j ≡ true) ⊎ (under_within m c key h j ≡ false) → (o : ℕ) × (is_under m o c ≡ true) × IsSaturated m new o key
    kept c key full (inr out) =
        let none : (if under_within m c key h j then units else 0) ≡ 0 = ap (λ b. if b then units else 0) out in
        (c, under_itself m c, omega (arith, x.held (under_within m c key), none, full))
    kept c key full (inl within) =
        let p = and_parts (counts_at m c h j) (key_le (key_of m h j) key) within in
        elim (comparable m (pool_of m h j) c n p.0 x.under) [
          | inl above ↦ (n, above, still_full m old new n g k h j units x key p.1)
          | inr below ↦
              let also : under_within m c key g k ≡ true = and_from (counts_at m c g k) (key_le (key_of m g k) key) (under_trans m market c n (pool_of m g k) (pool_there m market g k x.offer) below x.path) (key_le_trans (key_of m g k) (key_of m h j) key x.better p.1) in
              (c, under_itself m c, omega (arith, same_units m old new n g k h j units x (under_within m c key) true also within, full))
        ]

-- so no refusal is taken back
pub exchange_keeps : (m : Market) → IsMarket m → (old new : List MapLine) (n g k h j units : ℕ) → IsExchange m old new n g k h j units → AreLines m old → AreLines m new → KeepsRefusals m old new
exchange_keeps m market old new n g k h j units x form form' = refusals_kept m market old new form form' (exchange_settled m market old new n g k h j units x)

-- an offer that some node refused is refused by one still
node_still : (m : Market) → IsMarket m → (old new : List MapLine) → KeepsRefusals m old new → (g k : ℕ) → IsOffer m g k → IsSome (refusing_node m old g k) → IsSome (refusing_node m new g k)
node_still m market old new kept g k o some =
    let w = refused_by m old g k some in
    let pool = pool_there m market g k o in
    let v = kept w.0 (key_of m g k) (under_there m market w.0 (pool_of m g k) pool w.1) w.2 in
    refused_at m new g k v.0 (under_trans m market v.0 w.0 (pool_of m g k) pool v.1 w.1) v.2

-- the offer that gave way is refused by the node
pub exchange_turned : (m : Market) → IsMarket m → (old new : List MapLine) (n g k h j units : ℕ) → IsExchange m old new n g k h j units → AreLines m new → IsSome (refusing_node m new h j)
exchange_turned m market old new n g k h j units x form =
    let there = under_there m market n (pool_of m h j) (pool_there m market h j x.loser) x.under in
    refused_at m new h j n x.under (full_from_saturated m new n (key_of m h j) form (x.fits n there) (still_full m old new n g k h j units x (key_of m h j) (key_le_itself (key_of m h j))))

-- an offer that was refused is refused still, where all amounts are within limits: one at its limit gave up nothing, or gave way
pub refused_still : (m : Market) → IsMarket m → (old new : List MapLine) (n g k h j units : ℕ) → IsExchange m old new n g k h j units → AreLines m old → AreLines m new → ((a b : ℕ) → IsOffer m a b → amount_at new a b ≤ limit_of m a b)
    → (a b : ℕ) → IsOffer m a b → IsSome (refuser_of m old a b) → IsSome (refuser_of m new a b)
refused_still m market old new n g k h j units x form form' limits a b o some = elim (refused_either m old a b some) [
  | inr node ↦ refused_node m new a b (node_still m market old new (exchange_keeps m market old new n g k h j units x form form') a b o node)
  | inl full ↦ elim (cases_Bool ((h == a) && (j == b))) [
    | inl e ↦
        let p = and_parts (h == a) (j == b) e in
        refused_node m new a b (subst (λ y. IsSome (refusing_node m new a y)) (eqb-true j b p.1) (subst (λ y. IsSome (refusing_node m new y j)) (eqb-true h a p.0) (exchange_turned m market old new n g k h j units x form')))
    | inr e ↦
        let gone : (if (h == a) && (j == b) then units else 0) ≡ 0 = ap (λ c. if c then units else 0) e in
        let was : amount_at old a b ≡ limit_of m a b = eqb-true (amount_at old a b) (limit_of m a b) full in
        let now : amount_at new a b ≡ limit_of m a b = omega (arith, x.held (λ y z. (y == a) && (z == b)), gone, was, limits a b o) in
        refused_limit m new a b (eq-eqb (amount_at new a b) (limit_of m a b) now)
  ]
]
