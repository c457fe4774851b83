-- A node that refuses a better offer in another map is closed to the worse one.
use Rattle.std.proofs.Common.{◌≡◌, ℕ, ◌<◌, ◌==◌, true, false, not, ◌&&◌, List, length, refl, sym, ◌∙◌, subst, inl, inr, arith}
use Rattle.std.proofs.lemmas.Bool.{and_parts, and_from, cases_Bool, eq-eqb, ne_eqb, eqb-true, false≢true}
use Rattle.map_model.specs.declared.lines.MapLine.{MapLine}
use Rattle.map_model.specs.Market.{Market, IsMarket, capacity_of, key_of, pool_of}
use Rattle.map_model.specs.Allocation.{counts_at, is_under, key_le, units_of}
use Rattle.map_model.proofs.Keys.{key_le_trans}
use Rattle.map_model.specs.Holding.{under_worse}
use Rattle.best_laws.specs.Tops.{is_closed}
use Rattle.map_model.proofs.Trees.{comparable, under_trans}
use Rattle.map_model.proofs.Units.{units_of-le}

-- a node that refuses (g, k) in their map holds no unit ranked below it, so it doesn't hold (h, j), which is
not_over : (m : Market) (theirs : List MapLine) (g k h j n : ℕ) → units_of (under_worse m n (key_of m g k)) theirs ≡ 0 → 0 < units_of (λ x y. (x == h) && (y == j)) theirs → key_le (key_of m h j) (key_of m g k) ≡ false → counts_at m n h j ≡ true → ⊥
not_over m theirs g k h j n none some strict over =
    let more = units_of-le (λ x y. (x == h) && (y == j)) (under_worse m n (key_of m g k)) (λ x y t.
    let q = and_parts (x == h) (y == j) t in
    let eh : x ≡ h = eqb-true x h q.0 in
    let ej : y ≡ j = eqb-true y j q.1 in
    rw (eh, ej) (and_from (counts_at m n h j) (not (key_le (key_of m h j) (key_of m g k))) over (rw strict refl))) theirs in
    absurd (omega (arith, more, none, some))

-- and is a closed node below every full node over both
pub is_closed-refuser : (m : Market) → IsMarket m → (theirs : List MapLine) (c g k h j n : ℕ) → pool_of m g k < length m.nodes → pool_of m h j < length m.nodes
    → counts_at m n g k ≡ true → units_of (counts_at m n) theirs ≡ capacity_of m n → units_of (under_worse m n (key_of m g k)) theirs ≡ 0
    → counts_at m c g k ≡ true → counts_at m c h j ≡ true → 0 < units_of (λ x y. (x == h) && (y == j)) theirs → key_le (key_of m h j) (key_of m g k) ≡ false
    → is_closed m theirs c (key_of m h j) n ≡ true
unfolding is_closed
is_closed-refuser m market theirs c g k h j n pool pool' on full none c_g c_h some strict =
    and_from (is_under m c n && not (n == c)) _ (and_from (is_under m c n) (not (n == c)) below (rw (ne_eqb n c apart) refl))
    (and_from (units_of (counts_at m n) theirs == capacity_of m n) _ (eq-eqb _ _ full) (eq-eqb _ 0 above))
  where
    below : is_under m c n ≡ true
    below = elim (comparable m (pool_of m g k) n c on c_g) [
      | inl a ↦ a
      | inr b ↦ absurd (not_over m theirs g k h j n none some strict (under_trans m market n c (pool_of m h j) pool' b c_h))
    ]

    apart : n ≡ c → ⊥
    apart e = not_over m theirs g k h j n none some strict (subst (λ x. counts_at m x h j ≡ true) (sym e) c_h)

    above : units_of (λ x y. counts_at m n x y && key_le (key_of m h j) (key_of m x y)) theirs ≡ 0
    above =
        let more = units_of-le (λ x y. counts_at m n x y && key_le (key_of m h j) (key_of m x y)) (under_worse m n (key_of m g k)) (λ x y t.
        let q = and_parts (counts_at m n x y) (key_le (key_of m h j) (key_of m x y)) t in
        and_from (counts_at m n x y) (not (key_le (key_of m x y) (key_of m g k))) q.0 (elim (cases_Bool (key_le (key_of m x y) (key_of m g k))) [
          | inl e ↦ absurd (false≢true (sym strict ∙ key_le_trans (key_of m h j) (key_of m x y) (key_of m g k) q.1 e))
          | inr e ↦ rw e refl
        ])) theirs in
        omega (arith, more, none)
