-- The nearest full node of an offer's path, and the worst held offer under a node, are one.
use Rattle.std.proofs.Common.{◌≡◌, ℕ, ◌<◌, true, not, List, length, slice_index, sym, ap, ◌∙◌, subst, inl, inr, arith}
use Rattle.std.proofs.lemmas.Bool.{and_from, and_parts}
use Rattle.map_model.specs.declared.lines.MapLine.{MapLine}
use Rattle.map_model.specs.Market.{Market, IsMarket, capacity_of, key_of, pool_of}
use Rattle.map_model.specs.Allocation.{counts_at, is_under, key_le, load}
use Rattle.map_model.specs.Holding.{IsWorst, under_worse}
use Rattle.map_model.proofs.Keys.{key_le_total, key_le_trans}
use Rattle.map_model.proofs.Paths.{pool_there}
use Rattle.map_model.proofs.Trees.{comparable, under_itself, under_trans}
use Rattle.map_model.proofs.Units.{units_of-le}
use Rattle.evict.specs.Standing.{IsNearestFull, Standing}
use Rattle.evict.proofs.Putting.{no_better}
use Rattle.best_laws.proofs.Offers.{offer_one, pool_in}
use Rattle.deferred_accept.specs.declared.circle.Hop.{Hop}
use Rattle.deferred_accept.specs.Turning.{IsHop, displaced, hopper}

-- an offer has one nearest full node
pub nearest_one : (m : Market) (lines : List MapLine) (g k n o : ℕ) → IsNearestFull m lines g k n → IsNearestFull m lines g k o → n ≡ o
nearest_one m lines g k n o first other = elim (comparable m (pool_of m g k) n o first.path other.path) [
  | inl above ↦ other.nearest n first.path above first.full
  | inr below ↦ sym (first.nearest o other.path below other.full)
]

-- a full node of an offer's path is the nearest one, or above it
pub nearest_below : (m : Market) (lines : List MapLine) (g k n f : ℕ) → IsNearestFull m lines g k n → counts_at m f g k ≡ true → load m lines f ≡ capacity_of m f → is_under m f n ≡ true
nearest_below m lines g k n f near path full = elim (comparable m (pool_of m g k) n f near.path path) [
  | inl above ↦ above
  | inr below ↦ let same : f ≡ n = near.nearest f path below full in subst (λ x. is_under m x n ≡ true) (sym same) (under_itself m n)
]

-- a node has one worst held offer
pub worst_one : (m : Market) → IsMarket m → (lines : List MapLine) (n g k units h j more : ℕ) → IsWorst m lines n g k units → IsWorst m lines n h j more → (g ≡ h) × (k ≡ j)
worst_one m market lines n g k units h j more w v =
    offer_one m market g k h j w.offer v.offer (no_better m lines n g k h j v.worst w.under (omega (arith, w.held, w.some))) (no_better m lines n h j g k w.worst v.under (omega (arith, v.held, v.some)))

-- the worst held offer under a node that stands under another one below it is the worst there too
pub worst_below : (m : Market) → IsMarket m → (lines : List MapLine) (n f g k units : ℕ) → f < length m.nodes → is_under m n f ≡ true → IsWorst m lines n g k units → counts_at m f g k ≡ true → IsWorst m lines f g k units
worst_below m market lines n f g k units there above w under = record {
  offer = w.offer;
  under = under;
  some = w.some;
  held = w.held;
  worst = omega (arith, w.worst, units_of-le (under_worse m f (key_of m g k)) (under_worse m n (key_of m g k)) wider lines);
}
  where
    wider : (h j : ℕ) → under_worse m f (key_of m g k) h j ≡ true → under_worse m n (key_of m g k) h j ≡ true
    wider h j t =
        let p = and_parts (counts_at m f h j) (not (key_le (key_of m h j) (key_of m g k))) t in
        and_from (counts_at m n h j) (not (key_le (key_of m h j) (key_of m g k))) (under_trans m market n f (pool_of m h j) (pool_in m market f h j there) above p.0) p.1

-- an offer that stands under the full node of another hop is ranked at least as high as the offer that is displaced there
pub hop_better : (m : Market) (state : Standing) → IsMarket m → (a b : Hop) → IsHop m state a → IsHop m state b → counts_at m b.rival.node.0 a.offer.group.0 a.offer.place ≡ true
    → key_le (key_of m a.offer.group.0 a.offer.place) (key_of m b.rival.offer.group.0 b.rival.offer.place) ≡ true
hop_better m state market a b hop other path =
    let w = hop.rival.worst in
    let above = nearest_below m state.lines a.offer.group.0 a.offer.place a.rival.node.0 b.rival.node.0 hop.rival.node path other.rival.node.full in
    let under = under_trans m market b.rival.node.0 a.rival.node.0 (pool_of m a.rival.offer.group.0 a.rival.offer.place) (pool_there m market a.rival.offer.group.0 a.rival.offer.place w.offer) above w.under in
    let within = no_better m state.lines b.rival.node.0 a.rival.offer.group.0 a.rival.offer.place b.rival.offer.group.0 b.rival.offer.place other.rival.worst.worst under (omega (arith, w.held, w.some)) in
    key_le_trans (key_of m a.offer.group.0 a.offer.place) (key_of m a.rival.offer.group.0 a.rival.offer.place) (key_of m b.rival.offer.group.0 b.rival.offer.place)
    (key_le_total (key_of m a.rival.offer.group.0 a.rival.offer.place) (key_of m a.offer.group.0 a.offer.place) hop.better) within

-- two hops at one full node displace the same offer
pub node_one : (m : Market) (state : Standing) → IsMarket m → (a b : Hop) → IsHop m state a → IsHop m state b → a.rival.node.0 ≡ b.rival.node.0 → (displaced a ≡ displaced b) × (a.rival.offer.place ≡ b.rival.offer.place)
node_one m state market a b hop other same =
    worst_one m market state.lines b.rival.node.0 a.rival.offer.group.0 a.rival.offer.place a.rival.units b.rival.offer.group.0 b.rival.offer.place b.rival.units
    (subst (λ n. IsWorst m state.lines n a.rival.offer.group.0 a.rival.offer.place a.rival.units) same hop.rival.worst) other.rival.worst

-- a group displaces one other as things stand
pub hop_one : (m : Market) (state : Standing) → IsMarket m → (a b : Hop) → IsHop m state a → IsHop m state b → hopper a ≡ hopper b → displaced a ≡ displaced b
hop_one m state market a b hop other same =
    let place : a.offer.place ≡ b.offer.place = hop.pointer ∙ ap (λ (g : ℕ). slice_index state.pointers g) same ∙ sym other.pointer in
    let near : IsNearestFull m state.lines b.offer.group.0 b.offer.place a.rival.node.0
    = subst (λ k. IsNearestFull m state.lines b.offer.group.0 k a.rival.node.0) place (subst (λ g. IsNearestFull m state.lines g a.offer.place a.rival.node.0) same hop.rival.node) in
    (node_one m state market a b hop other (nearest_one m state.lines b.offer.group.0 b.offer.place a.rival.node.0 b.rival.node.0 near other.rival.node)).0
