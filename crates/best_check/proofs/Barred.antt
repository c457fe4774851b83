-- The rank from which on a node refuses, from its worst offer and from the node above.
use Rattle.std.proofs.Common.{◌≡◌, ◌⊎◌, ◌==◌, ℕ, ◌<◌, true, List, length, Option, None, Some, IfSome, IsSome, refl, sym, ap, ◌∙◌, subst, inl, inr, slice_index_or, arith}
use Rattle.std.proofs.lemmas.Bool.{and_from, eq-eqb}
use Rattle.map_model.specs.declared.instance.Key.{Key}
use Rattle.map_model.specs.declared.lines.MapLine.{MapLine}
use Rattle.map_model.specs.Market.{Market, IsMarket, IsSameShape, capacity_of, key_of, pool_of}
use Rattle.map_model.specs.Allocation.{AreLines, IsOffer, key_le, load, none_worse, refuser_of}
use Rattle.map_model.specs.Holding.{IsWorst}
use Rattle.map_model.proofs.Paths.{pool_there}
use Rattle.map_model.proofs.Refused.{refused_node}
use Rattle.map_model.proofs.Shapes.{key_of-shape, shape_sym}
use Rattle.map_model.proofs.Trees.{above_parent, under_itself}
use Rattle.evict.proofs.Refusals.{refused_at}
use Rattle.evict.proofs.Shaped.{AreLines-shape}
use Rattle.evict.proofs.Worst.{worst_key, worst_none}
use Rattle.best_check.specs.Open.{IsBar, IsBarTable}
use Rattle.best_check.proofs.Above.{IsAbove}

-- what a full node holds, in a state of another instance of the same shape
module _ (from m : Market) (shape : IsSameShape from m) (lines : List MapLine) (form : AreLines m lines) (n : ℕ) (full : load m lines n ≡ capacity_of m n) where
  form_from : AreLines from lines
  form_from = AreLines-shape m from (shape_sym from m shape) lines form

  -- it refuses from the worst offer that it holds on
  pub bar_worst : (h j units : ℕ) → IsWorst from lines n h j units → IsBar m lines n (key_of m h j)
  bar_worst h j units worst = record {
    node = n;
    on = under_itself m n;
    refuses = λ key le. and_from (load m lines n == capacity_of m n) (none_worse m lines n key) (eq-eqb (load m lines n) (capacity_of m n) full)
        (worst_key from m shape lines n (key_of from h j) key form_from (h, j, units, worst, refl) ∙ subst (λ (x : Key). key_le x key ≡ true) (key_of-shape from m shape h j) le);
  }

  -- and all, if it holds nothing
  pub bar_first : (first : Key) → load from lines n ≡ 0 → IsBar m lines n first
  bar_first first none = record {
    node = n;
    on = under_itself m n;
    refuses = λ key le. and_from (load m lines n == capacity_of m n) (none_worse m lines n key) (eq-eqb (load m lines n) (capacity_of m n) full) (worst_none from m shape lines n key form_from none);
  }

-- what holds of a node's path holds of the paths of those below it
pub bar_below : (m : Market) → IsMarket m → (lines : List MapLine) (n : ℕ) → n < length m.nodes → (above : Option Key) → IsAbove m (λ p bar. IfSome bar (λ (b : Key). IsBar m lines p b)) n above → IfSome above (λ b. IsBar m lines n b)
bar_below m market lines n there above (inl x) = subst (λ bar. IfSome bar (λ (b : Key). IsBar m lines n b)) (sym x.1) tt
bar_below m market lines n there above (inr x) = go above x.2
  where
    go : (above : Option Key) → IfSome above (λ b. IsBar m lines x.0.0 b) → IfSome above (λ b. IsBar m lines n b)
    go None none = tt
    go (Some b) bar = record { node = bar.node; on = above_parent m market n x.0 there x.1 bar.node bar.on; refuses = bar.refuses }

-- either of two keys
pub bar_either : (m : Market) (lines : List MapLine) (n : ℕ) (one other bar : Option Key) → IfSome one (λ b. IsBar m lines n b) → IfSome other (λ b. IsBar m lines n b) → (bar ≡ one) ⊎ (bar ≡ other) → IfSome bar (λ b. IsBar m lines n b)
bar_either m lines n one other bar a b (inl e) = subst (λ x. IfSome x (λ (k : Key). IsBar m lines n k)) (sym e) a
bar_either m lines n one other bar a b (inr e) = subst (λ x. IfSome x (λ (k : Key). IsBar m lines n k)) (sym e) b

-- an offer that is one of those from the key at its pool on is refused
pub refused_behind : (m : Market) (lines : List MapLine) (g k : ℕ) (bar : Key) → IsBar m lines (pool_of m g k) bar → key_le bar (key_of m g k) ≡ true → IsSome (refuser_of m lines g k)
refused_behind m lines g k bar b le = refused_node m lines g k (refused_at m lines g k b.node b.on (b.refuses (key_of m g k) le))

-- found in a table of keys by the offer's own
pub refused_in_table : (m : Market) → IsMarket m → (lines : List MapLine) (g k : ℕ) → IsOffer m g k → (bars : List (Option Key)) → IsBarTable m lines bars → (key : Key) → key ≡ key_of m g k → (b : Key) × (slice_index_or bars key.pool.0 None ≡ Some b) × (key_le b key ≡ true) → IsSome (refuser_of m lines g k)
refused_in_table m market lines g k offer bars table key is x =
    let at : key.pool.0 ≡ pool_of m g k = ap (λ (y : Key). y.pool.0) is in
    let bar : IsBar m lines key.pool.0 x.0 = subst (λ e. IfSome e (λ (b : Key). IsBar m lines key.pool.0 b)) x.1 (table.bars_at key.pool.0 (omega (arith, at, pool_there m market g k offer, table.size))) in
    refused_behind m lines g k x.0 (subst (λ p. IsBar m lines p x.0) at bar) (subst (λ y. key_le x.0 y ≡ true) is x.2)
