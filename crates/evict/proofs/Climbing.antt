-- From a node to its parent in a put.
use Rattle.std.proofs.Common.{◌≡◌, ℕ, ◌<◌, ◌≤◌, List, length, Option, None, Some, slice_index_or, refl, sym, subst, inl, inr}
use Rattle.std.specs.Option.{IfSome}
use Rattle.std.proofs.lemmas.Bool.{cases_Bool}
use Rattle.capacity_tree.specs.Loads.{Loads}
use Rattle.map_model.specs.declared.instance.NodeId.{NodeId}
use Rattle.map_model.specs.Market.{Market, capacity_of, parent_of, pool_of}
use Rattle.map_model.specs.Allocation.{is_under, load}
use Rattle.map_model.proofs.Paths.{parent_there, pool_there}
use Rattle.map_model.proofs.Trees.{above_alone, above_parent, above_split, parent_above, parent_apart, under_there, under_trans}
use Rattle.offer_pool.specs.Holdings.{Holdings}
use Rattle.evict.specs.declared.freed.Eviction.{Eviction}
use Rattle.evict.specs.Putting.{IsClimbing, IsRelieved, IsRelieving, IsTurnedAway, Origin}
use Rattle.evict.proofs.Putting.{IsPutting-up}

-- on to the parent, once a node is within its capacity
relieving_up : (m : Market) (origin : Origin) (g k c r : ℕ) (p : NodeId) (held : Holdings) (tree : Loads) (freed : List Eviction) → parent_of m c ≡ Some p → p.0 < length m.nodes → IsRelieving m origin g k c r held tree freed → load m held.lines c ≤ capacity_of m c
    → IsRelieving m origin g k p.0 r held tree freed
relieving_up m origin g k c r p held tree freed up there before fits =
    let above = parent_above m c p up in
    record {
      market = before.market;
      offer = before.offer;
      there = there;
      accounted = before.accounted;
      putting = IsPutting-up m before.market origin.lines held.lines g k c p.0 r before.putting fits there before.there above (pool_there m before.market g k before.offer)
          (above_parent m before.market c p before.there up) (above_split m c p up) (parent_apart m before.market c p before.there up);
      turned = λ i d l.
          let e : Eviction = slice_index_or freed i d in
          let w : IsTurnedAway m held.lines c e = before.turned i d l in
          let pool = pool_there m before.market e.offer.group.0 e.offer.place (before.accounted.evictions i d l).offer in
          (w.0, w.1, under_trans m before.market p.0 c w.0 (under_there m before.market w.0 (pool_of m e.offer.group.0 e.offer.place) pool w.1) above w.2, w.3);
    }

-- past the root, once that is within its capacity
relieving_top : (m : Market) (origin : Origin) (g k c r : ℕ) (held : Holdings) (tree : Loads) (freed : List Eviction) → parent_of m c ≡ None → IsRelieving m origin g k c r held tree freed → load m held.lines c ≤ capacity_of m c
    → IsRelieved m origin g k held tree freed
relieving_top m origin g k c r held tree freed top before fits = record {
  accounted = before.accounted;
  settled = record {
    fits = λ n l. elim (cases_Bool (is_under m n c)) [
      | inl e ↦ subst (λ x. load m held.lines x ≤ capacity_of m x) (sym (above_alone m c n top e)) fits
      | inr e ↦ before.putting.fits n l e
    ];
    kept = λ n l key full. let w = before.putting.kept n l key full in (w.0, w.1, w.2);
  };
  turned = λ i d l. let w = before.turned i d l in (w.0, w.1, w.3);
}

-- the turn of the way up
pub climbing_turn : (m : Market) (origin : Origin) (g k : ℕ) (c : NodeId) (r : ℕ) (at : Option NodeId) (held : Holdings) (tree : Loads) (freed : List Eviction) → at ≡ parent_of m c.0 → IsRelieving m origin g k c.0 r held tree freed → load m held.lines c.0 ≤ capacity_of m c.0
    → IsClimbing m origin g k at r held tree freed
climbing_turn m origin g k c r at held tree freed up before fits = subst (λ x. IsClimbing m origin g k x r held tree freed) (sym up) (go (parent_of m c.0) refl (parent_there m before.market c.0 before.there))
  where
    go : (at : Option NodeId) → parent_of m c.0 ≡ at → IfSome at (λ p. p.0 < length m.nodes) → IsClimbing m origin g k at r held tree freed
    go None e h = relieving_top m origin g k c.0 r held tree freed e before fits
    go (Some p) e h = relieving_up m origin g k c.0 r p held tree freed e h before fits
