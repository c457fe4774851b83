-- Trees, as a state tells them.
use Rattle.std.proofs.Common.{◌≡◌, ℕ, ◌<◌, length, sym, ap, ◌∙◌, arith}
use Rattle.map_model.specs.declared.instance.NodeId.{NodeId}
use Rattle.map_model.specs.Market.{Market, IsMarket, IsSameShape, choice_at, pool_of}
use Rattle.map_model.specs.Allocation.{IsOffer}
use Rattle.map_model.specs.Progress.{root_of, tree_of}
use Rattle.map_model.proofs.Paths.{pool_there}
use Rattle.map_model.proofs.Roots.{root-there}
use Rattle.map_model.proofs.Shapes.{root_of-shape}
use Rattle.evict.specs.Standing.{Standing}

-- the root of a node, as a state tells it
pub root_in : (m : Market) (s : Standing) → IsMarket m → IsSameShape s.market m → (n r : ℕ) → n < length m.nodes → r ≡ root_of s.market n → (r ≡ root_of m n) × (r < length m.nodes)
root_in m s market shape n r there is =
    let at : r ≡ root_of m n = is ∙ sym (root_of-shape s.market m shape n) in
    (at, omega (arith, at, root-there m market n there))

-- and the root of an offer's pool
pub tree_in : (m : Market) (s : Standing) → IsMarket m → IsSameShape s.market m → (g k : ℕ) (pool : NodeId) (r : ℕ) → IsOffer m g k → pool ≡ (choice_at m g k).pool → r ≡ root_of s.market pool.0 → (r ≡ tree_of m g k) × (r < length m.nodes)
tree_in m s market shape g k pool r o at is = root_in m s market shape (pool_of m g k) r (pool_there m market g k o) (is ∙ ap (λ (p : NodeId). root_of s.market p.0) at)
