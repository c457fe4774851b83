-- What a table says of the node above a node, where it is filled in the order of numbers.
use Rattle.std.proofs.Common.{◌≡◌, ◌⊎◌, ℕ, ◌<◌, List, length, Option, None, Some, MatchOption, slice_index_or, sym, subst, inl, inr, refl, arith}
use Rattle.map_model.specs.declared.instance.NodeId.{NodeId}
use Rattle.map_model.specs.Market.{Market, parent_of}

-- there is no node above it and nothing is said, or what holds of the entries holds of what is said of that node
abbrev pub IsAbove : {X : Type 0} → Market → (ℕ → Option X → Type 0) → ℕ → Option X → Type 0
IsAbove m holds n above = ((parent_of m n ≡ None) × (above ≡ None)) ⊎ ((p : NodeId) × (parent_of m n ≡ Some p) × holds p.0 above)

pub from_above : {X : Type 0} (m : Market) (n : ℕ) (holds : ℕ → Option X → Type 0) (entries : List (Option X)) (above : Option X) → ((c : ℕ) → c < length entries → holds c (slice_index_or entries c None)) → length entries ≡ n
    → MatchOption (parent_of m n) (above ≡ None) (λ p. (p.0 < n) × (above ≡ slice_index_or entries p.0 None)) → IsAbove m holds n above
from_above m n holds entries above each size is = go (parent_of m n) refl is
  where
    go : (at : Option NodeId) → parent_of m n ≡ at → MatchOption at (above ≡ None) (λ p. (p.0 < n) × (above ≡ slice_index_or entries p.0 None)) → IsAbove m holds n above
    go None root none = inl (root, none)
    go (Some p) parent x = inr (p, parent, subst (holds p.0) (sym x.1) (each p.0 (omega (arith, x.0, size))))
