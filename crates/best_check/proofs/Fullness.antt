-- The full node nearest to a node on its path, from what it is at the node above.
use Rattle.std.proofs.Common.{◌≡◌, ℕ, ◌<◌, true, List, length, Option, None, Some, sym, subst, inl, inr}
use Rattle.map_model.specs.declared.instance.NodeId.{NodeId}
use Rattle.map_model.specs.declared.lines.MapLine.{MapLine}
use Rattle.map_model.specs.Market.{Market, IsMarket, capacity_of, parent_of}
use Rattle.map_model.specs.Allocation.{is_under, load}
use Rattle.map_model.proofs.Trees.{above_alone, above_parent, above_split, under_itself}
use Rattle.map_laws.specs.Nearest.{IsFirstFull}
use Rattle.best_check.specs.Fullness.{FirstFull}
use Rattle.best_check.proofs.Above.{IsAbove}

module _ (m : Market) (market : IsMarket m) (lines : List MapLine) (n : ℕ) (there : n < length m.nodes) where
  -- a full node is the nearest one to itself
  pub full_here : load m lines n ≡ capacity_of m n → IsFirstFull m lines n n
  full_here full = record { on = under_itself m n; full = full; nearest = λ c on _. on }

  -- and else it is the one that is nearest to the node above
  full_up : (load m lines n ≡ capacity_of m n → ⊥) → (p : NodeId) → parent_of m n ≡ Some p → (c : ℕ) → is_under m c n ≡ true → load m lines c ≡ capacity_of m c → is_under m c p.0 ≡ true
  full_up room p parent c on full = elim (above_split m n p parent c on) [
    | inl e ↦ absurd (room (subst (λ x. load m lines x ≡ capacity_of m x) e full))
    | inr up ↦ up
  ]

  from_parent : (load m lines n ≡ capacity_of m n → ⊥) → (p : NodeId) → parent_of m n ≡ Some p → (above : Option NodeId) → FirstFull m lines p.0 above → FirstFull m lines n above
  from_parent room p parent None none = λ c on full. none c (full_up room p parent c on full) full
  from_parent room p parent (Some f) first = record { on = above_parent m market n p there parent f.0 first.on; full = first.full; nearest = λ c on full. first.nearest c (full_up room p parent c on full) full }

  pub full_above : (load m lines n ≡ capacity_of m n → ⊥) → (above : Option NodeId) → IsAbove m (FirstFull m lines) n above → FirstFull m lines n above
  full_above room above (inl x) = subst (FirstFull m lines n) (sym x.1) (λ c on full. room (subst (λ y. load m lines y ≡ capacity_of m y) (above_alone m n c x.0 on) full))
  full_above room above (inr x) = from_parent room x.0 x.1 above x.2
