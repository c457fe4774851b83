-- Inside this crate alone. Entries of a list that differ, gathered by number.
use Rattle.std.specs.Prelude.{◌≡◌, ◌≢◌, ◌⊎◌, ℕ, ◌-◌, ◌<◌, List, [], ◌∷◌, ◌++◌, length, map, slice_set, All, AllPairs}
use Rattle.std.specs.List.{range_with_len}
use Rattle.map_model.specs.declared.instance.GroupId.{GroupId}
use Rattle.map_model.specs.declared.instance.NodeId.{NodeId}
use Rattle.map_model.specs.declared.lines.MapLine.{MapLine}
use Rattle.map_model.specs.declared.lines.NameLine.{NameLine}
use Rattle.map_model.specs.Market.{Market, capacity_of}
use Rattle.published_map.specs.declared.row.GroupRow.{GroupRow}
use Rattle.published_map.specs.Rows.{row_of}

-- a list with some of its entries replaced, one after another
unfoldable pub set_all : {E V : Type 0} → (E → ℕ) → (E → V) → List V → List E → List V
set_all id val xs [] = xs
set_all id val xs (e ∷ es) = set_all id val (slice_set xs (id e) (val e)) es

-- an entry came behind others, unless it is the same as before
abbrev pub IsGathered : {E : Type 0} → Type 0 → List E → E → List E → Type 0
IsGathered Same es e fs = (Same × (fs ≡ es)) ⊎ ((Same → ⊥) × (fs ≡ es ++ e ∷ []))

-- the entries below n whose new value differs from the old one, by rising number
pub record AreChanged {E V : Type 0} (id : E → ℕ) (val : E → V) (old new : ℕ → V) (total n : ℕ) (es : List E) : Type 0 where
  pub each : All (λ e. (id e < n) × (val e ≡ new (id e)) × (val e ≢ old (id e))) es
  pub rise : AllPairs (λ a b. id a < id b) es
  pub leads : set_all id val (map old (range_with_len 0 total)) es ≡ map new (range_with_len 0 n) ++ map old (range_with_len n (total - n))

-- what was gathered over all groups and all nodes
abbrev pub RowsChanged : Market → List MapLine → List NameLine → Market → List MapLine → List NameLine → ℕ → List (GroupId × GroupRow) → Type 0
RowsChanged m lines names n lines' names' k rs = AreChanged (λ (r : GroupId × GroupRow). r.0.0) (λ (r : GroupId × GroupRow). r.1) (row_of m lines names) (row_of n lines' names') (length m.groups) k rs

abbrev pub NodesChanged : Market → Market → ℕ → List (NodeId × ℕ) → Type 0
NodesChanged m n k ns = AreChanged (λ (n : NodeId × ℕ). n.0.0) (λ (n : NodeId × ℕ). n.1) (capacity_of m) (capacity_of n) (length m.nodes) k ns
