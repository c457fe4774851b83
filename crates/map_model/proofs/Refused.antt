-- What refuses an offer is its limit, or a node of its path.
use Rattle.std.proofs.Common.{ℕ, ◌⊎◌, List, Option, None, Some, IsTrue, IsSome, refl, inl, inr}
use Rattle.std.specs.Option.{option_map}
use Rattle.std.proofs.lemmas.Bool.{cases_Bool, false≢true}
use Rattle.map_model.specs.declared.lines.By.{By}
use Rattle.map_model.specs.declared.lines.By.TheVariants.{Node}
use Rattle.map_model.specs.declared.lines.MapLine.{MapLine}
use Rattle.map_model.specs.Market.{Market}
use Rattle.map_model.specs.Allocation.{is_at_limit, refuser_of, refusing_node}

-- the name of a node that may be there
abbrev by_node : Option ℕ → Option By
by_node at = option_map (λ n. Node (record { 0 = n })) at

some_by : (at : Option ℕ) → IsSome at → IsSome (by_node at)
some_by None h = absurd (false≢true h)
some_by (Some n) h = refl

some_of : (at : Option ℕ) → IsSome (by_node at) → IsSome at
some_of None h = absurd (false≢true h)
some_of (Some n) h = refl

-- an offer at its limit is refused
pub refused_limit : (m : Market) (lines : List MapLine) (g k : ℕ) → IsTrue (is_at_limit m lines g k) → IsSome (refuser_of m lines g k)
refused_limit m lines g k h = rw h refl

-- an offer that a node refuses is refused
pub refused_node : (m : Market) (lines : List MapLine) (g k : ℕ) → IsSome (refusing_node m lines g k) → IsSome (refuser_of m lines g k)
refused_node m lines g k h = elim (cases_Bool (is_at_limit m lines g k)) [
  | inl e ↦ rw e refl
  | inr e ↦ rw e (some_by (refusing_node m lines g k) h)
]

-- and nothing else is
pub refused_either : (m : Market) (lines : List MapLine) (g k : ℕ) → IsSome (refuser_of m lines g k) → IsTrue (is_at_limit m lines g k) ⊎ IsSome (refusing_node m lines g k)
refused_either m lines g k h = elim (cases_Bool (is_at_limit m lines g k)) [
  | inl e ↦ inl e
  | inr e ↦ inr (some_of (refusing_node m lines g k) (rw e at h))
]
