-- Inside this crate alone: the classes' numbers by group and service.
use Rattle.std.specs.Prelude.{◌≡◌, ℕ, ◌<◌, ◌≤◌, ◌+◌, ◌*◌, ◌==◌, List, if◌then◌else◌, slice_index_or}
use Rattle.topology_text.specs.Plan.{Classes, unit_among}

-- a number, or where it is 0 the group
abbrev pub unit_or : ℕ → ℕ → ℕ
unit_or unit g = if unit == 0 then g else unit

-- at 64 places for each group stand the units that are classes, and 0 elsewhere
abbrev pub AreUnits : List ℕ → Classes → Type 0
AreUnits units c = (g s : ℕ) → s < 64 → unit_or (slice_index_or units (g * 64 + s) 0) g ≡ unit_among c g s

-- from service number 64 on each group is its own unit
abbrev pub HasFewServices : Classes → Type 0
HasFewServices c = (g s : ℕ) → 64 ≤ s → unit_among c g s ≡ g
