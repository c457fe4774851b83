-- What a source in memory holds.
use Rattle.std.specs.Prelude.{◌≡◌, ℕ, ◌+◌, Bool, true, false, List, [], ◌∷◌, length, min, max, take, drop, Option, Some, Contains}
use Rattle.outside.specs.Calls.{Counted}
use Rattle.outside.specs.Source.{Fed}
use Rattle.outside.specs.declared.source.Read.{Read}
use Rattle.outside.specs.declared.source.Read.TheVariants.{Got, Failed}

-- a source in memory: the bytes that are left, the sizes of the next pieces, the pieces that it gave, the shortest buffer, whether it has said that it ended, and its calls
pub record SourceInMemory : Type 0 where
  pub left : List ℕ
  pub sizes : List ℕ
  pub pieces : List (List ℕ)
  pub shortest : Option ℕ
  pub is_ended : Bool
  pub calls : Counted

-- bytes cut into pieces of these sizes
abbrev pub cut_by : List ℕ → List ℕ → List (List ℕ)
cut_by bytes [] = []
cut_by bytes (size ∷ sizes) = take size bytes ∷ cut_by (drop size bytes) sizes

-- all these sizes together
abbrev pub total : List ℕ → ℕ
total [] = 0
total (size ∷ sizes) = size + total sizes

-- what it tells
abbrev pub fed : SourceInMemory → Fed
fed source = record { left = Some source.left; pieces = source.pieces; shortest = source.shortest; is_ended = source.is_ended; names = [] }

-- the size of the next piece: that of the list, or all, but at least one octet, and no more than fit and are left
abbrev pub next_size : List ℕ → ℕ → ℕ → ℕ
next_size [] room left = min room left
next_size (size ∷ sizes) room left = min (max size 1) (min room left)

-- it is to fail at the next read
abbrev pub FailsNext : SourceInMemory → Type 0
FailsNext source = (source.is_ended ≡ false) × Contains source.calls.fails source.calls.made

-- a piece has the size that is due, and is no longer left
abbrev pub IsNextPiece : Read → ℕ → SourceInMemory → SourceInMemory → Type 0
IsNextPiece (Got n) room before after =
    (n ≡ next_size before.sizes room (length before.left)) × (after.left ≡ drop n before.left) × (after.sizes ≡ drop 1 before.sizes)
IsNextPiece _ room before after = (after.left ≡ before.left) × (after.sizes ≡ before.sizes)

-- the read failed
abbrev pub is_failed : Read → Bool
is_failed Failed = true
is_failed _ = false
