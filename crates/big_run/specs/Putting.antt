-- Lines that are put one by one.
use Rattle.std.specs.Prelude.{ℕ, ◌<◌, List, [], length, take, slice_index_or}
use Rattle.outside.specs.Sink.{Written}
use Rattle.outside.specs.declared.sink.Put.{Put}
use Rattle.outside.specs.declared.sink.Put.TheVariants.{Done, Failed}
use Rattle.mapper.specs.Scenes.{IsCutBehind, IsPrinted}

-- all of them were put, or those ahead of one of which the put failed
abbrev pub ArePut : Put → List (List ℕ) → Written → Written → Type 0
ArePut Done lines before after = IsPrinted lines before after
ArePut Failed lines before after = (number : ℕ) × (number < length lines) × IsCutBehind (take number lines) (slice_index_or lines number []) before after
