-- What a source in memory holds that is opened by a name.
use Rattle.std.specs.Prelude.{ℕ, ◌+◌, ◌<◌, ◌≤◌, ◌⊎◌, List, length, Contains}
use Rattle.outside.specs.Calls.{Counted}
use Rattle.outside.specs.MemSource.{SourceInMemory, fed}
use Rattle.outside.specs.Source.{Fed}

-- a source in memory, the names under which it was opened, and its openings
pub record NamedInMemory : Type 0 where
  pub source : SourceInMemory
  pub names : List (List ℕ)
  pub opens : Counted

-- what it tells: what the source does, and the names
abbrev pub named_fed : NamedInMemory → Fed
named_fed s = record (fed s.source) { names = s.names }

-- how many calls failed
abbrev pub named_faults : NamedInMemory → ℕ
named_faults s = s.source.calls.faults + s.opens.faults

-- the next opening under that name fails: it is to fail, or there was one, or the name has more octets than there is room for
abbrev pub OpenFails : NamedInMemory → List ℕ → Type 0
OpenFails s name = Contains s.opens.fails s.opens.made ⊎ (1 ≤ length s.names) ⊎ (255 < length name)
