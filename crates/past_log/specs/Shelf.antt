-- What a shelf tells of its loads after one more.
use Rattle.std.specs.Prelude.{ℕ, List, [], ◌∷◌, ◌++◌, Option, None, Some, Result, Ok, Err, Vec}
use Rattle.std.specs.declared.alloc.Global.{Global}
use Rattle.outside.specs.Shelf.{Load, Shelved}
use Rattle.outside.specs.declared.shelf.LoadFault.{LoadFault}
use Rattle.past_log.specs.declared.shelf.LoadEvent.{LoadEvent}

-- none yet
abbrev pub no_loads : List Load
no_loads = []

-- the octets that were read, if any were
abbrev pub octets_of : Result (Vec ℕ Global) LoadFault → Option (List ℕ)
octets_of (Ok bytes) = Some bytes.items
octets_of (Err fault) = None

-- the loads after one more
abbrev pub noted : LoadEvent → List Load → List Load
noted event loads = loads ++ (record { name = event.name.now; limit = event.limit; octets = octets_of event.read.now }) ∷ []

-- a shelf that tells these loads, and not what it holds
abbrev pub of_loads : List Load → Shelved
of_loads loads = record { holds = None; loads = loads }
