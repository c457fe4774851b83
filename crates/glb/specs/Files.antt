-- What the files of a command come to.
use Rattle.std.specs.Prelude.{◌≡◌, ◌⊎◌, ℕ, List, [], ◌∷◌, length, nat_lt, if◌then◌else◌, Option, None, Some, option_map, Result, Ok, Err}
use Rattle.outside.specs.Shelf.{Load}
use Rattle.glb.specs.Loads.{DueLoad, Files, HaveGiven}
use Rattle.topology_text.specs.Plan.{Plan}
use Rattle.topology_text.specs.Faults.{reading}
use Rattle.map_text.specs.Reading.{Mapped, map_of}
use Rattle.map_model.specs.declared.change.Change.{Change}
use Rattle.demand_feed.specs.Changes.{changes_of}
use Rattle.glb.specs.Outcome.{Outcome}
use Rattle.glb.specs.declared.status.Status.TheVariants.{Refused}
use Rattle.glb.specs.Texts as text

-- what bytes say, or of their fault the text
abbrev pub with_text : {T F : Type 0} → (F → List ℕ) → Result T F → Result T (List ℕ)
with_text text (Ok t) = Ok t
with_text text (Err fault) = Err (text fault)

-- what the bytes of a topology say, or the text with which they are refused
unfoldable pub topology_of : List ℕ → Result Plan (List ℕ)
topology_of bytes = with_text text.topology_fault (reading bytes)

-- what the bytes of a map say over a topology, or the text with which they are refused
unfoldable pub mapped_of : Plan → List ℕ → Result Mapped (List ℕ)
mapped_of t bytes = with_text text.map_fault (map_of t bytes)

-- what the bytes of a changes file say of a topology, or the text with which they are refused
unfoldable pub changes_read : Plan → List ℕ → Result (List Change) (List ℕ)
changes_read t bytes = with_text text.changes_fault (changes_of t bytes)

-- a kind of file: the most octets that it may have, the text of one that has more, and what bytes say or the text with which they are refused
pub record Kind (T : Type 0) : Type 0 where
  pub limit : ℕ
  pub too_long : List ℕ
  pub reading : List ℕ → Result T (List ℕ)

-- a topology, of at most 64 MiB
abbrev pub topology_file : Kind Plan
topology_file = record { limit = 67108864; too_long = text.topology_too_long; reading = topology_of }

-- a map over a topology, of at most 256 MiB
abbrev pub map_file : Plan → Kind Mapped
map_file t = record { limit = 268435456; too_long = text.map_too_long; reading = mapped_of t }

-- the changes of a topology, of at most 1 MiB
abbrev pub changes_file : Plan → Kind (List Change)
changes_file t = record { limit = 1048576; too_long = text.changes_too_long; reading = changes_read t }

-- what the octets of a file say, or the text with which they are refused
abbrev pub said : {T : Type 0} → Kind T → List ℕ → Result T (List ℕ)
said kind bytes = if nat_lt kind.limit (length bytes) then Err kind.too_long else kind.reading bytes

-- a file is refused, with that text
abbrev pub refused : List ℕ → Outcome
refused text = record { status = Refused; pieces = text ∷ [] }

-- the octets that were loaded say this
abbrev pub Says : {T : Type 0} → Kind T → Option Files → List ℕ → T → Type 0
Says kind files name t = (bytes : List ℕ) × HaveGiven files name kind.limit bytes × (said kind bytes ≡ Ok t)

-- the octets that were loaded are refused
abbrev pub IsRefused : {T : Type 0} → Kind T → Option Files → List ℕ → Outcome → Type 0
IsRefused kind files name due = (bytes : List ℕ) × (text : List ℕ) × HaveGiven files name kind.limit bytes × (said kind bytes ≡ Err text) × (due ≡ refused text)

-- the octets that were loaded are refused, or what they say leads on to the outcome
abbrev pub Reads : {T : Type 0} → Kind T → Option Files → List ℕ → (T → Outcome → Type 0) → Outcome → Type 0
Reads {T = T} kind files name Next due = IsRefused kind files name due ⊎ ((t : T) × Says kind files name t × Next t due)

-- the file is there, and what it holds says this
abbrev pub Holds : {T : Type 0} → Kind T → (List ℕ → Option (List ℕ)) → List ℕ → T → Type 0
Holds kind held name t = (bytes : List ℕ) × (held name ≡ Some bytes) × (said kind bytes ≡ Ok t)

-- the load of a file
abbrev pub load_of : {T : Type 0} → Kind T → List ℕ → DueLoad
load_of kind name = record { name = name; limit = kind.limit }

-- the loads that follow on octets, where some came and they say something
abbrev pub loads_behind : {T : Type 0} → Option (Result T (List ℕ)) → (T → List DueLoad) → List DueLoad
loads_behind None next = []
loads_behind (Some (Ok t)) next = next t
loads_behind (Some (Err text)) next = []

-- Which loads are due follows from what came of those that were made: that of one file alone,
abbrev pub only : {T : Type 0} → Kind T → List ℕ → List Load → List DueLoad
only kind name made = load_of kind name ∷ []

-- or that of a file, and those that follow on what it says.
abbrev pub loads_from : {T : Type 0} → Kind T → List ℕ → (T → List Load → List DueLoad) → List Load → List DueLoad
loads_from kind name next [] = load_of kind name ∷ []
loads_from kind name next (first ∷ made) = load_of kind name ∷ loads_behind (option_map (said kind) first.octets) (λ t. next t made)
