-- What a run loads of the files.
use Rattle.std.specs.Prelude.{◌≡◌, ℕ, List, ◌++◌, length, take, drop, map, All, Contains, Option, None, Some, IsSome, IfSome}
use Rattle.outside.specs.Shelf.{Load, Shelved}

-- the files of a run: what they hold, where that is told, and the loads that the run made
pub record Files : Type 0 where
  pub holds : Option (List ℕ → Option (List ℕ))
  pub loads : List Load

-- The files from one moment to another, where they tell anything: the loads behind those of before.
abbrev pub files_between : Option Shelved → Option Shelved → Option Files
files_between None after = None
files_between (Some before) None = None
files_between (Some before) (Some after) = Some (record { holds = before.holds; loads = drop (length before.loads) after.loads })

-- the load of that name and limit, of which these octets came
abbrev pub load_with : List ℕ → ℕ → List ℕ → Load
load_with name limit bytes = record { name = name; limit = limit; octets = Some bytes }

-- A load of the run, of that name and limit, gave these octets; and the file holds them, where that is told. Of files that tell nothing no more is known than that there are some octets.
abbrev pub HaveGiven : Option Files → List ℕ → ℕ → List ℕ → Type 0
HaveGiven files name limit bytes = IfSome files (λ f. Contains f.loads (load_with name limit bytes) × IfSome f.holds (λ held. held name ≡ Some bytes))

-- a load that is due: the file's name, and the most octets that are wanted
pub record DueLoad : Type 0 where
  pub name : List ℕ
  pub limit : ℕ

-- what a load was asked for
abbrev pub due_of : Load → DueLoad
due_of load = record { name = load.name; limit = load.limit }

-- These loads were made, what is held stays, and the octets that came are those that are held, where that is told.
pub record AreMade (made : List Load) (before after : Shelved) : Type 0 where
  pub loads : after.loads ≡ before.loads ++ made
  pub holds : after.holds ≡ before.holds
  pub held : IfSome before.holds (λ held. All (λ load. IfSome load.octets (λ bytes. held load.name ≡ Some bytes)) made)

-- the loads that were made are the first of those that are due, in order and once each
abbrev pub AreLoadsOf : (List Load → List DueLoad) → Shelved → Shelved → Type 0
AreLoadsOf due before after = (made : List Load) × AreMade made before after × ((k : ℕ) × (map due_of made ≡ take k (due made)))

-- all loads that are due were made, in order, and octets came of each
abbrev pub AreLoaded : (List Load → List DueLoad) → Shelved → Shelved → Type 0
AreLoaded due before after = (made : List Load) × AreMade made before after × (map due_of made ≡ due made) × All (λ load. IsSome load.octets) made
