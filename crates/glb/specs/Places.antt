-- What is due to `places`.
use Rattle.std.specs.Prelude.{◌≡◌, ℕ, List, [], ◌∷◌, Option}
use Rattle.map_model.specs.Allocation.{IsGood}
use Rattle.map_model.specs.Progress.{IsGroupBest}
use Rattle.outside.specs.Faults.{BothTell}
use Rattle.outside.specs.Shelf.{Load}
use Rattle.topology_text.specs.Plan.{IsPlan, Plan}
use Rattle.map_text.specs.Reading.{Mapped}
use Rattle.place_counts.specs.Places.{places_text}
use Rattle.glb.specs.declared.status.Status.TheVariants.{Ok}
use Rattle.mapper.specs.Scenes.{IsPrinted}
use Rattle.glb.specs.Outcome.{Outcome, Outside}
use Rattle.glb.specs.Loads.{DueLoad, Files, files_between}
use Rattle.glb.specs.Files.{Reads, Says, only, topology_file}

-- these texts are how many units stand at each place, by one map that is good for the instance of a topology and group-best
abbrev pub AreBestPlaces : Plan → List (List ℕ) → Type 0
AreBestPlaces t pieces = (m : Mapped) × IsGood t.market m.lines m.names × IsGroupBest t.market m.lines × (pieces ≡ places_text t.market m.lines ∷ [])

-- the text of how many units stand at each place by a group-best map
pub record IsSpreadOut (t : Plan) (due : Outcome) : Type 0 where
  pub status : due.status ≡ Ok
  pub text : AreBestPlaces t due.pieces

-- what is due to `places`: the refusal of the topology, or how many units stand at each place by a group-best map
abbrev pub IsPlacesDue : List ℕ → Option Files → Outcome → Type 0
IsPlacesDue topology files = Reads topology_file files topology IsSpreadOut

-- What status 0 of `places` says of the files and the output: the octets that were loaded say a topology, and the output got, in one put, how many units stand at each place by a group-best map of its instance.
abbrev pub IsPlacesRun : List ℕ → Outside → Outside → Type 0
IsPlacesRun topology before after =
    (t : Plan) × (pieces : List (List ℕ)) × IsPlan t × Says topology_file (files_between before.files.past after.files.past) topology t × AreBestPlaces t pieces × BothTell before.out.past after.out.past (IsPrinted pieces)

-- the loads of `places`: the topology
abbrev pub loads_of_places : List ℕ → List Load → List DueLoad
loads_of_places topology = only topology_file topology
