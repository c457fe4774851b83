-- What is due to `map`.
use Rattle.std.specs.Prelude.{◌≡◌, ℕ, List, [], ◌∷◌, Option}
use Rattle.map_model.specs.Allocation.{IsGood}
use Rattle.outside.specs.Faults.{BothTell}
use Rattle.outside.specs.Shelf.{Load}
use Rattle.topology_text.specs.Plan.{IsPlan, Plan}
use Rattle.map_text.specs.Reading.{Mapped}
use Rattle.map_text.specs.Writing.{text_of_map}
use Rattle.glb.specs.declared.status.Status.TheVariants.{Ok}
use Rattle.mapper.specs.Mappers.{IsFromScratch}
use Rattle.mapper.specs.Scenes.{IsPrinted}
use Rattle.glb.specs.Outcome.{Outcome, Outside}
use Rattle.glb.specs.Loads.{DueLoad, Files, files_between}
use Rattle.glb.specs.Files.{Holds, Reads, Says, only, topology_file}

-- these texts are the one text of a map that is good for the instance of a topology, mapped from scratch, and so group-best
abbrev pub AreGoodMap : Plan → List (List ℕ) → Type 0
AreGoodMap t pieces = (m : Mapped) × IsGood t.market m.lines m.names × IsFromScratch t.market m.lines × (pieces ≡ text_of_map t m ∷ [])

-- the text of a good map, mapped from scratch
pub record IsMapped (t : Plan) (due : Outcome) : Type 0 where
  pub status : due.status ≡ Ok
  pub text : AreGoodMap t due.pieces

-- what is due to `map`: the refusal of the topology, or the text of a good map, mapped from scratch
abbrev pub IsMapDue : List ℕ → Option Files → Outcome → Type 0
IsMapDue topology files = Reads topology_file files topology IsMapped

-- the file holds a topology
abbrev pub HoldsTopology : List ℕ → (List ℕ → Option (List ℕ)) → Type 0
HoldsTopology topology held = (t : Plan) × Holds topology_file held topology t

-- What status 0 of `map` says of the files and the output: the octets that were loaded say a topology, and the output got the text of a map that is good for its instance, mapped from scratch, in one put.
abbrev pub IsMappedRun : List ℕ → Outside → Outside → Type 0
IsMappedRun topology before after =
    (t : Plan) × (pieces : List (List ℕ)) × IsPlan t × Says topology_file (files_between before.files.past after.files.past) topology t × AreGoodMap t pieces × BothTell before.out.past after.out.past (IsPrinted pieces)

-- the loads of `map`: the topology
abbrev pub loads_of_map : List ℕ → List Load → List DueLoad
loads_of_map topology = only topology_file topology
