-- What is due to `repair`.
use Rattle.std.specs.Prelude.{◌≡◌, ◌⊎◌, ℕ, List, [], ◌∷◌, Option}
use Rattle.map_model.specs.declared.change.Change.{Change}
use Rattle.map_model.specs.Market.{Market}
use Rattle.map_model.specs.Allocation.{IsGood}
use Rattle.map_model.specs.Batch.{IsApplied}
use Rattle.map_repair.specs.Repaired.{IsKept, IsLocal, IsWithinTwiceSpread}
use Rattle.map_repair.specs.Resumed.{HasRepaired}
use Rattle.outside.specs.Faults.{BothTell}
use Rattle.outside.specs.Shelf.{Load}
use Rattle.topology_text.specs.Plan.{IsPlan, Plan}
use Rattle.map_text.specs.Reading.{Mapped}
use Rattle.map_text.specs.Writing.{text_of_map}
use Rattle.glb.specs.declared.status.Status.TheVariants.{Ok}
use Rattle.mapper.specs.Scenes.{IsPrinted}
use Rattle.glb.specs.Outcome.{Outcome, Outside}
use Rattle.glb.specs.Answer.{IsNotGood}
use Rattle.glb.specs.Loads.{DueLoad, Files, files_between}
use Rattle.glb.specs.Files.{Holds, Reads, Says, changes_file, loads_from, map_file, only, topology_file}

-- These texts are the one text of a repaired map: the old map is good; the new one is good for the numbers as the changes say, moves no group up that has no wanted place in a reached tree, and is the same for each group that has no pool in a spread tree; and some number of proposals leads from the old map to the new one, as a repair comes to its map, within those of the groups with a pool in a spread tree.
pub record AreRepaired (t : Plan) (m : Mapped) (changes : List Change) (pieces : List (List ℕ)) : Type 0 where
  pub good : IsGood t.market m.lines m.names
  pub changed : Market
  pub applied : IsApplied t.market changes changed
  pub repaired : Mapped
  pub good_again : IsGood changed repaired.lines repaired.names
  pub kept : IsKept t.market m.lines changed repaired.lines
  pub local : IsLocal t.market m.lines changed repaired.lines
  pub steps : ℕ
  pub counted : HasRepaired t.market m.lines changed repaired.lines 0 steps
  pub few : IsWithinTwiceSpread t.market m.lines changed 0 steps
  pub text : pieces ≡ text_of_map t repaired ∷ []

-- the map is good, and the text of the repaired one is due
pub record IsRepaired (t : Plan) (m : Mapped) (changes : List Change) (due : Outcome) : Type 0 where
  pub status : due.status ≡ Ok
  pub repaired : AreRepaired t m changes due.pieces

-- of a good map the repaired one, of any other the verdict
abbrev pub IsRepairOf : Plan → Mapped → List Change → Outcome → Type 0
IsRepairOf t m changes due = IsRepaired t m changes due ⊎ IsNotGood t m due

-- what is due to `repair`: the refusal of the topology, of the map, or of the changes, or the text of the repaired map, or the verdict on a map that is not good
abbrev pub IsRepairDue : List ℕ → List ℕ → List ℕ → Option Files → Outcome → Type 0
IsRepairDue topology map changes files = Reads topology_file files topology (λ t. Reads (map_file t) files map (λ m. Reads (changes_file t) files changes (IsRepairOf t m)))

-- the files hold a topology, a map that is good for its instance, and changes of it
abbrev pub HoldsChanges : List ℕ → List ℕ → List ℕ → (List ℕ → Option (List ℕ)) → Type 0
HoldsChanges topology map changes held =
    (t : Plan) × (m : Mapped) × (c : List Change) × Holds topology_file held topology t × Holds (map_file t) held map m × Holds (changes_file t) held changes c × IsGood t.market m.lines m.names

-- What status 0 of `repair` says of the files and the output: the octets that were loaded say a topology, a map that is good for its instance, and changes of it, and the output got the text of the repaired map, in one put.
abbrev pub IsRepairedRun : List ℕ → List ℕ → List ℕ → Outside → Outside → Type 0
IsRepairedRun topology map changes before after =
    (t : Plan) × (m : Mapped) × (c : List Change) × (pieces : List (List ℕ)) × IsPlan t × Says topology_file (files_between before.files.past after.files.past) topology t × Says (map_file t) (files_between before.files.past after.files.past) map m × Says (changes_file t) (files_between before.files.past after.files.past) changes c
    × AreRepaired t m c pieces × BothTell before.out.past after.out.past (IsPrinted pieces)

-- the loads of `repair`: the topology, where that says something the map, and where that does the changes
abbrev pub loads_of_repair : List ℕ → List ℕ → List ℕ → List Load → List DueLoad
loads_of_repair topology map changes = loads_from topology_file topology (λ t. loads_from (map_file t) map (λ m. only (changes_file t) changes))
