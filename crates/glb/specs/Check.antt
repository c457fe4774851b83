-- What is due to `check`.
use Rattle.std.specs.Prelude.{◌≡◌, ℕ, List, [], ◌∷◌, Option}
use Rattle.outside.specs.Faults.{BothTell}
use Rattle.map_model.specs.Allocation.{IsGood}
use Rattle.outside.specs.Shelf.{Load}
use Rattle.stable_check.specs.Judgement.{Judges}
use Rattle.stable_check.specs.declared.verdict.Verdict.{Verdict}
use Rattle.stable_check.specs.declared.verdict.Verdict.TheVariants.{Good}
use Rattle.topology_text.specs.Plan.{IsPlan, Plan}
use Rattle.map_text.specs.Reading.{Mapped}
use Rattle.glb.specs.declared.status.Status.{Status}
use Rattle.glb.specs.declared.status.Status.TheVariants.{Ok, NotGood}
use Rattle.mapper.specs.Scenes.{IsPrinted}
use Rattle.glb.specs.Outcome.{Outcome, Outside}
use Rattle.glb.specs.Loads.{DueLoad, Files, files_between}
use Rattle.glb.specs.Files.{Holds, Reads, Says, loads_from, only, map_file, topology_file}
use Rattle.glb.specs.Texts as text

abbrev pub status_of_verdict : Verdict → Status
status_of_verdict Good = Ok
status_of_verdict _ = NotGood

-- the verdict on the map, and its text
abbrev pub IsJudged : Plan → Mapped → Outcome → Type 0
IsJudged t m due = (v : Verdict) × Judges t.market m.lines m.names v × (due ≡ record { status = status_of_verdict v; pieces = text.verdict t v ∷ [] })

-- what is due to `check`: the refusal of the topology, or of the map, or the verdict on the map
abbrev pub IsCheckDue : List ℕ → List ℕ → Option Files → Outcome → Type 0
IsCheckDue topology map files = Reads topology_file files topology (λ t. Reads (map_file t) files map (IsJudged t))

-- the files hold a topology, and a map that is good for its instance
abbrev pub HoldsGoodMap : List ℕ → List ℕ → (List ℕ → Option (List ℕ)) → Type 0
HoldsGoodMap topology map held = (t : Plan) × (m : Mapped) × Holds topology_file held topology t × Holds (map_file t) held map m × IsGood t.market m.lines m.names

-- What status 0 of `check` says of the files and the output: the octets that were loaded say a topology and a map that is good for its instance, and the output got `good`, in one put.
abbrev pub IsCheckedRun : List ℕ → List ℕ → Outside → Outside → Type 0
IsCheckedRun topology map before after =
    (t : Plan) × (m : Mapped) × IsPlan t × Says topology_file (files_between before.files.past after.files.past) topology t × Says (map_file t) (files_between before.files.past after.files.past) map m × IsGood t.market m.lines m.names × BothTell before.out.past after.out.past (IsPrinted (text.good ∷ []))

-- the loads of `check`: the topology, and where that says something the map
abbrev pub loads_of_check : List ℕ → List ℕ → List Load → List DueLoad
loads_of_check topology map = loads_from topology_file topology (λ t. only (map_file t) map)
