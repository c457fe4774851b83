-- What a run does whose words ask for one text, or are not taken.
use Rattle.std.specs.Prelude.{◌≡◌, ◌⊎◌, ℕ, List, [], ◌∷◌, Option, None, Some}
use Rattle.outside.specs.Faults.{BothTell}
use Rattle.outside.specs.Shelf.{Load}
use Rattle.outside.specs.Sink.{Written}
use Rattle.glb.specs.declared.status.Status.{Status}
use Rattle.glb.specs.declared.status.Status.TheVariants.{Usage, NoMemory}
use Rattle.glb.specs.Words.{Ask, check, map_from, places, answer, repair}
use Rattle.glb.specs.Loads.{DueLoad, Files, files_between}
use Rattle.glb.specs.Outcome.{Outcome, Outside, RunsBy, Speaks}
use Rattle.glb.specs.Check.{HoldsGoodMap, IsCheckDue, IsCheckedRun, loads_of_check}
use Rattle.glb.specs.Map.{HoldsTopology, IsMapDue, IsMappedRun, loads_of_map}
use Rattle.glb.specs.Places.{IsPlacesDue, IsPlacesRun, loads_of_places}
use Rattle.glb.specs.Answer.{IsAnswerDue, IsAnsweredRun}
use Rattle.glb.specs.Repair.{HoldsChanges, IsRepairDue, IsRepairedRun, loads_of_repair}
use Rattle.glb.specs.Texts as text

-- what is due to words that are not taken
abbrev pub IsUsage : Outcome → Type 0
IsUsage due = due ≡ record { status = Usage; pieces = text.usage ∷ [] }

-- what is due to a command over the files
abbrev pub IsDue : Ask → Option Files → Outcome → Type 0
IsDue (check topology map) files = IsCheckDue topology map files
IsDue (map_from topology) files = IsMapDue topology files
IsDue (places topology) files = IsPlacesDue topology files
IsDue (answer topology map datagram) files = IsAnswerDue topology map datagram files
IsDue (repair topology map changes) files = IsRepairDue topology map changes files

-- memory was wanting for the reading of the words, and nothing was put
pub record AreWordsUnread (before after : Option Written) (result : Status) : Type 0 where
  pub status : result ≡ NoMemory
  pub puts : BothTell before after (λ b a. a ≡ b)

-- what a run does
abbrev pub IsSayingRun : Option Ask → Outside → Outside → Status → Type 0
IsSayingRun None before after result = Speaks IsUsage before.out.past after.out.past result ⊎ AreWordsUnread before.out.past after.out.past result
IsSayingRun (Some ask) before after result = RunsBy (IsDue ask (files_between before.files.past after.files.past)) before.out.past after.out.past result

-- the loads that are due to a command over the files: in the order of its words with their limits, each where all before it say something
abbrev pub loads_of_ask : Ask → List Load → List DueLoad
loads_of_ask (check topology map) = loads_of_check topology map
loads_of_ask (map_from topology) = loads_of_map topology
loads_of_ask (places topology) = loads_of_places topology
loads_of_ask (answer topology map datagram) = loads_of_check topology map
loads_of_ask (repair topology map changes) = loads_of_repair topology map changes

-- the loads that are due to a run
abbrev pub loads_of : Option Ask → List Load → List DueLoad
loads_of None made = []
loads_of (Some ask) made = loads_of_ask ask made

-- what the files hold is such that all is well
abbrev pub IsSound : Option Ask → (List ℕ → Option (List ℕ)) → Type 0
IsSound None held = ⊥
IsSound (Some (check topology map)) held = HoldsGoodMap topology map held
IsSound (Some (map_from topology)) held = HoldsTopology topology held
IsSound (Some (places topology)) held = HoldsTopology topology held
IsSound (Some (answer topology map datagram)) held = HoldsGoodMap topology map held
IsSound (Some (repair topology map changes)) held = HoldsChanges topology map changes held

-- what status 0 says of the files and the output
abbrev pub IsGoodRun : Option Ask → Outside → Outside → Type 0
IsGoodRun None before after = ⊥
IsGoodRun (Some (check topology map)) before after = IsCheckedRun topology map before after
IsGoodRun (Some (map_from topology)) before after = IsMappedRun topology before after
IsGoodRun (Some (places topology)) before after = IsPlacesRun topology before after
IsGoodRun (Some (answer topology map datagram)) before after = IsAnsweredRun topology map datagram before after
IsGoodRun (Some (repair topology map changes)) before after = IsRepairedRun topology map changes before after
