-- The page follows from what the program promises, what is good by its words is good by the
-- program's, and two runs over the same octets agree.
use Rattle.std.specs.Prelude.{◌≡◌, ℕ, List, [], map, Contains, Option, Some}
use Rattle.std.specs.List.{concat}
use Rattle.outside.specs.Faults.{BothTell}
use Rattle.map_model.specs.declared.lines.MapLine.{MapLine}
use Rattle.map_model.specs.Market.{IsMarket, Market}
use Rattle.map_model.specs.Allocation.{IsFeasible, IsStable}
use Rattle.map_model.specs.Progress.{IsGroupBest}
use Rattle.mapper.specs.Texts as line_of
use Rattle.glb.specs.declared.status.Status.{Status}
use Rattle.glb.specs.declared.status.Status.TheVariants as status
use Rattle.glb.specs.Files.{topology_file}
use Rattle.glb.specs.Laws.{AreOctetsOf}
use Rattle.glb.specs.Loads.{Files, files_between, load_with}
use Rattle.glb.specs.Program.{IsPromised}
use Rattle.glb.specs.Told.{Surroundings}
use Rattle.glb.specs.Words.{Service, Task, serve}
use Rattle.headline.specs.Headline.{IsBestOf, IsGood, IsRepaired}
use Rattle.headline.specs.Runs.{IsHeadline, Puts, PutsOut}
use Rattle.headline.specs.View.{Instance, Line, Name, instance, line}

-- of whatever run the program's promise holds, the headline does
abbrev pub Promised : Type 0
Promised = (turns : ℕ) (task : Option Task) (before after : Surroundings) (result : Status) →
    IsPromised turns task before after result → IsHeadline task before after result

-- A run of `serve` at status 0 with one feed: a load of its topology's file gave these octets, and
-- its feed gave these.
pub record IsOver (turns : ℕ) (ask : Service) (before after : Surroundings)
    (topology feed : List ℕ) : Type 0 where
  pub promised : IsPromised turns (Some (serve ask)) before after status.Ok
  pub alone : ask.more ≡ []
  pub files : Files
  pub told : files_between before.files.past after.files.past ≡ Some files
  pub loaded : Contains files.loads (load_with ask.topology topology_file.limit topology)
  pub gave : AreOctetsOf before.lent.feed.past after.lent.feed.past feed

-- its output says that memory was wanting for a commit
abbrev pub LackedMemory : Surroundings → Surroundings → Type 0
LackedMemory before after =
    (lines : List (List ℕ)) × PutsOut (concat lines) before after × Contains lines line_of.memory

abbrev pub PutsMaps : List ℕ → Surroundings → Surroundings → Type 0
PutsMaps octets before after =
    BothTell before.lent.maps.past after.lent.maps.past (Puts octets)

-- Two such runs over the same octets put the same on their outputs, and the same maps, unless one
-- says that memory was wanting.
abbrev pub Agree : Type 0
Agree = (turns others : ℕ) (ask other : Service) (before after then later : Surroundings)
    (topology feed : List ℕ) → IsOver turns ask before after topology feed →
    IsOver others other then later topology feed → (LackedMemory before after → ⊥) →
    (LackedMemory then later → ⊥) → (out : List ℕ) × (maps : List ℕ)
    × PutsOut out before after × PutsOut out then later
    × PutsMaps maps before after × PutsMaps maps then later

-- The page's words ask for no less than the program's: lines that are good by the page are feasible
-- and stable there, and the best of all good ones are the best there.
abbrev pub Same : Type 0
Same = (m : Market) → IsMarket m → (lines : List MapLine) (names : List Name) →
    IsGood (instance m) (map line lines) names → IsFeasible m lines × IsStable m lines
    × (IsBestOf (instance m) (λ _. Unit {0}) (map line lines) → IsGroupBest m lines)

-- Of a map, for the same numbers, all repaired maps have the same lines.
abbrev pub OneIsRepaired : Type 0
OneIsRepaired = (m : Market) → IsMarket m → (old : Instance) (was : List Line) (x y : List MapLine)
    (of_x of_y : List Name) → IsGood (instance m) (map line x) of_x →
    IsGood (instance m) (map line y) of_y → IsRepaired old (instance m) was (map line x) →
    IsRepaired old (instance m) was (map line y) → x ≡ y
