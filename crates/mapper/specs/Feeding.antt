-- A whole run over a feed: what was read, what it came to, and how it ended.
use Rattle.std.specs.Prelude.{◌≡◌, ◌⊎◌, ℕ, ◌<◌, ◌≤◌, true, false, List, [], ◌∷◌, ◌++◌, length, Option}
use Rattle.std.specs.List.{concat}
use Rattle.outside.specs.Faults.{BothTell}
use Rattle.outside.specs.Pace.{IsPaced}
use Rattle.outside.specs.Source.{Fed}
use Rattle.outside.specs.declared.pace.PaceCall.{PaceCall}
use Rattle.outside.specs.declared.pace.PaceCall.TheVariants.{Done}
use Rattle.topology_text.specs.Plan.{Plan}
use Rattle.demand_feed.specs.Task.{Task, tasks}
use Rattle.demand_feed.specs.Lines.{lines_of}
use Rattle.demand_feed.specs.Runs.{HasRead, IsAll, NoStop, NoStopAhead, StopsLast}
use Rattle.demand_feed.specs.declared.run.FeedEnd.{FeedEnd}
use Rattle.demand_feed.specs.declared.run.FeedEnd.TheVariants.{Ended, SourceFault, SinkFault, Spent, NoMemory}
use Rattle.mapper.specs.Control.{AllCome, Comes, Course, start}
use Rattle.mapper.specs.Scenes.{IsAt, IsCutAt, Scene}

-- the tasks came to a course, which is what is told
abbrev pub AllCame : List Task → Scene → Scene → Type 0
AllCame tasks before after = (c : Course) × AllCome tasks (start before.newest) c × IsAt before c after

-- of one task a put failed, those before it came to a course, and those behind it were not looked at
abbrev pub WasCut : List Task → Scene → Scene → Type 0
WasCut tasks before after =
    (done : List Task) × (task : Task) × (later : List Task) × (c : Course) × (d : Course) × (tasks ≡ done ++ task ∷ later)
    × AllCome done (start before.newest) c × Comes task c d × IsCutAt before c d after

-- How a run ended that read these pieces: at a `stop` or at the feed's end, by a fault of the source or of an output, or since all turns were taken.
abbrev pub HasEnded : FeedEnd → Plan → ℕ → List (List ℕ) → Option Fed → Option Fed → Scene → Scene → Type 0
HasEnded Ended t turns pieces fed_before fed_after before after =
    (StopsLast pieces × (length pieces ≤ turns) × AllCame (tasks t (lines_of false (concat pieces))) before after)
    ⊎ (IsAll (concat pieces) fed_before fed_after × (length pieces < turns) × AllCame (tasks t (lines_of true (concat pieces))) before after)
HasEnded SourceFault t turns pieces fed_before fed_after before after =
    NoStop (concat pieces) × (length pieces < turns) × AllCame (tasks t (lines_of false (concat pieces))) before after
HasEnded Spent t turns pieces fed_before fed_after before after =
    NoStop (concat pieces) × (length pieces ≡ turns) × AllCame (tasks t (lines_of false (concat pieces))) before after
HasEnded SinkFault t turns pieces fed_before fed_after before after =
    (NoStopAhead pieces × (length pieces ≤ turns) × WasCut (tasks t (lines_of false (concat pieces))) before after)
    ⊎ (IsAll (concat pieces) fed_before fed_after × (length pieces < turns) × WasCut (tasks t (lines_of true (concat pieces))) before after)
HasEnded NoMemory t turns pieces fed_before fed_after before after = ⊥

-- a run over a feed
abbrev pub IsFeedRun : Plan → ℕ → FeedEnd → Option Fed → Option Fed → Scene → Scene → Type 0
IsFeedRun t turns result fed_before fed_after before after =
    (pieces : List (List ℕ)) × BothTell fed_before fed_after (HasRead pieces) × HasEnded result t turns pieces fed_before fed_after before after

-- a run over a feed, behind whose end the pace is told that, whatever the end was
pub record IsFeed (t : Plan) (turns : ℕ) (result : FeedEnd) (fed_before fed_after : Option Fed) (before after : Scene) : Type 0 where
  pub calls : Option (List PaceCall)
  pub run : IsFeedRun t turns result fed_before fed_after before (record after { pace = calls })
  pub told : IsPaced (Done after.newest.serial ∷ []) calls after.pace
