-- All octets of a feed, of which a run may have read a part.
use Rattle.std.specs.Prelude.{◌≡◌, ℕ, true, List, [], ◌∷◌, ◌++◌, Option, None, Some, IfSome}
use Rattle.outside.specs.Source.{Fed}
use Rattle.topology_text.specs.Plan.{Plan}
use Rattle.demand_feed.specs.Task.{Task, tasks}
use Rattle.demand_feed.specs.Lines.{lines_of}
use Rattle.demand_feed.specs.Runs.{IsRun}
use Rattle.demand_feed.specs.declared.run.FeedEnd.TheVariants.{Ended}

-- a feed may have these octets left: it has, if it tells what it has
abbrev pub MayHave : Option Fed → List ℕ → Type 0
MayHave fed octets = IfSome fed (λ f. IfSome f.left (λ left. left ≡ octets))

-- a feed tells that it has these octets left
abbrev pub Has : Option Fed → List ℕ → Type 0
Has None octets = ⊥
Has (Some fed) octets = fed.left ≡ Some octets

-- one task more
abbrev pub Adds : Task → List Task → List Task → Type 0
Adds task before after = after ≡ before ++ task ∷ []

-- no task is broken off
abbrev pub Breaks : Task → List Task → List Task → Type 0
Breaks task before after = ⊥

-- A run that ended came to the tasks of all octets that its feed had left, also of those behind its `stop`, which it may not have read.
abbrev pub TasksAreOfOctets : Type 0
TasksAreOfOctets =
    (t : Plan) (turns : ℕ) (fed_before fed_after : Option Fed) (came : List Task) → IsRun Adds Breaks t turns Ended fed_before fed_after [] came
    → (octets : List ℕ) × MayHave fed_before octets × (came ≡ tasks t (lines_of true octets))

-- Two runs that ended, over feeds that had the same octets left, came to the same tasks, however many turns they had and however the octets were cut into pieces.
abbrev pub RunsAgree : Type 0
RunsAgree =
    (t : Plan) (turns others : ℕ) (a b c d : Option Fed) (octets : List ℕ) (came also : List Task) → Has a octets → Has c octets
    → IsRun Adds Breaks t turns Ended a b [] came → IsRun Adds Breaks t others Ended c d [] also → came ≡ also
