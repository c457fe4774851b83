-- A run over a feed: what was read, what its tasks did, and how it ended.
use Rattle.std.specs.Prelude.{◌≡◌, ◌⊎◌, ℕ, ◌<◌, ◌≤◌, true, false, All, List, [], ◌∷◌, ◌++◌, length, Option, IfSome}
use Rattle.std.specs.List.{concat}
use Rattle.text_parts.specs.Parts.{whole_lines}
use Rattle.outside.specs.Faults.{BothTell}
use Rattle.outside.specs.Source.{Fed, shorter}
use Rattle.topology_text.specs.Plan.{Plan}
use Rattle.demand_feed.specs.Limits.{read_size}
use Rattle.demand_feed.specs.Lines.{lines_of}
use Rattle.demand_feed.specs.Task.{Task, has_stop, tasks}
use Rattle.demand_feed.specs.Taking.{AllDo, BrokeOff}
use Rattle.demand_feed.specs.declared.run.FeedEnd.{FeedEnd}
use Rattle.demand_feed.specs.declared.run.FeedEnd.TheVariants.{Ended, SourceFault, SinkFault, Spent, NoMemory}

-- a piece that a buffer of the one size holds
abbrev pub IsPiece : List ℕ → Type 0
IsPiece piece = (1 ≤ length piece) × (length piece ≤ read_size)

-- These pieces were read, each into a buffer of the one size: the shortest buffer of all stays or becomes one of that size, and no piece is longer. Under no further name was it opened.
pub record HasRead (pieces : List (List ℕ)) (before after : Fed) : Type 0 where
  pub left : BothTell before.left after.left (λ b a. b ≡ concat pieces ++ a)
  pub given : after.pieces ≡ before.pieces ++ pieces
  pub shortest : (after.shortest ≡ before.shortest) ⊎ (after.shortest ≡ shorter before.shortest read_size)
  pub sizes : All IsPiece pieces
  pub names : after.names ≡ before.names

-- its end was answered, and nothing is left where it tells that
abbrev pub IsOver : Fed → Fed → Type 0
IsOver before after = (after.is_ended ≡ true) × IfSome after.left (λ bytes. bytes ≡ [])

-- no `stop` stands in a line that ended in these bytes
abbrev pub NoStop : List ℕ → Type 0
NoStop bytes = has_stop (whole_lines bytes) ≡ false

-- no `stop` stands ahead of the last piece
abbrev pub NoStopAhead : List (List ℕ) → Type 0
NoStopAhead pieces = (earlier : List (List ℕ)) × (last : List ℕ) × (pieces ≡ earlier ++ last ∷ []) × NoStop (concat earlier)

-- the last piece brought the end of the line `stop`: none was read behind it
abbrev pub StopsLast : List (List ℕ) → Type 0
StopsLast pieces = NoStopAhead pieces × (has_stop (whole_lines (concat pieces)) ≡ true)

-- the end of the feed was read, and no `stop`
pub record IsAll (bytes : List ℕ) (before after : Option Fed) : Type 0 where
  pub no_stop : NoStop bytes
  pub over : BothTell before after IsOver

-- How a run ended that read these pieces: at a `stop` or at the feed's end, by a fault of the source or of who takes the tasks, or since all turns were taken.
abbrev pub EndsBy : {X : Type 0} → (Task → X → X → Type 0) → (Task → X → X → Type 0) → FeedEnd → Plan → ℕ → List (List ℕ) → Option Fed → Option Fed → X → X → Type 0
EndsBy does cuts Ended t turns pieces fed_before fed_after before after =
    (StopsLast pieces × (length pieces ≤ turns) × AllDo does (tasks t (lines_of false (concat pieces))) before after)
    ⊎ (IsAll (concat pieces) fed_before fed_after × (length pieces < turns) × AllDo does (tasks t (lines_of true (concat pieces))) before after)
EndsBy does cuts SourceFault t turns pieces fed_before fed_after before after =
    NoStop (concat pieces) × (length pieces < turns) × AllDo does (tasks t (lines_of false (concat pieces))) before after
EndsBy does cuts Spent t turns pieces fed_before fed_after before after =
    NoStop (concat pieces) × (length pieces ≡ turns) × AllDo does (tasks t (lines_of false (concat pieces))) before after
EndsBy does cuts SinkFault t turns pieces fed_before fed_after before after =
    (NoStopAhead pieces × (length pieces ≤ turns) × BrokeOff does cuts (tasks t (lines_of false (concat pieces))) before after)
    ⊎ (IsAll (concat pieces) fed_before fed_after × (length pieces < turns) × BrokeOff does cuts (tasks t (lines_of true (concat pieces))) before after)
EndsBy does cuts NoMemory t turns pieces fed_before fed_after before after = ⊥

-- A run over a feed. Its pieces exist also where the feed tells nothing; so what it came to is that of some bytes, however they were cut.
abbrev pub IsRun : {X : Type 0} → (Task → X → X → Type 0) → (Task → X → X → Type 0) → Plan → ℕ → FeedEnd → Option Fed → Option Fed → X → X → Type 0
IsRun does cuts t turns result fed_before fed_after before after =
    (pieces : List (List ℕ)) × BothTell fed_before fed_after (HasRead pieces) × EndsBy does cuts result t turns pieces fed_before fed_after before after
