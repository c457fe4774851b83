-- Inside this crate alone: how far the lines of a feed have been worked.
use Rattle.std.specs.List.{concat}
use Rattle.std.specs.Prelude.{◌≡◌, ◌≢◌, ℕ, ◌+◌, ◌-◌, ◌^◌, ◌<◌, ◌≤◌, true, false, List, [], ◌∷◌, ◌++◌, length, Option, None, Some}
use Rattle.map_model.specs.Market.{Market}
use Rattle.text_parts.specs.Parts.{unfinished, whole_lines}
use Rattle.text_parts.proofs.Lines.{IsReading}
use Rattle.outside.specs.Faults.{BothTell}
use Rattle.outside.specs.Source.{Fed}
use Rattle.topology_text.specs.Plan.{Plan}
use Rattle.demand_feed.specs.Clerk.{AreBatches, Clerking}
use Rattle.demand_feed.specs.Cutter.{front}
use Rattle.demand_feed.specs.Task.{Task, ledger_after, fresh, has_stop, is_stop, tasks, tasks_of, step}
use Rattle.demand_feed.specs.Lines.{lines_of}
use Rattle.demand_feed.specs.Runs.{EndsBy, HasRead}
use Rattle.demand_feed.specs.Taking.{AllDo, BrokeOff}
use Rattle.demand_feed.specs.declared.run.FeedEnd.{FeedEnd}
use Rattle.demand_feed.specs.declared.run.FeedEnd.TheVariants.{Ended, SourceFault, SinkFault, Spent, NoMemory}
use Rattle.demand_feed.specs.declared.pieces.LineEnd.{LineEnd}
use Rattle.demand_feed.specs.declared.pieces.LineEnd.TheVariants.{GoesOn, Stopped, Failed}

-- these lines are done, none of which says `stop`
abbrev pub Stands : {X : Type 0} → (Task → X → X → Type 0) → Plan → X → List (List ℕ) → Clerking → X → Type 0
Stands does t before done clerk now = (clerk.ledger ≡ ledger_after t fresh done) × (has_stop done ≡ false) × AllDo does (tasks_of t fresh done) before now

-- the line behind these has a task that was broken off
abbrev pub HasFailed : {X : Type 0} → (Task → X → X → Type 0) → (Task → X → X → Type 0) → Plan → X → List (List ℕ) → List ℕ → X → Type 0
HasFailed {X} does cuts t before done line now =
    (task : Task) × (mid : X) × ((step t (ledger_after t fresh done) line).task ≡ Some task) × AllDo does (tasks_of t fresh done) before mid × cuts task mid now

-- what became of the line behind these
abbrev pub LineCame : {X : Type 0} → (Task → X → X → Type 0) → (Task → X → X → Type 0) → LineEnd → Plan → X → List (List ℕ) → List ℕ → Clerking → X → Type 0
LineCame does cuts GoesOn t before done line clerk now = Stands does t before (done ++ line ∷ []) clerk now
LineCame does cuts Stopped t before done line clerk now = (is_stop line ≡ true) × AllDo does (tasks_of t fresh done) before now
LineCame does cuts Failed t before done line clerk now = (is_stop line ≡ false) × HasFailed does cuts t before done line now

-- a feed can go on by so many lines more: both batches are of the topology, and neither the number of lines nor the room for tasks comes to its end
abbrev pub IsReady : {X : Type 0} → (X → Market) → (X → ℕ) → Plan → Clerking → X → ℕ → Type 0
IsReady market left t clerk to lines = AreBatches t.market clerk × (market to ≡ t.market) × (clerk.ledger.number + lines ≤ 2 ^ 64 - 1) × (lines ≤ left to)

-- these bytes were read: their whole lines are done, and the front of the unfinished one is kept
abbrev pub Reads : {X : Type 0} → (Task → X → X → Type 0) → Plan → X → List ℕ → List ℕ → Clerking → X → Type 0
Reads does t before bytes held clerk now = (held ≡ front (unfinished bytes)) × Stands does t before (whole_lines bytes) clerk now

-- in the midst of a piece: some lines are done, so much of the next has come, and the rest is to be read
abbrev pub InPiece : {X : Type 0} → (Task → X → X → Type 0) → Plan → X → List ℕ → List ℕ → List ℕ → Clerking → X → Type 0
InPiece does t before bytes rest held clerk now =
    (done : List (List ℕ)) × (line : List ℕ) × IsReading bytes done line rest × (held ≡ front line) × Stands does t before done clerk now

-- a whole line of these bytes, with those ahead of it, of which none says `stop`
pub record IsLineOf (bytes : List ℕ) (done : List (List ℕ)) (line : List ℕ) : Type 0 where
  pub more : List (List ℕ)
  pub lines : whole_lines bytes ≡ done ++ line ∷ more
  pub stop : has_stop done ≡ false

-- what became of a piece, at the end of which these bytes are read
abbrev pub PieceCame : {X : Type 0} → (Task → X → X → Type 0) → (Task → X → X → Type 0) → LineEnd → Plan → X → List ℕ → List ℕ → Clerking → X → Type 0
PieceCame does cuts GoesOn t before bytes kept clerk now = Reads does t before bytes kept clerk now
PieceCame does cuts Stopped t before bytes kept clerk now =
    (done : List (List ℕ)) × (line : List ℕ) × IsLineOf bytes done line × (is_stop line ≡ true) × AllDo does (tasks_of t fresh done) before now
PieceCame does cuts Failed t before bytes kept clerk now =
    (done : List (List ℕ)) × (line : List ℕ) × IsLineOf bytes done line × (is_stop line ≡ false) × HasFailed does cuts t before done line now

-- what the end of a feed came to
abbrev pub LastCame : {X : Type 0} → (Task → X → X → Type 0) → (Task → X → X → Type 0) → FeedEnd → Plan → X → List ℕ → X → Type 0
LastCame does cuts Ended t before bytes now = AllDo does (tasks t (lines_of true bytes)) before now
LastCame does cuts SinkFault t before bytes now = BrokeOff does cuts (tasks t (lines_of true bytes)) before now
LastCame does cuts SourceFault t before bytes now = ⊥
LastCame does cuts Spent t before bytes now = ⊥
LastCame does cuts NoMemory t before bytes now = ⊥

-- how a feed ends by a piece, if it does
abbrev pub end_of : LineEnd → Option FeedEnd
end_of GoesOn = None
end_of Stopped = Some Ended
end_of Failed = Some SinkFault

-- what one turn came to, behind so many pieces
abbrev pub TurnCame : {X : Type 0} → (Task → X → X → Type 0) → (Task → X → X → Type 0) → Option FeedEnd → Plan → Option Fed → Option Fed → X → ℕ → List ℕ → Clerking → X → Type 0
TurnCame does cuts None t fed_before fed_after before count kept clerk now =
    (pieces : List (List ℕ)) × (length pieces ≡ count + 1) × BothTell fed_before fed_after (HasRead pieces) × Reads does t before (concat pieces) kept clerk now
TurnCame does cuts (Some end) t fed_before fed_after before count kept clerk now =
    (pieces : List (List ℕ)) × BothTell fed_before fed_after (HasRead pieces) × (end ≢ Spent)
    × ((turns : ℕ) → count < turns → EndsBy does cuts end t turns pieces fed_before fed_after before now)
