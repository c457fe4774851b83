-- What a file of changes says, by its lines at once: each asks for its own change, and the first that can't have it refuses the file.
use Rattle.std.specs.Prelude.{◌≡◌, ℕ, ◌+◌, ◌≤◌, true, List, ◌∷◌, ◌++◌, length, map, Result, Ok, Err}
use Rattle.map_model.specs.declared.change.Change.{Change}
use Rattle.topology_text.specs.Plan.{Plan, number_in}
use Rattle.demand_feed.specs.Limits.{most_changes}
use Rattle.demand_feed.specs.Line.{Said, capacity, demand}
use Rattle.demand_feed.specs.Lines.{lines_of}
use Rattle.demand_feed.specs.Batch.{capacity_change, demand_change}
use Rattle.demand_feed.specs.Changes.{change_line_of}
use Rattle.demand_feed.specs.declared.fault.LineFault.{LineFault}
use Rattle.demand_feed.specs.declared.fault.LineFault.TheVariants.{UnknownWord}
use Rattle.demand_feed.specs.declared.fault.BatchFault.{BatchFault}
use Rattle.demand_feed.specs.declared.fault.BatchFault.TheVariants.{Full}
use Rattle.demand_feed.specs.declared.fault.Refusal.{Refusal}
use Rattle.demand_feed.specs.declared.fault.Refusal.TheVariants as refusal
use Rattle.demand_feed.specs.declared.changes.ChangesFault.{ChangesFault}
use Rattle.demand_feed.specs.declared.changes.ChangesFault.TheVariants.{Refused, NoMemory}

-- a change, or why a batch takes none
abbrev pub of_batch : Result Change BatchFault → Result Change Refusal
of_batch (Ok change) = Ok change
of_batch (Err fault) = Err (refusal.Batch fault)

-- the change that is asked for, or why there is none
abbrev pub change_said : Plan → Result Said LineFault → Result Change Refusal
change_said t (Err fault) = Err (refusal.Line fault)
change_said t (Ok (demand name number)) = of_batch (demand_change (number_in t.group_names name) number)
change_said t (Ok (capacity name number)) = of_batch (capacity_change (number_in t.node_names name) number)
change_said t (Ok _) = Err (refusal.Line UnknownWord)

-- The change that a line asks for, whatever stands around it, or why it asks for none: its own first fault, else an unknown name, else a number out of range.
abbrev pub change_at : Plan → List ℕ → Result Change Refusal
change_at t line = change_said t (change_line_of line)

-- these lines ask for these changes, one each, in this order
abbrev pub AskFor : Plan → List (List ℕ) → List Change → Type 0
AskFor t lines changes = map (change_at t) lines ≡ map Ok changes

-- why a line is refused behind so many changes, by what it asks for: it asks for no change, or there are 4,096 ahead of it
abbrev pub IsWhy : ℕ → Result Change Refusal → Refusal → Type 0
IsWhy count (Err fault) why = why ≡ fault
IsWhy count (Ok change) why = (count ≡ most_changes) × (why ≡ refusal.Batch Full)

-- of these lines the one of that number, from 1, is refused, and those ahead of it ask for changes, at most 4,096
pub record IsRefusedAt (t : Plan) (lines : List (List ℕ)) (number : ℕ) (why : Refusal) : Type 0 where
  pub ahead : List (List ℕ)
  pub line : List ℕ
  pub behind : List (List ℕ)
  pub changes : List Change
  pub parts : lines ≡ ahead ++ line ∷ behind
  pub place : number ≡ length ahead + 1
  pub good : AskFor t ahead changes
  pub few : length changes ≤ most_changes
  pub refused : IsWhy (length changes) (change_at t line) why

-- what lines come to: the changes that they ask for, at most 4,096, or the first line that is refused
abbrev pub LinesSay : Plan → List (List ℕ) → Result (List Change) ChangesFault → Type 0
LinesSay t lines (Ok changes) = AskFor t lines changes × (length changes ≤ most_changes)
LinesSay t lines (Err (Refused number why)) = IsRefusedAt t lines number why
LinesSay t lines (Err NoMemory) = ⊥

-- What a file says. Octets behind the last LF are a line of their own.
unfoldable pub FileSays : Plan → List ℕ → Result (List Change) ChangesFault → Type 0
FileSays t text r = LinesSay t (lines_of true text) r
