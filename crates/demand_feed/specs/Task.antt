-- What comes of a feed's lines, one by one.
use Rattle.std.specs.Prelude.{ℕ, ◌+◌, Bool, true, false, ◌==◌, if◌then◌else◌, List, [], ◌∷◌, ◌++◌, Option, None, Some, Result, Ok, Err}
use Rattle.std.specs.List.{list_any}
use Rattle.std.specs.Option.{option_to_list, unwrap_or}
use Rattle.std.specs.Result.{result_ok}
use Rattle.hex.specs.Hex.{decode_of}
use Rattle.addr_text.specs.declared.address.Addr.{Addr}
use Rattle.map_model.specs.declared.change.Change.{Change}
use Rattle.topology_text.specs.Plan.{Plan}
use Rattle.demand_feed.specs.Line.{Said, ask, capacity, commit, demand, line_of, show, stop}
use Rattle.demand_feed.specs.Batch.{with_capacity, with_demand}
use Rattle.demand_feed.specs.declared.fault.LineFault.{LineFault}
use Rattle.demand_feed.specs.declared.fault.BatchFault.{BatchFault}
use Rattle.demand_feed.specs.declared.fault.Refusal.{Refusal}
use Rattle.demand_feed.specs.declared.fault.Refusal.TheVariants as refusal

-- What comes of a line, where something does: the line of that number is refused; a batch that is not empty ends; an empty one does; one ends of which so many lines were refused; the reply to octets from an address is due; the totals are.
pub data Task : Type 0 where
  refused : ℕ → Refusal → Task
  batch : List Change → Task
  empty : Task
  spoiled : ℕ → Task
  query : Addr → List ℕ → Task
  totals : Task

-- what stands between two lines: how many there were, how many were refused since the last commit line, and the changes since then
pub record Ledger : Type 0 where
  pub number : ℕ
  pub refused : ℕ
  pub changes : List Change

-- ahead of the first line
abbrev pub fresh : Ledger
fresh = record { number = 0; refused = 0; changes = [] }

-- what one line does
pub record Step : Type 0 where
  pub task : Option Task
  pub ledger : Ledger

-- a refused line
abbrev pub refuse : Ledger → Refusal → Step
refuse ledger why = record { task = Some (refused ledger.number why); ledger = record ledger { refused = ledger.refused + 1 } }

-- a change that the batch takes, or a refused line
abbrev pub changed : Ledger → Result (List Change) BatchFault → Step
changed ledger (Ok changes) = record { task = None; ledger = record ledger { changes = changes } }
changed ledger (Err fault) = refuse ledger (refusal.Batch fault)

-- the end of a batch of which no line was refused
abbrev pub ended : List Change → Task
ended [] = empty
ended (change ∷ changes) = batch (change ∷ changes)

-- a commit line: behind it the batch is empty, and no line is refused
abbrev pub commit_line : Ledger → Step
commit_line ledger = record {
  task = Some (if ledger.refused == 0 then ended ledger.changes else spoiled ledger.refused);
  ledger = record ledger { refused = 0; changes = [] };
}

-- the octets of hexadecimal digits
abbrev pub octets_of : List ℕ → List ℕ
octets_of digits = unwrap_or (result_ok (decode_of digits)) []

-- a line by what it says
abbrev pub by_said : Plan → Ledger → Result Said LineFault → Step
by_said t ledger (Err fault) = refuse ledger (refusal.Line fault)
by_said t ledger (Ok (demand name number)) = changed ledger (with_demand t ledger.changes name number)
by_said t ledger (Ok (capacity name number)) = changed ledger (with_capacity t ledger.changes name number)
by_said t ledger (Ok commit) = commit_line ledger
by_said t ledger (Ok (ask addr digits)) = record { task = Some (query addr (octets_of digits)); ledger = ledger }
by_said t ledger (Ok show) = record { task = Some totals; ledger = ledger }
by_said t ledger (Ok stop) = record { task = None; ledger = ledger }

-- what the next line does
unfoldable pub step : Plan → Ledger → List ℕ → Step
step t ledger line = by_said t (record ledger { number = ledger.number + 1 }) (line_of line)

-- what comes of some lines
abbrev pub tasks_of : Plan → Ledger → List (List ℕ) → List Task
tasks_of t ledger [] = []
tasks_of t ledger (line ∷ lines) = option_to_list (step t ledger line).task ++ tasks_of t (step t ledger line).ledger lines

-- what stands behind them
abbrev pub ledger_after : Plan → Ledger → List (List ℕ) → Ledger
ledger_after t ledger [] = ledger
ledger_after t ledger (line ∷ lines) = ledger_after t (step t ledger line).ledger lines

-- a line says `stop`
abbrev pub is_stop_said : Result Said LineFault → Bool
is_stop_said (Ok stop) = true
is_stop_said _ = false

abbrev pub is_stop : List ℕ → Bool
is_stop line = is_stop_said (line_of line)

-- a line among these says `stop`
unfoldable pub has_stop : List (List ℕ) → Bool
has_stop lines = list_any is_stop lines

-- the lines up to the first that says `stop`
abbrev pub up_to_stop : List (List ℕ) → List (List ℕ)
up_to_stop [] = []
up_to_stop (line ∷ lines) = if is_stop line then [] else line ∷ up_to_stop lines

-- what comes of a feed's lines: what follows `stop` isn't looked at
unfoldable pub tasks : Plan → List (List ℕ) → List Task
tasks t lines = tasks_of t fresh (up_to_stop lines)
