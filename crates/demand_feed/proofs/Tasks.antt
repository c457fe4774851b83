-- Tasks of lines, one line more.
use Rattle.std.proofs.Common.{◌≡◌, ℕ, ◌+◌, Bool, true, false, ◌||◌, cond, List, [], ◌∷◌, ◌++◌, length, append_assoc, append-nil, refl, ap, sym, ◌∙◌, arith}
use Rattle.std.specs.Prelude.{Some, Result, Ok, Err}
use Rattle.map_model.specs.declared.change.Change.{Change}
use Rattle.demand_feed.specs.declared.fault.LineFault.{LineFault}
use Rattle.demand_feed.specs.declared.fault.BatchFault.{BatchFault}
use Rattle.demand_feed.specs.Batch.{with_capacity, with_demand}
use Rattle.std.specs.Option.{option_to_list}
use Rattle.topology_text.specs.Plan.{Plan}
use Rattle.demand_feed.specs.Line.{Said, ask, capacity, commit, demand, line_of, show, stop}
use Rattle.demand_feed.specs.Cutter.{front}
use Rattle.demand_feed.proofs.Fronts.{front_says}
use Rattle.demand_feed.specs.Task.{Ledger, Task, by_said, changed, ledger_after, fresh, has_stop, is_stop, is_stop_said, tasks, tasks_of, step, up_to_stop}

pub tasks_more : (t : Plan) (ledger : Ledger) (lines : List (List ℕ)) (line : List ℕ) → tasks_of t ledger (lines ++ line ∷ []) ≡ tasks_of t ledger lines ++ option_to_list (step t (ledger_after t ledger lines) line).task
tasks_more t ledger [] line = append-nil (option_to_list (step t ledger line).task)
tasks_more t ledger (l ∷ ls) line =
    ap (λ xs. option_to_list (step t ledger l).task ++ xs) (tasks_more t (step t ledger l).ledger ls line)
    ∙ sym (append_assoc (option_to_list (step t ledger l).task) (tasks_of t (step t ledger l).ledger ls) (option_to_list (step t (ledger_after t (step t ledger l).ledger ls) line).task))

pub ledger_more : (t : Plan) (ledger : Ledger) (lines : List (List ℕ)) (line : List ℕ) → ledger_after t ledger (lines ++ line ∷ []) ≡ (step t (ledger_after t ledger lines) line).ledger
ledger_more t ledger [] line = refl
ledger_more t ledger (l ∷ ls) line = ledger_more t (step t ledger l).ledger ls line

-- what comes of lines, and then of others
pub tasks_join : (t : Plan) (ledger : Ledger) (lines more : List (List ℕ)) → tasks_of t ledger (lines ++ more) ≡ tasks_of t ledger lines ++ tasks_of t (ledger_after t ledger lines) more
tasks_join t ledger [] more = refl
tasks_join t ledger (l ∷ ls) more =
    ap (λ xs. option_to_list (step t ledger l).task ++ xs) (tasks_join t (step t ledger l).ledger ls more)
    ∙ sym (append_assoc (option_to_list (step t ledger l).task) (tasks_of t (step t ledger l).ledger ls) (tasks_of t (ledger_after t (step t ledger l).ledger ls) more))

-- the front of a line does what the line does
pub step_front : (t : Plan) (ledger : Ledger) (line : List ℕ) → step t ledger (front line) ≡ step t ledger line
step_front t ledger line = unfold step in ap (by_said t (record ledger { number = ledger.number + 1 })) (front_says line)

pub stop_front : (line : List ℕ) → is_stop (front line) ≡ is_stop line
stop_front line = ap is_stop_said (front_says line)

pub has_stop_next : (line : List ℕ) (lines : List (List ℕ)) → has_stop (line ∷ lines) ≡ (is_stop line || has_stop lines)
has_stop_next line lines = unfold has_stop in refl

pub no_stop_none : has_stop [] ≡ false
no_stop_none = unfold has_stop in refl

or_false : (a b : Bool) → (a || b) ≡ false → (a ≡ false) × (b ≡ false)
or_false true b h = (h, cc)
or_false false b h = (refl, h)

-- one line more that doesn't say stop
pub no_stop_more : (lines : List (List ℕ)) (line : List ℕ) → has_stop lines ≡ false → is_stop line ≡ false → has_stop (lines ++ line ∷ []) ≡ false
no_stop_more [] line h e = has_stop_next line [] ∙ ap (λ b. b || has_stop []) e ∙ no_stop_none
no_stop_more (l ∷ ls) line h e =
    let parts = or_false (is_stop l) (has_stop ls) (sym (has_stop_next l ls) ∙ h) in
    has_stop_next l (ls ++ line ∷ []) ∙ ap (λ b. b || has_stop (ls ++ line ∷ [])) parts.0 ∙ no_stop_more ls line parts.1 e

-- a line that says stop
pub has_stop_at : (lines : List (List ℕ)) (line : List ℕ) (more : List (List ℕ)) → is_stop line ≡ true → has_stop (lines ++ line ∷ more) ≡ true
has_stop_at [] line more e = has_stop_next line more ∙ ap (λ b. b || has_stop more) e
has_stop_at (l ∷ ls) line more e = has_stop_next l (ls ++ line ∷ more) ∙ go (is_stop l) (has_stop_at ls line more e)
  where
    go : (b : Bool) → has_stop (ls ++ line ∷ more) ≡ true → (b || has_stop (ls ++ line ∷ more)) ≡ true
    go true h = refl
    go false h = h

-- lines without stop, and others behind them
pub up_to_past : (lines more : List (List ℕ)) → has_stop lines ≡ false → up_to_stop (lines ++ more) ≡ lines ++ up_to_stop more
up_to_past [] more h = refl
up_to_past (l ∷ ls) more h =
    let parts = or_false (is_stop l) (has_stop ls) (sym (has_stop_next l ls) ∙ h) in
    ap (λ b. cond b [] (l ∷ up_to_stop (ls ++ more))) parts.0 ∙ ap (λ xs. l ∷ xs) (up_to_past ls more parts.1)

-- without stop all lines count
pub tasks_all : (t : Plan) (lines : List (List ℕ)) → has_stop lines ≡ false → tasks t lines ≡ tasks_of t fresh lines
tasks_all t lines h = unfold tasks in ap (tasks_of t fresh) (ap up_to_stop (sym (append-nil lines)) ∙ up_to_past lines [] h ∙ append-nil lines)

-- those ahead of stop count
pub tasks_stop : (t : Plan) (lines : List (List ℕ)) (line : List ℕ) (more : List (List ℕ)) → has_stop lines ≡ false → is_stop line ≡ true → tasks t (lines ++ line ∷ more) ≡ tasks_of t fresh lines
tasks_stop t lines line more h e = unfold tasks in ap (tasks_of t fresh) (up_to_past lines (line ∷ more) h ∙ ap (λ b. lines ++ cond b [] (line ∷ up_to_stop more)) e ∙ append-nil lines)

split : (t : Plan) (lines : List (List ℕ)) (line : List ℕ) (more : List (List ℕ)) → has_stop lines ≡ false → is_stop line ≡ false → tasks t (lines ++ line ∷ more) ≡ tasks_of t fresh lines ++ tasks_of t (ledger_after t fresh lines) (line ∷ up_to_stop more)
split t lines line more h e = unfold tasks in ap (tasks_of t fresh) (up_to_past lines (line ∷ more) h ∙ ap (λ b. lines ++ cond b [] (line ∷ up_to_stop more)) e) ∙ tasks_join t fresh lines (line ∷ up_to_stop more)

-- a line that doesn't say stop, with those ahead of it, and what comes of the rest
pub tasks_at : (t : Plan) (lines : List (List ℕ)) (line : List ℕ) (more : List (List ℕ)) (task : Task) → has_stop lines ≡ false → is_stop line ≡ false → (step t (ledger_after t fresh lines) line).task ≡ Some task
    → (later : List Task) × (tasks t (lines ++ line ∷ more) ≡ tasks_of t fresh lines ++ task ∷ later)
tasks_at t lines line more task h e is =
    let rest = tasks_of t (step t (ledger_after t fresh lines) line).ledger (up_to_stop more) in
    let first : tasks_of t (ledger_after t fresh lines) (line ∷ up_to_stop more) ≡ task ∷ rest = ap (λ o. option_to_list o ++ rest) is in
    (rest, split t lines line more h e ∙ ap (λ xs. tasks_of t fresh lines ++ xs) first)

changed_number : (ledger : Ledger) (r : Result (List Change) BatchFault) → (changed ledger r).ledger.number ≡ ledger.number
changed_number ledger (Ok changes) = refl
changed_number ledger (Err fault) = refl

by_said_number : (t : Plan) (ledger : Ledger) (s : Result Said LineFault) → (by_said t ledger s).ledger.number ≡ ledger.number
by_said_number t ledger (Err fault) = refl
by_said_number t ledger (Ok (demand name number)) = changed_number ledger (with_demand t ledger.changes name number)
by_said_number t ledger (Ok (capacity name number)) = changed_number ledger (with_capacity t ledger.changes name number)
by_said_number t ledger (Ok commit) = refl
by_said_number t ledger (Ok (ask addr digits)) = refl
by_said_number t ledger (Ok show) = refl
by_said_number t ledger (Ok stop) = refl

pub step_number : (t : Plan) (ledger : Ledger) (line : List ℕ) → (step t ledger line).ledger.number ≡ ledger.number + 1
step_number t ledger line = unfold step in by_said_number t (record ledger { number = ledger.number + 1 }) (line_of line)

-- each line is counted
pub number_after : (t : Plan) (ledger : Ledger) (lines : List (List ℕ)) → (ledger_after t ledger lines).number ≡ ledger.number + length lines
number_after t ledger [] = omega arith
number_after t ledger (l ∷ ls) = omega (arith, number_after t (step t ledger l).ledger ls, step_number t ledger l)
