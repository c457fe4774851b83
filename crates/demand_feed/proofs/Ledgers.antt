-- Laws of the ledger that stands between two lines: what is counted and gathered in it, and what a commit line tells and leaves.
use Rattle.std.proofs.Common.{◌≡◌, ℕ, ◌+◌, ◌==◌, Bool, true, false, if◌then◌else◌, filter, List, [], ◌∷◌, ◌++◌, length, append_assoc, length-append, ap, sym, ◌∙◌, refl, arith, ◌≤◌, take, append-nil, nat_lt, zero, suc}
use Rattle.std.specs.Prelude.{Some, Result, Ok, Err}
use Rattle.std.specs.List.{list_any}
use Rattle.std.specs.Option.{option_to_list}
use Rattle.std.specs.Result.{result_ok}
use Rattle.std.proofs.lemmas.Bool.{ltb-false, ltb-true, or_parts}
use Rattle.std.proofs.lemmas.List.{length-take, take-append-le, take_all}
use Rattle.std.proofs.lemmas.List.Elements.{filter-append}
use Rattle.map_model.specs.declared.change.Change.{Change}
use Rattle.topology_text.specs.Plan.{Plan, number_in}
use Rattle.demand_feed.specs.Batch.{capacity_change, demand_change, with_capacity, with_change, with_demand}
use Rattle.demand_feed.specs.Limits.{most_changes}
use Rattle.demand_feed.specs.Line.{Said, ask, capacity, commit, demand, line_of, show, stop}
use Rattle.demand_feed.specs.Task.{Ledger, Task, by_said, changed, ledger_after, ended, fresh, tasks_of, refused, spoiled, step}
use Rattle.demand_feed.specs.declared.fault.LineFault.{LineFault}
use Rattle.demand_feed.specs.declared.fault.BatchFault.{BatchFault}
use Rattle.demand_feed.specs.declared.fault.BatchFault.TheVariants.{Full}
use Rattle.demand_feed.proofs.Tasks.{ledger_more, number_after}

-- a line says `commit`
abbrev pub is_commit_said : Result Said LineFault → Bool
is_commit_said (Ok commit) = true
is_commit_said _ = false

abbrev pub is_commit : List ℕ → Bool
is_commit line = is_commit_said (line_of line)

-- a task says that a line is refused
abbrev pub is_refused : Task → Bool
is_refused (refused line why) = true
is_refused _ = false

-- how many of these tasks say that
abbrev pub count_refused : List Task → ℕ
count_refused tasks = length (filter is_refused tasks)

count_join : (xs ys : List Task) → count_refused (xs ++ ys) ≡ count_refused xs + count_refused ys
count_join xs ys = ap length (filter-append is_refused xs ys) ∙ length-append (filter is_refused xs) (filter is_refused ys)

changed_refused : (ledger : Ledger) (r : Result (List Change) BatchFault) → (changed ledger r).ledger.refused ≡ ledger.refused + count_refused (option_to_list (changed ledger r).task)
changed_refused ledger (Ok changes) = omega arith
changed_refused ledger (Err fault) = omega arith

by_said_refused : (t : Plan) (ledger : Ledger) (s : Result Said LineFault) → is_commit_said s ≡ false → (by_said t ledger s).ledger.refused ≡ ledger.refused + count_refused (option_to_list (by_said t ledger s).task)
by_said_refused t ledger (Err fault) h = omega arith
by_said_refused t ledger (Ok (demand name number)) h = changed_refused ledger (with_demand t ledger.changes name number)
by_said_refused t ledger (Ok (capacity name number)) h = changed_refused ledger (with_capacity t ledger.changes name number)
by_said_refused t ledger (Ok commit) h = cc
by_said_refused t ledger (Ok (ask addr digits)) h = omega arith
by_said_refused t ledger (Ok show) h = omega arith
by_said_refused t ledger (Ok stop) h = omega arith

step_refused : (t : Plan) (ledger : Ledger) (line : List ℕ) → is_commit line ≡ false → (step t ledger line).ledger.refused ≡ ledger.refused + count_refused (option_to_list (step t ledger line).task)
step_refused t ledger line h = unfold step in by_said_refused t (record ledger { number = ledger.number + 1 }) (line_of line) h

-- Of lines none of which says `commit`, the ledger counts as many more refused ones as there are tasks that refuse one.
pub refused_after : (t : Plan) (ledger : Ledger) (lines : List (List ℕ)) → list_any is_commit lines ≡ false → (ledger_after t ledger lines).refused ≡ ledger.refused + count_refused (tasks_of t ledger lines)
refused_after t ledger [] h = omega arith
refused_after t ledger (l ∷ ls) h =
    let parts = or_parts (is_commit l) (list_any is_commit ls) h in
    omega (arith, refused_after t (step t ledger l).ledger ls parts.1, step_refused t ledger l parts.0, count_join (option_to_list (step t ledger l).task) (tasks_of t (step t ledger l).ledger ls))

by_said_commit : (t : Plan) (ledger : Ledger) (s : Result Said LineFault) → is_commit_said s ≡ true → (by_said t ledger s).ledger ≡ record { number = ledger.number; refused = 0; changes = [] }
by_said_commit t ledger (Err fault) h = cc
by_said_commit t ledger (Ok (demand name number)) h = cc
by_said_commit t ledger (Ok (capacity name number)) h = cc
by_said_commit t ledger (Ok commit) h = refl
by_said_commit t ledger (Ok (ask addr digits)) h = cc
by_said_commit t ledger (Ok show) h = cc
by_said_commit t ledger (Ok stop) h = cc

-- Behind a commit line the ledger has no refused line and no changes, and each line was counted.
pub ledger_committed : (t : Plan) (ledger : Ledger) (lines : List (List ℕ)) (line : List ℕ) → is_commit line ≡ true → ledger_after t ledger (lines ++ line ∷ []) ≡ record { number = ledger.number + length lines + 1; refused = 0; changes = [] }
ledger_committed t ledger lines line h =
    ledger_more t ledger lines line
    ∙ committed (ledger_after t ledger lines)
    ∙ ap (λ n. record { number = n + 1; refused = 0; changes = [] }) (number_after t ledger lines)
  where
    committed : (d : Ledger) → (step t d line).ledger ≡ record { number = d.number + 1; refused = 0; changes = [] }
    committed d = unfold step in by_said_commit t (record d { number = d.number + 1 }) (line_of line) h

ledger_join : (t : Plan) (ledger : Ledger) (lines more : List (List ℕ)) → ledger_after t ledger (lines ++ more) ≡ ledger_after t (ledger_after t ledger lines) more
ledger_join t ledger [] more = refl
ledger_join t ledger (l ∷ ls) more = ledger_join t (step t ledger l).ledger ls more

ledger_behind : (t : Plan) (earlier : List (List ℕ)) (line : List ℕ) (later : List (List ℕ)) → ledger_after t fresh (earlier ++ line ∷ later) ≡ ledger_after t (ledger_after t fresh (earlier ++ line ∷ [])) later
ledger_behind t earlier line later = ap (ledger_after t fresh) (sym (append_assoc earlier (line ∷ []) later)) ∙ ledger_join t fresh (earlier ++ line ∷ []) later

-- A feed's ledger counts as many refused lines as there are tasks that refuse one since the last commit line.
pub refused_since : (t : Plan) (earlier : List (List ℕ)) (line : List ℕ) (later : List (List ℕ)) → is_commit line ≡ true → list_any is_commit later ≡ false
    → (ledger_after t fresh (earlier ++ line ∷ later)).refused ≡ count_refused (tasks_of t (ledger_after t fresh (earlier ++ line ∷ [])) later)
refused_since t earlier line later h none =
    let behind = ledger_after t fresh (earlier ++ line ∷ []) in
    let start : behind.refused ≡ 0 = ap (λ (d : Ledger). d.refused) (ledger_committed t fresh earlier line h) in
    ap (λ (d : Ledger). d.refused) (ledger_behind t earlier line later) ∙ omega (arith, refused_after t behind later none, start)

by_said_tells : (t : Plan) (ledger : Ledger) (s : Result Said LineFault) → is_commit_said s ≡ true → (by_said t ledger s).task ≡ Some (if ledger.refused == 0 then ended ledger.changes else spoiled ledger.refused)
by_said_tells t ledger (Err fault) h = cc
by_said_tells t ledger (Ok (demand name number)) h = cc
by_said_tells t ledger (Ok (capacity name number)) h = cc
by_said_tells t ledger (Ok commit) h = refl
by_said_tells t ledger (Ok (ask addr digits)) h = cc
by_said_tells t ledger (Ok show) h = cc
by_said_tells t ledger (Ok stop) h = cc

-- A commit line, behind others and a ledger without refused lines: where no task refuses one of them the batch ends, and else it tells how many do.
pub commit_tells : (t : Plan) (ledger : Ledger) (lines : List (List ℕ)) (line : List ℕ) → ledger.refused ≡ 0 → list_any is_commit lines ≡ false → is_commit line ≡ true
    → (step t (ledger_after t ledger lines) line).task ≡ Some (if count_refused (tasks_of t ledger lines) == 0 then ended (ledger_after t ledger lines).changes else spoiled (count_refused (tasks_of t ledger lines)))
commit_tells t ledger lines line start none h =
    tells (ledger_after t ledger lines)
    ∙ ap (λ n. Some (if n == 0 then ended (ledger_after t ledger lines).changes else spoiled n)) count
  where
    tells : (d : Ledger) → (step t d line).task ≡ Some (if d.refused == 0 then ended d.changes else spoiled d.refused)
    tells d = unfold step in by_said_tells t (record d { number = d.number + 1 }) (line_of line) h

    count : (ledger_after t ledger lines).refused ≡ count_refused (tasks_of t ledger lines)
    count = omega (arith, refused_after t ledger lines none, start)

-- the change that a line asks for, where its name is known and its number in range
abbrev pub good_change : Plan → Result Said LineFault → List Change
good_change t (Ok (demand name number)) = option_to_list (result_ok (demand_change (number_in t.group_names name) number))
good_change t (Ok (capacity name number)) = option_to_list (result_ok (capacity_change (number_in t.node_names name) number))
good_change t _ = []

-- those of some lines
abbrev pub good_changes : Plan → List (List ℕ) → List Change
good_changes t [] = []
good_changes t (line ∷ lines) = good_change t (line_of line) ++ good_changes t lines

take_twice : {A : Type 0} (n : ℕ) (xs ys : List A) → take n (take n xs ++ ys) ≡ take n (xs ++ ys)
take_twice zero xs ys = refl
take_twice (suc n) [] ys = refl
take_twice (suc n) (x ∷ xs) ys = ap (λ zs. x ∷ zs) (take_twice n xs ys)

take_nothing_more : {A : Type 0} (n : ℕ) (xs : List A) → length xs ≤ n → xs ≡ take n (xs ++ [])
take_nothing_more n xs l = sym (ap (take n) (append-nil xs) ∙ take_all n xs l)

changed_more : (ledger : Ledger) (r : Result Change BatchFault) → length ledger.changes ≤ most_changes → (changed ledger (with_change ledger.changes r)).ledger.changes ≡ take most_changes (ledger.changes ++ option_to_list (result_ok r))
changed_more ledger (Err fault) l = take_nothing_more most_changes ledger.changes l
changed_more ledger (Ok change) l = go (nat_lt (length ledger.changes) most_changes) refl
  where
    go : (b : Bool) → nat_lt (length ledger.changes) most_changes ≡ b → (changed ledger (if b then Ok (ledger.changes ++ change ∷ []) else Err Full)).ledger.changes ≡ take most_changes (ledger.changes ++ change ∷ [])
    go true e = sym (take_all most_changes (ledger.changes ++ change ∷ []) (omega (arith, length-append ledger.changes (change ∷ []), ltb-true (length ledger.changes) most_changes e)))
    go false e = sym (take-append-le most_changes ledger.changes (change ∷ []) (ltb-false (length ledger.changes) most_changes e) ∙ take_all most_changes ledger.changes l)

by_said_more : (t : Plan) (ledger : Ledger) (s : Result Said LineFault) → length ledger.changes ≤ most_changes → is_commit_said s ≡ false → (by_said t ledger s).ledger.changes ≡ take most_changes (ledger.changes ++ good_change t s)
by_said_more t ledger (Err fault) l h = take_nothing_more most_changes ledger.changes l
by_said_more t ledger (Ok (demand name number)) l h = changed_more ledger (demand_change (number_in t.group_names name) number) l
by_said_more t ledger (Ok (capacity name number)) l h = changed_more ledger (capacity_change (number_in t.node_names name) number) l
by_said_more t ledger (Ok commit) l h = cc
by_said_more t ledger (Ok (ask addr digits)) l h = take_nothing_more most_changes ledger.changes l
by_said_more t ledger (Ok show) l h = take_nothing_more most_changes ledger.changes l
by_said_more t ledger (Ok stop) l h = take_nothing_more most_changes ledger.changes l

step_more : (t : Plan) (ledger : Ledger) (line : List ℕ) → length ledger.changes ≤ most_changes → is_commit line ≡ false → (step t ledger line).ledger.changes ≡ take most_changes (ledger.changes ++ good_change t (line_of line))
step_more t ledger line l h = unfold step in by_said_more t (record ledger { number = ledger.number + 1 }) (line_of line) l h

-- Of lines none of which says `commit`, the changes that they ask for come behind those in the ledger, up to as many as a batch has at most.
pub changes_after : (t : Plan) (ledger : Ledger) (lines : List (List ℕ)) → length ledger.changes ≤ most_changes → list_any is_commit lines ≡ false → (ledger_after t ledger lines).changes ≡ take most_changes (ledger.changes ++ good_changes t lines)
changes_after t ledger [] l none = take_nothing_more most_changes ledger.changes l
changes_after t ledger (line ∷ ls) l none =
    let parts = or_parts (is_commit line) (list_any is_commit ls) none in
    let first = step_more t ledger line l parts.0 in
    let few : length (step t ledger line).ledger.changes ≤ most_changes = omega (arith, ap length first, length-take most_changes (ledger.changes ++ good_change t (line_of line))) in
    changes_after t (step t ledger line).ledger ls few parts.1
    ∙ ap (λ xs. take most_changes (xs ++ good_changes t ls)) first
    ∙ take_twice most_changes (ledger.changes ++ good_change t (line_of line)) (good_changes t ls)
    ∙ ap (take most_changes) (append_assoc ledger.changes (good_change t (line_of line)) (good_changes t ls))

-- A feed's batch has the changes that the lines since the last commit line ask for, up to as many as it has at most.
pub changes_since : (t : Plan) (earlier : List (List ℕ)) (line : List ℕ) (later : List (List ℕ)) → is_commit line ≡ true → list_any is_commit later ≡ false
    → (ledger_after t fresh (earlier ++ line ∷ later)).changes ≡ take most_changes (good_changes t later)
changes_since t earlier line later h none =
    let start : (ledger_after t fresh (earlier ++ line ∷ [])).changes ≡ [] = ap (λ (d : Ledger). d.changes) (ledger_committed t fresh earlier line h) in
    ap (λ (d : Ledger). d.changes) (ledger_behind t earlier line later)
    ∙ changes_after t (ledger_after t fresh (earlier ++ line ∷ [])) later (omega (arith, ap length start)) none
    ∙ ap (λ xs. take most_changes (xs ++ good_changes t later)) start
