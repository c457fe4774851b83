-- Lines that are worked, one line more.
use Rattle.std.proofs.Common.{◌≡◌, ◌≢◌, ℕ, ◌+◌, ◌≤◌, Bool, true, false, ◌==◌, cond, List, [], ◌∷◌, ◌++◌, append_assoc, refl, ap, sym, subst, ◌∙◌, arith}
use Rattle.std.specs.Prelude.{Option, None, Some, Result, Ok, Err}
use Rattle.std.specs.Option.{option_to_list}
use Rattle.map_model.specs.Market.{Market}
use Rattle.map_model.specs.declared.change.Change.{Change}
use Rattle.text_parts.specs.Parts.{parts, unfinished, whole_lines}
use Rattle.text_parts.proofs.Lines.{reading_begins, reading_cut, reading_ends, reading_whole}
use Rattle.topology_text.specs.Plan.{Plan}
use Rattle.demand_feed.specs.Batch.{with_capacity, with_demand}
use Rattle.demand_feed.specs.Clerk.{AreBatches, Clerking}
use Rattle.demand_feed.specs.Cutter.{GoesOn, front}
use Rattle.demand_feed.specs.Task.{Ledger, Task, Step, batch, by_said, changed, commit_line, ledger_after, ended, fresh, is_stop, tasks_of, spoiled, step}
use Rattle.demand_feed.specs.Line.{Said, ask, capacity, commit, demand, line_of, show, stop}
use Rattle.demand_feed.specs.Taking.{AllDo, HasTaken}
use Rattle.demand_feed.specs.Working.{HasFailed, InPiece, IsLineOf, IsReady, Reads, Stands}
use Rattle.demand_feed.specs.declared.fault.BatchFault.{BatchFault}
use Rattle.demand_feed.specs.declared.fault.LineFault.{LineFault}
use Rattle.demand_feed.specs.declared.takes.Taken.TheVariants as taken
use Rattle.demand_feed.proofs.Fronts.{front_none}
use Rattle.demand_feed.proofs.Tasks.{ledger_more, tasks_more, no_stop_more, step_front, step_number, stop_front}

-- one task more, if there is one
all_more : {X : Type 0} (does cuts : Task → X → X → Type 0) (tasks : List Task) (o : Option Task) (a b c : X) → AllDo does tasks a b → HasTaken does cuts taken.Done o b c → AllDo does (tasks ++ option_to_list o) a c
all_more does cuts [] None a b c h e = e ∙ h
all_more does cuts [] (Some task) a b c h e = (c, subst (λ x. does task x c) h e, refl)
all_more does cuts (i ∷ is) o a b c h e = (h.0, h.1, all_more does cuts is o h.0 b c h.2 e)

-- what the code took is what the whole line does
took : (t : Plan) (done : List (List ℕ)) (whole shown : List ℕ) (ledger : Ledger) (s : Step) → shown ≡ front whole → ledger ≡ ledger_after t fresh done → s ≡ step t ledger shown → s ≡ step t (ledger_after t fresh done) whole
took t done whole shown ledger s sh de e = e ∙ ap (step t ledger) sh ∙ step_front t ledger whole ∙ ap (λ k. step t k whole) de

-- the feed goes on
pub goes : {X : Type 0} (does cuts : Task → X → X → Type 0) (t : Plan) (before : X) (done : List (List ℕ)) (whole shown : List ℕ) (clerk after : Clerking) (now then : X) (o : Option Task)
    → shown ≡ front whole → Stands does t before done clerk now → record { task = o; ledger = after.ledger } ≡ step t clerk.ledger shown → is_stop shown ≡ false
    → HasTaken does cuts taken.Done o now then → Stands does t before (done ++ whole ∷ []) after then
goes does cuts t before done whole shown clerk after now then o sh s e calm f =
    let e' = took t done whole shown clerk.ledger (record { task = o; ledger = after.ledger }) sh s.0 e in (
      ap (λ (x : Step). x.ledger) e' ∙ sym (ledger_more t fresh done whole),
      no_stop_more done whole s.1 (sym (stop_front whole) ∙ sym (ap is_stop sh) ∙ calm),
      rw (tasks_more t fresh done whole, ← ap (λ (x : Step). x.task) e') (all_more does cuts (tasks_of t fresh done) o before now then s.2 f),
    )

-- a line that says stop leaves all as it is
pub stands_still : {X : Type 0} (does cuts : Task → X → X → Type 0) (t : Plan) (before : X) (done : List (List ℕ)) (clerk : Clerking) (now then : X) (o : Option Task) → Stands does t before done clerk now → o ≡ None
    → HasTaken does cuts taken.Done o now then → AllDo does (tasks_of t fresh done) before then
stands_still does cuts t before done clerk now then None s e f = subst (λ x. AllDo does (tasks_of t fresh done) before x) (sym f) s.2
stands_still does cuts t before done clerk now then (Some task) s e f = cc

-- a task was broken off
pub fails : {X : Type 0} (does cuts : Task → X → X → Type 0) (t : Plan) (before : X) (done : List (List ℕ)) (whole shown : List ℕ) (clerk after : Clerking) (now then : X) (o : Option Task)
    → shown ≡ front whole → Stands does t before done clerk now → record { task = o; ledger = after.ledger } ≡ step t clerk.ledger shown
    → HasTaken does cuts taken.Failed o now then → HasFailed does cuts t before done whole then
fails does cuts t before done whole shown clerk after now then None sh s e f = absurd f
fails does cuts t before done whole shown clerk after now then (Some task) sh s e f =
    let e' = took t done whole shown clerk.ledger (record { task = Some task; ledger = after.ledger }) sh s.0 e in
    (task, now, sym (ap (λ (x : Step). x.task) e'), s.2, f)

-- what is broken off is a task
pub failed_some : {X : Type 0} (does cuts : Task → X → X → Type 0) (o : Option Task) (now then : X) → HasTaken does cuts taken.Failed o now then → o ≢ None
failed_some does cuts None now then f e = absurd f
failed_some does cuts (Some task) now then f e = cc

-- a batch that ends is not empty
ended_some : (ledger : Ledger) (changes : List Change) → (commit_line ledger).task ≡ Some (batch changes) → changes ≢ []
ended_some ledger changes h e = go (ledger.refused == 0) ledger.changes h
  where
    go : (b : Bool) (cs : List Change) → Some (cond b (ended cs) (spoiled ledger.refused)) ≡ Some (batch changes) → ⊥
    go true [] h = cc
    go true (x ∷ xs) h = cc
    go false cs h = cc

changed_none : (ledger : Ledger) (r : Result (List Change) BatchFault) (changes : List Change) → (changed ledger r).task ≡ Some (batch changes) → ⊥
changed_none ledger (Ok cs) changes h = cc
changed_none ledger (Err fault) changes h = cc

said_some : (t : Plan) (ledger : Ledger) (s : Result Said LineFault) (changes : List Change) → (by_said t ledger s).task ≡ Some (batch changes) → changes ≢ []
said_some t ledger (Err fault) changes h e = cc
said_some t ledger (Ok (demand name number)) changes h e = changed_none ledger (with_demand t ledger.changes name number) changes h
said_some t ledger (Ok (capacity name number)) changes h e = changed_none ledger (with_capacity t ledger.changes name number) changes h
said_some t ledger (Ok commit) changes h e = ended_some ledger changes h e
said_some t ledger (Ok (ask addr digits)) changes h e = cc
said_some t ledger (Ok show) changes h e = cc
said_some t ledger (Ok stop) changes h e = cc

step_is : (t : Plan) (ledger : Ledger) (line : List ℕ) → step t ledger line ≡ by_said t (record ledger { number = ledger.number + 1 }) (line_of line)
step_is t ledger line = unfold step in refl

pub batch_some : (t : Plan) (ledger : Ledger) (line : List ℕ) (changes : List Change) → (step t ledger line).task ≡ Some (batch changes) → changes ≢ []
batch_some t ledger line changes h = said_some t (record ledger { number = ledger.number + 1 }) (line_of line) changes (ap (λ (x : Step). x.task) (sym (step_is t ledger line)) ∙ h)

-- one line fewer is left
pub ready_next : {X : Type 0} (market : X → Market) (left : X → ℕ) (t : Plan) (clerk after : Clerking) (now then : X) (n : ℕ) (shown : List ℕ) (o : Option Task)
    → record { task = o; ledger = after.ledger } ≡ step t clerk.ledger shown → (AreBatches t.market clerk → AreBatches t.market after)
    → market then ≡ market now → left now ≤ left then + 1 → IsReady market left t clerk now (n + 1) → IsReady market left t after then n
ready_next market left t clerk after now then n shown o e batches same room r =
    let number = ap (λ (x : Step). x.ledger.number) e ∙ step_number t clerk.ledger shown in
    (batches r.0, same ∙ r.1, omega (arith, number, r.2), omega (arith, room, r.3))

-- fewer lines are left
pub ready_less : {X : Type 0} (market : X → Market) (left : X → ℕ) (t : Plan) (clerk : Clerking) (now : X) (n m : ℕ) → n ≤ m → IsReady market left t clerk now m → IsReady market left t clerk now n
ready_less market left t clerk now n m h r = (r.0, r.1, omega (arith, h, r.2), omega (arith, h, r.3))

-- a piece begins
pub piece_begins : {X : Type 0} (does : Task → X → X → Type 0) (t : Plan) (before : X) (bytes piece kept : List ℕ) (clerk : Clerking) (now : X) → Reads does t before bytes kept clerk now → InPiece does t before (bytes ++ piece) piece kept clerk now
piece_begins does t before bytes piece kept clerk now r = (whole_lines bytes, unfinished bytes, reading_begins bytes piece, r.0, r.1)

-- a line of a piece ended, and the feed goes on
pub piece_goes : {X : Type 0} (does : Task → X → X → Type 0) (t : Plan) (before : X) (bytes rest ahead behind kept shown : List ℕ) (clerk after : Clerking) (now then : X) (p : InPiece does t before bytes rest kept clerk now)
    → parts 10 rest ≡ ahead ∷ parts 10 behind → GoesOn kept ahead shown
    → ((done : List (List ℕ)) (whole : List ℕ) → shown ≡ front whole → Stands does t before done clerk now → Stands does t before (done ++ whole ∷ []) after then)
    → InPiece does t before bytes behind [] after then
piece_goes does t before bytes rest ahead behind kept shown clerk after now then p cut on f =
    (p.0 ++ (p.1 ++ ahead) ∷ [], [], reading_cut bytes p.0 p.1 rest ahead behind p.2 cut, sym front_none, f p.0 (p.1 ++ ahead) (on p.1 p.3) p.4)

-- a line of a piece, where the feed ends
pub piece_line : {X : Type 0} (does : Task → X → X → Type 0) (t : Plan) (before : X) (bytes rest ahead behind kept : List ℕ) (clerk : Clerking) (now : X) (p : InPiece does t before bytes rest kept clerk now)
    → parts 10 rest ≡ ahead ∷ parts 10 behind → IsLineOf bytes p.0 (p.1 ++ ahead)
piece_line does t before bytes rest ahead behind kept clerk now p cut =
    let all = reading_whole bytes (p.0 ++ (p.1 ++ ahead) ∷ []) [] behind (reading_cut bytes p.0 p.1 rest ahead behind p.2 cut) in
    record { more = all.0; lines = all.1 ∙ append_assoc p.0 ((p.1 ++ ahead) ∷ []) all.0; stop = p.4.1 }

-- a piece ends
pub piece_ends : {X : Type 0} (does : Task → X → X → Type 0) (t : Plan) (before : X) (bytes rest kept shown : List ℕ) (clerk : Clerking) (now : X) → InPiece does t before bytes rest kept clerk now
    → parts 10 rest ≡ rest ∷ [] → GoesOn kept rest shown → Reads does t before bytes shown clerk now
piece_ends does t before bytes rest kept shown clerk now p cut on =
    let all = reading_ends bytes p.0 p.1 rest p.2 cut in
    (rw all.1 (on p.1 p.3), rw all.0 p.4)

-- a line that was not found to say stop
pub calm_by : (shown : List ℕ) → (is_stop shown ≡ true → ⊥) → is_stop shown ≡ false
calm_by shown f = go (is_stop shown) refl
  where
    go : (b : Bool) → is_stop shown ≡ b → is_stop shown ≡ false
    go true h = absurd (f h)
    go false h = h

-- what is said of the front of a line is said of the line
pub shown_says : (whole shown : List ℕ) (b : Bool) → shown ≡ front whole → is_stop shown ≡ b → is_stop whole ≡ b
shown_says whole shown b sh h = sym (stop_front whole) ∙ sym (ap is_stop sh) ∙ h
