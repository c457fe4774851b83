-- Laws of a file of changes: what it says is what its lines ask for, one by one, up to the first that is refused.
use Rattle.std.proofs.Common.{◌≡◌, ℕ, ◌+◌, ◌<◌, ◌≤◌, Bool, true, false, if◌then◌else◌, List, [], ◌∷◌, ◌++◌, length, map, append_assoc, append-nil, length-append, ap, ap₂, sym, subst, ◌∙◌, refl, arith, nat_lt}
use Rattle.std.specs.Prelude.{◌↔◌, Result, Ok, Err}
use Rattle.std.proofs.lemmas.Bool.{lt-ltb, ltb-false, ltb-true}
use Rattle.std.proofs.lemmas.List.{map-append}
use Rattle.map_model.specs.declared.change.Change.{Change}
use Rattle.topology_text.specs.Plan.{Plan, number_in}
use Rattle.demand_feed.specs.Batch.{capacity_change, demand_change, with_change}
use Rattle.demand_feed.specs.Changes.{change_line_of, changes_behind, changes_of, onward, refused_as, with_said}
use Rattle.demand_feed.specs.Saying.{AskFor, FileSays, IsRefusedAt, IsWhy, LinesSay, change_at, change_said, of_batch}
use Rattle.demand_feed.specs.Limits.{most_changes}
use Rattle.demand_feed.specs.Line.{Said, ask, capacity, commit, demand, show, stop}
use Rattle.demand_feed.specs.Lines.{lines_of}
use Rattle.demand_feed.specs.declared.fault.LineFault.{LineFault}
use Rattle.demand_feed.specs.declared.fault.BatchFault.{BatchFault}
use Rattle.demand_feed.specs.declared.fault.BatchFault.TheVariants.{Full}
use Rattle.demand_feed.specs.declared.fault.Refusal.{Refusal}
use Rattle.demand_feed.specs.declared.fault.Refusal.TheVariants as refusal
use Rattle.demand_feed.specs.declared.changes.ChangesFault.{ChangesFault}
use Rattle.demand_feed.specs.declared.changes.ChangesFault.TheVariants.{Refused, NoMemory}
use Rattle.demand_feed.proofs.FileLines.{changes_are}

-- changes and the one that a line asks for
abbrev taken : List Change → Result Change Refusal → Result (List Change) Refusal
taken changes (Err why) = Err why
taken changes (Ok change) = if nat_lt (length changes) most_changes then Ok (changes ++ change ∷ []) else Err (refusal.Batch Full)

batch_taken : (changes : List Change) (r : Result Change BatchFault) → refused_as (with_change changes r) ≡ taken changes (of_batch r)
batch_taken changes (Err fault) = refl
batch_taken changes (Ok change) = go (nat_lt (length changes) most_changes)
  where
    go : (b : Bool) → refused_as (if b then Ok (changes ++ change ∷ []) else Err Full) ≡ (if b then Ok (changes ++ change ∷ []) else Err (refusal.Batch Full))
    go true = refl
    go false = refl

said_taken : (t : Plan) (changes : List Change) (s : Result Said LineFault) → with_said t changes s ≡ taken changes (change_said t s)
said_taken t changes (Err fault) = refl
said_taken t changes (Ok (demand name number)) = batch_taken changes (demand_change (number_in t.group_names name) number)
said_taken t changes (Ok (capacity name number)) = batch_taken changes (capacity_change (number_in t.node_names name) number)
said_taken t changes (Ok commit) = refl
said_taken t changes (Ok (ask addr digits)) = refl
said_taken t changes (Ok show) = refl
said_taken t changes (Ok stop) = refl

-- a line comes to what it asks for by itself, unless there are 4,096 changes
line_taken : (t : Plan) (changes : List Change) (line : List ℕ) → with_said t changes (change_line_of line) ≡ taken changes (change_at t line)
line_taken t changes line = said_taken t changes (change_line_of line)

fits : (changes : List Change) (r : Result Change Refusal) (change : Change) → r ≡ Ok change → length changes < most_changes → taken changes r ≡ Ok (changes ++ change ∷ [])
fits changes r change e room =
    ap (taken changes) e ∙ ap (λ b. if b then Ok (changes ++ change ∷ []) else Err (refusal.Batch Full)) (lt-ltb (length changes) most_changes room)

refuses : (changes : List Change) (r : Result Change Refusal) (why : Refusal) → IsWhy (length changes) r why → taken changes r ≡ Err why
refuses changes (Err fault) why h = ap Err (sym h)
refuses changes (Ok change) why h = ap (λ n. if nat_lt n most_changes then Ok (changes ++ change ∷ []) else Err (refusal.Batch Full)) h.0 ∙ ap Err (sym h.1)

-- one line more asks for its change
ask_more : (t : Plan) (done : List (List ℕ)) (changes : List Change) (line : List ℕ) (change : Change) → AskFor t done changes → change_at t line ≡ Ok change → AskFor t (done ++ line ∷ []) (changes ++ change ∷ [])
ask_more t done changes line change good e =
    map-append (change_at t) done (line ∷ []) ∙ ap₂ (λ xs x. xs ++ x ∷ []) good e ∙ sym (map-append Ok changes (change ∷ []))

-- a line behind those that are done, where what comes of all that follow it is known
one_more : (t : Plan) (all : List (List ℕ)) (n : ℕ) (done : List (List ℕ)) (line : List ℕ) (rest : List (List ℕ)) (changes : List Change) (r : Result Change Refusal)
    → all ≡ done ++ line ∷ rest → n ≡ length done → AskFor t done changes → length changes ≤ most_changes → change_at t line ≡ r
    → ((change : Change) → r ≡ Ok change → length changes < most_changes → LinesSay t all (changes_behind t (n + 1) rest (changes ++ change ∷ [])))
    → LinesSay t all (onward (changes_behind t (n + 1) rest) (n + 1) (taken changes r))
one_more t all n done line rest changes (Err fault) parts place good few e next = record {
  ahead = done;
  line = line;
  behind = rest;
  changes = changes;
  parts = parts;
  place = ap (λ k. k + 1) place;
  good = good;
  few = few;
  refused = subst (λ r. IsWhy (length changes) r fault) (sym e) refl;
}
one_more t all n done line rest changes (Ok change) parts place good few e next = go (nat_lt (length changes) most_changes) refl
  where
    go : (b : Bool) → nat_lt (length changes) most_changes ≡ b
        → LinesSay t all (onward (changes_behind t (n + 1) rest) (n + 1) (if b then Ok (changes ++ change ∷ []) else Err (refusal.Batch Full)))
    go true room = next change refl (ltb-true (length changes) most_changes room)
    go false room = record {
      ahead = done;
      line = line;
      behind = rest;
      changes = changes;
      parts = parts;
      place = ap (λ k. k + 1) place;
      good = good;
      few = few;
      refused = subst (λ r. IsWhy (length changes) r (refusal.Batch Full)) (sym e) (omega (arith, few, ltb-false (length changes) most_changes room), refl);
    }

said_behind : (t : Plan) (all : List (List ℕ)) (n : ℕ) (done rest : List (List ℕ)) (changes : List Change)
    → all ≡ done ++ rest → n ≡ length done → AskFor t done changes → length changes ≤ most_changes → LinesSay t all (changes_behind t n rest changes)
said_behind t all n done [] changes parts place good few = (ap (map (change_at t)) (parts ∙ append-nil done) ∙ good, few)
said_behind t all n done (line ∷ rest) changes parts place good few =
    let next : (change : Change) → change_at t line ≡ Ok change → length changes < most_changes → LinesSay t all (changes_behind t (n + 1) rest (changes ++ change ∷ []))
    = λ change e room. said_behind t all (n + 1) (done ++ line ∷ []) rest (changes ++ change ∷ []) (parts ∙ sym (append_assoc done (line ∷ []) rest)) (omega (arith, place, length-append done (line ∷ []))) (ask_more t done changes line change good e) (omega (arith, room, length-append changes (change ∷ []))) in
    subst (λ r. LinesSay t all (onward (changes_behind t (n + 1) rest) (n + 1) r)) (sym (line_taken t changes line)) (one_more t all n done line rest changes (change_at t line) parts place good few refl next)

lines_say : (t : Plan) (text : List ℕ) → LinesSay t (lines_of true text) (changes_of t text)
lines_say t text = subst (LinesSay t (lines_of true text)) (sym (changes_are t text)) (said_behind t (lines_of true text) 0 [] (lines_of true text) [] refl refl refl (omega arith))

-- lines that ask for changes, for which there is room, are taken
ahead_taken : (t : Plan) (n : ℕ) (ahead rest : List (List ℕ)) (changes more : List Change) → AskFor t ahead more → length changes + length more ≤ most_changes
    → changes_behind t n (ahead ++ rest) changes ≡ changes_behind t (n + length ahead) rest (changes ++ more)
ahead_taken t n [] rest changes [] good few = ap₂ (λ k xs. changes_behind t k rest xs) (omega arith) (sym (append-nil changes))
ahead_taken t n [] rest changes (c ∷ cs) good few = cc
ahead_taken t n (line ∷ lines) rest changes [] good few = cc
ahead_taken t n (line ∷ lines) rest changes (c ∷ cs) good few =
    let first : change_at t line ≡ Ok c = cc in
    let others : AskFor t lines cs = cc in
    ap (onward (changes_behind t (n + 1) (lines ++ rest)) (n + 1)) (line_taken t changes line ∙ fits changes (change_at t line) c first (omega (arith, few)))
    ∙ ahead_taken t (n + 1) lines rest (changes ++ c ∷ []) cs others (omega (arith, few, length-append changes (c ∷ [])))
    ∙ ap₂ (λ k xs. changes_behind t k rest xs) (omega arith) (append_assoc changes (c ∷ []) cs)

said_alone : (t : Plan) (lines : List (List ℕ)) (r : Result (List Change) ChangesFault) → LinesSay t lines r → changes_behind t 0 lines [] ≡ r
said_alone t lines (Ok changes) h = ap (λ ls. changes_behind t 0 ls []) (sym (append-nil lines)) ∙ ahead_taken t 0 lines [] [] changes h.0 (omega (arith, h.1))
said_alone t lines (Err (Refused number why)) h =
    let place : 0 + length h.ahead + 1 ≡ number = omega (arith, h.place) in
    ap (λ ls. changes_behind t 0 ls []) h.parts
    ∙ ahead_taken t 0 h.ahead (h.line ∷ h.behind) [] h.changes h.good (omega (arith, h.few))
    ∙ ap (onward (changes_behind t (0 + length h.ahead + 1) h.behind) (0 + length h.ahead + 1)) (line_taken t h.changes h.line ∙ refuses h.changes (change_at t h.line) why h.refused)
    ∙ ap (λ k. Err (Refused k why)) place
said_alone t lines (Err NoMemory) h = absurd h

lines_alone : (t : Plan) (text : List ℕ) (r : Result (List Change) ChangesFault) → LinesSay t (lines_of true text) r → changes_of t text ≡ r
lines_alone t text r h = changes_are t text ∙ said_alone t (lines_of true text) r h

answered_lines : (t : Plan) (text : List ℕ) (r : Result (List Change) ChangesFault) → changes_of t text ≡ r → LinesSay t (lines_of true text) r
answered_lines t text r e = subst (LinesSay t (lines_of true text)) e (lines_say t text)

-- What is answered is what the file says.
pub answered : (t : Plan) (text : List ℕ) (r : Result (List Change) ChangesFault) → changes_of t text ≡ r → FileSays t text r
answered t text r e = unfold FileSays in answered_lines t text r e

-- A file is good exactly where each of its lines asks for a change and there are at most 4,096 lines, and its changes are these, in order.
pub good_file : (t : Plan) (text : List ℕ) (changes : List Change) → (changes_of t text ≡ Ok changes) ↔ (AskFor t (lines_of true text) changes × (length changes ≤ most_changes))
good_file t text changes = (answered_lines t text (Ok changes), lines_alone t text (Ok changes))

-- A file is refused at a line exactly where those ahead of it ask for changes, at most 4,096 of them, and this one asks for none, or for one more than 4,096.
pub bad_file : (t : Plan) (text : List ℕ) (number : ℕ) (why : Refusal) → (changes_of t text ≡ Err (Refused number why)) ↔ IsRefusedAt t (lines_of true text) number why
bad_file t text number why = (answered_lines t text (Err (Refused number why)), lines_alone t text (Err (Refused number why)))
