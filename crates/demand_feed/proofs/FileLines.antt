-- The lines of a whole text, one after another.
use Rattle.std.proofs.Common.{◌≡◌, ℕ, ◌+◌, ◌==◌, cond, true, false, List, [], ◌∷◌, ◌++◌, length, refl, ap, ◌∙◌, arith}
use Rattle.std.specs.Prelude.{Result, Ok, Err}
use Rattle.map_model.specs.Batch.{IsBatch}
use Rattle.map_model.specs.Market.{Market}
use Rattle.map_model.specs.declared.change.Change.{Change}
use Rattle.text_parts.specs.Parts.{parts, unfinished, whole_lines}
use Rattle.text_parts.proofs.Lines.{unfinished_all, unfinished_first, whole_first, whole_none}
use Rattle.topology_text.specs.Plan.{Plan}
use Rattle.demand_feed.specs.Lines.{lines_of}
use Rattle.demand_feed.specs.Changes.{change_line_of, changes_behind, changes_of, onward, with_said}
use Rattle.demand_feed.specs.declared.changes.ChangesFault.{ChangesFault}
use Rattle.demand_feed.specs.declared.changes.ChangesFault.TheVariants.{Refused}
use Rattle.demand_feed.specs.declared.fault.Refusal.{Refusal}

-- a text that begins with a whole line
lines_first : (text line behind : List ℕ) → parts 10 text ≡ line ∷ parts 10 behind → lines_of true text ≡ line ∷ lines_of true behind
lines_first text line behind cut =
    ap (λ ls. ls ++ cond (length (unfinished text) == 0) [] (unfinished text ∷ [])) (whole_first text line behind cut)
    ∙ ap (λ rest. line ∷ whole_lines behind ++ cond (length rest == 0) [] (rest ∷ [])) (unfinished_first text line behind cut)

-- a text without a whole line
lines_last : (text : List ℕ) → parts 10 text ≡ text ∷ [] → lines_of true text ≡ cond (length text == 0) [] (text ∷ [])
lines_last text cut =
    ap (λ ls. ls ++ cond (length (unfinished text) == 0) [] (unfinished text ∷ [])) (whole_none text cut)
    ∙ ap (λ rest. cond (length rest == 0) [] (rest ∷ [])) (unfinished_all text cut)

-- a line is taken, and the rest is to be read
pub goes_on : (t : Plan) (n : ℕ) (rest line behind : List ℕ) (changes next : List Change) (all : Result (List Change) ChangesFault)
    → all ≡ changes_behind t n (lines_of true rest) changes → parts 10 rest ≡ line ∷ parts 10 behind → with_said t changes (change_line_of line) ≡ Ok next
    → all ≡ changes_behind t (n + 1) (lines_of true behind) next
goes_on t n rest line behind changes next all h cut taken =
    h ∙ ap (λ ls. changes_behind t n ls changes) (lines_first rest line behind cut) ∙ ap (onward (changes_behind t (n + 1) (lines_of true behind)) (n + 1)) taken

-- a line is refused
pub breaks_off : (t : Plan) (n : ℕ) (rest line behind : List ℕ) (changes : List Change) (why : Refusal) (all : Result (List Change) ChangesFault)
    → all ≡ changes_behind t n (lines_of true rest) changes → parts 10 rest ≡ line ∷ parts 10 behind → with_said t changes (change_line_of line) ≡ Err why
    → all ≡ Err (Refused (n + 1) why)
breaks_off t n rest line behind changes why all h cut taken =
    h ∙ ap (λ ls. changes_behind t n ls changes) (lines_first rest line behind cut) ∙ ap (onward (changes_behind t (n + 1) (lines_of true behind)) (n + 1)) taken

-- the last line, which no LF ends
last_line_left : (t : Plan) (n : ℕ) (rest : List ℕ) (changes : List Change) (all : Result (List Change) ChangesFault)
    → all ≡ changes_behind t n (lines_of true rest) changes → parts 10 rest ≡ rest ∷ [] → (length rest == 0) ≡ false
    → all ≡ onward (changes_behind t (n + 1) []) (n + 1) (with_said t changes (change_line_of rest))
last_line_left t n rest changes all h cut some =
    h ∙ ap (λ ls. changes_behind t n ls changes) (lines_last rest cut ∙ ap (λ b. cond b [] (rest ∷ [])) some)

pub ends_with : (t : Plan) (n : ℕ) (rest : List ℕ) (changes next : List Change) (all : Result (List Change) ChangesFault)
    → all ≡ changes_behind t n (lines_of true rest) changes → parts 10 rest ≡ rest ∷ [] → (length rest == 0) ≡ false → with_said t changes (change_line_of rest) ≡ Ok next → all ≡ Ok next
ends_with t n rest changes next all h cut some taken = last_line_left t n rest changes all h cut some ∙ ap (onward (changes_behind t (n + 1) []) (n + 1)) taken

pub breaks_last : (t : Plan) (n : ℕ) (rest : List ℕ) (changes : List Change) (why : Refusal) (all : Result (List Change) ChangesFault)
    → all ≡ changes_behind t n (lines_of true rest) changes → parts 10 rest ≡ rest ∷ [] → (length rest == 0) ≡ false → with_said t changes (change_line_of rest) ≡ Err why → all ≡ Err (Refused (n + 1) why)
breaks_last t n rest changes why all h cut some taken = last_line_left t n rest changes all h cut some ∙ ap (onward (changes_behind t (n + 1) []) (n + 1)) taken

pub ends_whole : (t : Plan) (n : ℕ) (rest : List ℕ) (changes : List Change) (all : Result (List Change) ChangesFault)
    → all ≡ changes_behind t n (lines_of true rest) changes → parts 10 rest ≡ rest ∷ [] → (length rest == 0) ≡ true → all ≡ Ok changes
ends_whole t n rest changes all h cut none = h ∙ ap (λ ls. changes_behind t n ls changes) (lines_last rest cut ∙ ap (λ b. cond b [] (rest ∷ [])) none)

pub changes_are : (t : Plan) (text : List ℕ) → changes_of t text ≡ changes_behind t 0 (lines_of true text) []
changes_are t text = unfold changes_of in refl

-- no changes are a batch
pub batch_none : (m : Market) → IsBatch m []
batch_none m = λ k d lt. absurd (omega (arith, lt))
