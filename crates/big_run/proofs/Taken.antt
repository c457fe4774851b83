-- Lines of a feed that are taken one after another.
use Rattle.std.proofs.Common.{◌≡◌, ◌≢◌, ℕ, ◌≤◌, Bool, true, false, cond, List, [], ◌∷◌, ◌++◌, length, refl, ap, ◌∙◌, arith, ◌==◌}
use Rattle.std.specs.Prelude.{Option, None, Some}
use Rattle.std.specs.Option.{option_to_list}
use Rattle.std.proofs.lemmas.List.Splits.{length-slice_split}
use Rattle.text_parts.specs.Parts.{but_last, parts, whole_lines}
use Rattle.text_parts.proofs.Lines.{whole_are}
use Rattle.topology_text.specs.Plan.{Plan}
use Rattle.map_cell.specs.Ends.{PublisherState}
use Rattle.demand_feed.specs.Task.{Ledger, Task, fresh, is_stop, tasks, tasks_of, step, up_to_stop}
use Rattle.demand_feed.specs.Taking.{AllDo}
use Rattle.demand_feed.specs.declared.clerk.Next.{Next}
use Rattle.demand_feed.specs.declared.clerk.Next.TheVariants as next
use Rattle.demand_feed.specs.Clerk.{task_by}
use Rattle.map_model.specs.declared.change.Change.{Change}
use Rattle.big_run.specs.Publishing.{LinePublishes, TaskPublishes}
use Rattle.big_run.specs.Working.{IsLineTaken}

-- what comes of one line, and then of others
joined : (o : Option Task) (more : List Task) (a b last : PublisherState) → LinePublishes o a b → AllDo TaskPublishes more b last → AllDo TaskPublishes (option_to_list o ++ more) a last
joined None more a b last same all = rw same at all
joined (Some task) more a b last does all = (b, does, all)

-- a line that doesn't say stop, ahead of others
goes : (line : List ℕ) (lines : List (List ℕ)) → is_stop line ≡ false → up_to_stop (line ∷ lines) ≡ line ∷ up_to_stop lines
goes line lines calm = ap (λ b. cond b [] (line ∷ up_to_stop lines)) calm

pub taken : (t : Plan) (ledger after : Ledger) (line : List ℕ) (lines : List (List ℕ)) (a b last : PublisherState) → is_stop line ≡ false → after ≡ (step t ledger line).ledger → LinePublishes (step t ledger line).task a b
    → AllDo TaskPublishes (tasks_of t after (up_to_stop lines)) b last → AllDo TaskPublishes (tasks_of t ledger (up_to_stop (line ∷ lines))) a last
taken t ledger after line lines a b last calm is comes all =
    let rest = rw is at all in
    let whole = joined (step t ledger line).task (tasks_of t (step t ledger line).ledger (up_to_stop lines)) a b last comes rest in
    rw (goes line lines calm) whole

-- a line that says stop ends all
pub stops : (t : Plan) (ledger : Ledger) (line : List ℕ) (lines : List (List ℕ)) (a : PublisherState) → is_stop line ≡ true → AllDo TaskPublishes (tasks_of t ledger (up_to_stop (line ∷ lines))) a a
stops t ledger line lines a found =
    let none : up_to_stop (line ∷ lines) ≡ [] = ap (λ b. cond b [] (line ∷ up_to_stop lines)) found in
    rw none refl

front : (line : List ℕ) (ps : List (List ℕ)) → 1 ≤ length ps → but_last (line ∷ ps) ≡ line ∷ but_last ps
front line [] some = absurd (omega (arith, some))
front line (p ∷ ps) some = refl

-- the lines of a text from which one was cut
pub cut_off : (text line rest : List ℕ) → parts 10 text ≡ line ∷ parts 10 rest → but_last (parts 10 text) ≡ line ∷ but_last (parts 10 rest)
cut_off text line rest is = ap but_last is ∙ front line (parts 10 rest) (omega (arith, length-slice_split (λ b. b == 10) rest))

-- nothing comes of a line that ends no batch
pub nothing_by : (due : List Change) (n : Next) (a : PublisherState) → n ≢ next.Batch → LinePublishes (task_by due n) a a
nothing_by due next.Nothing a other = refl
nothing_by due next.Stop a other = refl
nothing_by due (next.Refused number why) a other = refl
nothing_by due next.Batch a other = absurd (other refl)
nothing_by due next.Empty a other = refl
nothing_by due (next.Spoiled lines) a other = refl
nothing_by due (next.Query addr octets) a other = refl
nothing_by due next.Totals a other = refl

-- a line that isn't found to say stop doesn't
pub calm : (line : List ℕ) → ¬ (is_stop line ≡ true) → is_stop line ≡ false
calm line not_found = go (is_stop line) not_found
  where
    go : (b : Bool) → ¬ (b ≡ true) → b ≡ false
    go true other = absurd (other refl)
    go false other = refl

-- behind a line that ends the feed nothing was done
pub ended : (t : Plan) (line : List ℕ) (goes_on : Bool) (ledger after : Ledger) (a b : PublisherState) → goes_on ≡ false → IsLineTaken t line goes_on ledger after a b → (is_stop line ≡ true) × (b ≡ a)
ended t line true ledger after a b h taken = absurd cc
ended t line false ledger after a b h taken = taken

-- behind another line what comes of it was done
pub went_on : (t : Plan) (line : List ℕ) (goes_on : Bool) (ledger after : Ledger) (a b : PublisherState) → goes_on ≡ true → IsLineTaken t line goes_on ledger after a b → (is_stop line ≡ false) × (after ≡ (step t ledger line).ledger) × LinePublishes (step t ledger line).task a b
went_on t line true ledger after a b h taken = taken
went_on t line false ledger after a b h taken = absurd cc

-- the tasks of all lines, from the first on
pub from_first : (t : Plan) (feed : List ℕ) (ledger : Ledger) (a b : PublisherState) → ledger ≡ fresh → AllDo TaskPublishes (tasks_of t ledger (up_to_stop (but_last (parts 10 feed)))) a b → AllDo TaskPublishes (tasks t (whole_lines feed)) a b
from_first t feed ledger a b is all =
    let fresh_all = rw is at all in
    let shown : AllDo TaskPublishes (tasks_of t fresh (up_to_stop (whole_lines feed))) a b = rw (whole_are feed) fresh_all in
    unfold tasks in shown
