-- The feed of a big world says its batches: each of sixteen batches has four changes of groups and pools that there are.
use Rattle.std.proofs.Common.{◌≡◌, ◌≢◌, ℕ, zero, suc, ◌+◌, ◌^◌, ◌<◌, ◌≤◌, ◌==◌, ◌||◌, Bool, true, false, cond, nat_le, nat_lt, List, [], ◌∷◌, ◌++◌, length, map, codes, refl, ap, sym, ◌∙◌, arith}
use Rattle.std.specs.Prelude.{None, Some, Ok, Err}
use Rattle.std.proofs.lemmas.Bool.{and_from}
use Rattle.std.proofs.lemmas.Bool.Decides.{nat_tests}
use Rattle.std.proofs.lemmas.List.Elements.{All-from_recursion}
use Rattle.std.proofs.lemmas.List.FromFn.{length-map-range_with_len, map-range_with_len_more}
use Rattle.std.proofs.lemmas.Simd.{map-map}
use Rattle.std.specs.List.{All, AllByRecursion, list_any, range_with_len}
use Rattle.std.specs.Option.{option_to_list}
use Rattle.map_model.specs.declared.change.Change.{Change}
use Rattle.map_model.specs.declared.change.Change.TheVariants.{Demand, Capacity}
use Rattle.addr_text.proofs.Splits.{Lacks}
use Rattle.text_parts.specs.Parts.{whole_lines}
use Rattle.topology_text.specs.Plan.{Plan, number_in}
use Rattle.demand_feed.specs.Batch.{capacity_change, demand_change, with_capacity, with_change, with_demand}
use Rattle.demand_feed.specs.Limits.{most_changes}
use Rattle.demand_feed.specs.Line.{line_of}
use Rattle.demand_feed.specs.declared.fault.BatchFault.TheVariants.{Full, Range}
use Rattle.demand_feed.specs.Task.{Ledger, Task, Step, batch, by_said, changed, ledger_after, fresh, has_stop, is_stop, is_stop_said, tasks, tasks_of, step}
use Rattle.demand_feed.proofs.Tasks.{tasks_join, tasks_stop, no_stop_none}
use Rattle.big_world.specs.declared.TheConstants.{LARGEST_WORLD}
use Rattle.big_world.specs.Feed.{batch_text, behind_batch, behind_change, capacity_text, change_text, demand_text, feed_of}
use Rattle.big_world.specs.Numbers.{behind, draw}
use Rattle.big_world.specs.Pieces.{ahead, texts_below}
use Rattle.big_world.specs.Topology.{ahead_of_feed, group_name, line, pool_name, regions_of}
use Rattle.big_world.proofs.Values.{draw_below}
use Rattle.big_world_read.specs.Read.{batches_of, change_at, changes_at, pool_node}
use Rattle.big_world_read.proofs.Lines.{capacity_lacks, capacity_line, capacity_says, commit_said, demand_lacks, demand_line, demand_says, ended, ended-append, stop_said, whole_lines-ended}
use Rattle.big_world_read.proofs.Numbered.{all_append}

-- what a line of the feed says, drawn behind x, and the lines of a batch
abbrev demand_at : ℕ → ℕ → List ℕ
demand_at n x = demand_line (draw x 1 n) (1 + draw x 2 15)

abbrev capacity_at : ℕ → ℕ → List ℕ
capacity_at n x = capacity_line (draw x 1 (regions_of n)) (draw x 2 4) (draw x 3 30)

abbrev line_at : ℕ → ℕ → List ℕ
line_at n x = cond (draw x 1 2 == 0) (demand_at n (behind x 1)) (capacity_at n (behind x 1))

abbrev lines_at : ℕ → ℕ → List (List ℕ)
lines_at n x = line_at n x ∷ line_at n (ahead behind_change x 1) ∷ line_at n (ahead behind_change x 2) ∷ line_at n (ahead behind_change x 3) ∷ codes "commit" ∷ []

-- lines that are made piece by piece
abbrev lines_below : (ℕ → List (List ℕ)) → ℕ → List (List ℕ)
lines_below lines zero = []
lines_below lines (suc k) = lines_below lines k ++ lines k

texts_are : (text : ℕ → List ℕ) (lines : ℕ → List (List ℕ)) → ((i : ℕ) → text i ≡ ended (lines i)) → (k : ℕ) → texts_below text k ≡ ended (lines_below lines k)
texts_are text lines each zero = refl
texts_are text lines each (suc k) =
    ap (λ xs. xs ++ text k) (texts_are text lines each k) ∙ ap (λ xs. ended (lines_below lines k) ++ xs) (each k) ∙ sym (ended-append (lines_below lines k) (lines k))

-- the text of a line
change_is : (n x : ℕ) → change_text n x ≡ line (line_at n x)
unfolding change_text
change_is n x = go (draw x 1 2 == 0)
  where
    go : (b : Bool) → cond b (demand_text n (behind x 1)) (capacity_text n (behind x 1)) ≡ line (cond b (demand_at n (behind x 1)) (capacity_at n (behind x 1)))
    go true = refl
    go false = refl

-- the text of a batch, and of the feed
batch_is : (n x : ℕ) → batch_text n x ≡ ended (lines_at n x)
unfolding batch_text
batch_is n x =
    ap (λ xs. xs ++ line (codes "commit")) (texts_are (λ i. change_text n (ahead behind_change x i)) (λ i. line_at n (ahead behind_change x i) ∷ []) (λ i. change_is n (ahead behind_change x i)) 4)
    ∙ sym (ended-append (line_at n x ∷ line_at n (ahead behind_change x 1) ∷ line_at n (ahead behind_change x 2) ∷ line_at n (ahead behind_change x 3) ∷ []) (codes "commit" ∷ []))

-- the lines of the first k batches behind x
abbrev lines_of_batches : ℕ → ℕ → ℕ → List (List ℕ)
lines_of_batches n x k = lines_below (λ i. lines_at n (ahead behind_batch x i)) k

feed_is : (n : ℕ) → feed_of n ≡ ended (lines_of_batches n (ahead_of_feed n) 16 ++ codes "stop" ∷ [])
feed_is n =
    ap (λ xs. xs ++ line (codes "stop")) (texts_are (λ i. batch_text n (ahead behind_batch (ahead_of_feed n) i)) (λ i. lines_at n (ahead behind_batch (ahead_of_feed n) i)) (λ i. batch_is n (ahead behind_batch (ahead_of_feed n) i)) 16)
    ∙ sym (ended-append (lines_of_batches n (ahead_of_feed n) 16) (codes "stop" ∷ []))

-- what holds of every size of a world
few_regions : (n : ℕ) → n ≤ LARGEST_WORLD → regions_of n < 100000
few_regions n most = omega arith

-- a line ends at its LF alone, and doesn't say stop
record IsFine (line : List ℕ) : Type 0 where
  lacks : Lacks 10 line
  goes_on : is_stop line ≡ false

demand_fine : (a b : ℕ) → a < 100000 → b < 100000 → IsFine (demand_line a b)
demand_fine a b low_a low_b = record { lacks = demand_lacks a b low_a low_b; goes_on = ap is_stop_said (demand_says a b low_a low_b) }

capacity_fine : (i j c : ℕ) → i < 100000 → j < 100000 → c < 100000 → IsFine (capacity_line i j c)
capacity_fine i j c low_i low_j low_c = record { lacks = capacity_lacks i j c low_i low_j low_c; goes_on = ap is_stop_said (capacity_says i j c low_i low_j low_c) }

line_fine : (n x : ℕ) → 1 ≤ n → n ≤ LARGEST_WORLD → IsFine (line_at n x)
line_fine n x some most = go (draw x 1 2 == 0)
  where
    go : (b : Bool) → IsFine (cond b (demand_at n (behind x 1)) (capacity_at n (behind x 1)))
    go true =
        let y = behind x 1 in
        demand_fine (draw y 1 n) (1 + draw y 2 15) (omega (arith, draw_below y 1 n (omega arith))) (omega (arith, draw_below y 2 15 (omega arith)))
    go false =
        let y = behind x 1 in
        capacity_fine (draw y 1 (regions_of n)) (draw y 2 4) (draw y 3 30) (omega (arith, draw_below y 1 (regions_of n) (omega arith), few_regions n most)) (omega (arith, draw_below y 2 4 (omega arith))) (omega (arith, draw_below y 3 30 (omega arith)))

batch_fine : (n x : ℕ) → 1 ≤ n → n ≤ LARGEST_WORLD → AllByRecursion IsFine (lines_at n x)
batch_fine n x some most =
    let fine = λ (y : ℕ). line_fine n y some most in
    (fine x, (fine (ahead behind_change x 1), (fine (ahead behind_change x 2), (fine (ahead behind_change x 3), (record { lacks = commit_said.lacks; goes_on = ap is_stop_said commit_said.says }, tt)))))

batches_fine : (n x k : ℕ) → 1 ≤ n → n ≤ LARGEST_WORLD → AllByRecursion IsFine (lines_of_batches n x k)
batches_fine n x zero some most = tt
batches_fine n x (suc k) some most =
    all_append IsFine (lines_of_batches n x k) (lines_at n (ahead behind_batch x k)) (batches_fine n x k some most) (batch_fine n (ahead behind_batch x k) some most)

all_lack : (lines : List (List ℕ)) → AllByRecursion IsFine lines → AllByRecursion (Lacks 10) (lines ++ codes "stop" ∷ [])
all_lack [] are = (stop_said.lacks, tt)
all_lack (l ∷ ls) are = (are.0.lacks, all_lack ls are.1)

none_stops : (lines : List (List ℕ)) → AllByRecursion IsFine lines → has_stop lines ≡ false
none_stops [] are = no_stop_none
none_stops (l ∷ ls) are = next l ls are.0.goes_on (none_stops ls are.1)
  where
    next : (first : List ℕ) (others : List (List ℕ)) → is_stop first ≡ false → has_stop others ≡ false → has_stop (first ∷ others) ≡ false
    next first others goes_on none = unfold has_stop in ap (λ b. b || list_any is_stop others) goes_on ∙ none

-- the lines of the feed are those of its batches, and stop
pub lines_are : (n : ℕ) → 1 ≤ n → n ≤ LARGEST_WORLD → whole_lines (feed_of n) ≡ lines_of_batches n (ahead_of_feed n) 16 ++ codes "stop" ∷ []
lines_are n some most =
    ap whole_lines (feed_is n) ∙ whole_lines-ended (lines_of_batches n (ahead_of_feed n) 16 ++ codes "stop" ∷ []) (all_lack (lines_of_batches n (ahead_of_feed n) 16) (batches_fine n (ahead_of_feed n) 16 some most))

-- the names of the groups and of the pools have their numbers
abbrev pub KnowsGroups : Plan → ℕ → Type 0
KnowsGroups t n = (i : ℕ) → i < n → number_in t.group_names (group_name i) ≡ Some i

abbrev pub KnowsPools : Plan → ℕ → Type 0
KnowsPools t n = (i j : ℕ) → i < regions_of n → j < 4 → number_in t.node_names (pool_name i j) ≡ Some (pool_node i j)

-- what a line with a change does to a ledger
abbrev with_one : Ledger → Change → Step
with_one ledger change = record { task = None; ledger = record { number = ledger.number + 1; refused = ledger.refused; changes = ledger.changes ++ change ∷ [] } }

-- a batch with room takes a change
takes : (changes : List Change) (change : Change) → length changes < 4096 → with_change changes (Ok change) ≡ Ok (changes ++ change ∷ [])
takes changes change room =
    let few : nat_lt (length changes) most_changes ≡ true = grind (arith, nat_tests) in
    ap (λ b. cond b (Ok (changes ++ change ∷ [])) (Err Full)) few

takes_demand : (t : Plan) (changes : List Change) (g number : ℕ) → number_in t.group_names (group_name g) ≡ Some g → 1 ≤ number → number < 100 → length changes < 4096
    → with_demand t changes (group_name g) number ≡ Ok (changes ++ Demand (record { 0 = g }) number ∷ [])
takes_demand t changes g number known some low room =
    let least : nat_le 1 number ≡ true = grind (arith, nat_tests) in
    let most : nat_lt number (2 ^ 32) ≡ true = grind (arith, nat_tests) in
    ap (λ o. with_change changes (demand_change o number)) known
    ∙ ap (λ b. with_change changes (cond b (Ok (Demand (record { 0 = g }) number)) (Err Range))) (and_from (nat_le 1 number) (nat_lt number (2 ^ 32)) least most)
    ∙ takes changes (Demand (record { 0 = g }) number) room

takes_capacity : (t : Plan) (changes : List Change) (name : List ℕ) (p number : ℕ) → number_in t.node_names name ≡ Some p → number < 100 → length changes < 4096
    → with_capacity t changes name number ≡ Ok (changes ++ Capacity (record { 0 = p }) number ∷ [])
takes_capacity t changes name p number known low room =
    let most : nat_le number (2 ^ 48) ≡ true = grind (arith, nat_tests) in
    ap (λ o. with_change changes (capacity_change o number)) known
    ∙ ap (λ b. with_change changes (cond b (Ok (Capacity (record { 0 = p }) number)) (Err Range))) most
    ∙ takes changes (Capacity (record { 0 = p }) number) room

-- a line of the feed adds its change
line_takes : (t : Plan) (n x : ℕ) (ledger : Ledger) → 1 ≤ n → n ≤ LARGEST_WORLD → KnowsGroups t n → KnowsPools t n → length ledger.changes < 4096 → step t ledger (line_at n x) ≡ with_one ledger (change_at n x)
unfolding step change_at
line_takes t n x ledger some most groups pools room = go (draw x 1 2 == 0)
  where
    go : (b : Bool) → by_said t (record ledger { number = ledger.number + 1 }) (line_of (cond b (demand_at n (behind x 1)) (capacity_at n (behind x 1))))
        ≡ with_one ledger (cond b (Demand (record { 0 = draw (behind x 1) 1 n }) (1 + draw (behind x 1) 2 15)) (Capacity (record { 0 = pool_node (draw (behind x 1) 1 (regions_of n)) (draw (behind x 1) 2 4) }) (draw (behind x 1) 3 30)))
    go true =
        let y = behind x 1 in
        let group = draw_below y 1 n (omega arith) in
        let amount = draw_below y 2 15 (omega arith) in
        ap (by_said t (record ledger { number = ledger.number + 1 })) (demand_says (draw y 1 n) (1 + draw y 2 15) (omega arith) (omega arith))
        ∙ ap (changed (record ledger { number = ledger.number + 1 })) (takes_demand t ledger.changes (draw y 1 n) (1 + draw y 2 15) (groups (draw y 1 n) group) (omega arith) (omega arith) room)
    go false =
        let y = behind x 1 in
        let region = draw_below y 1 (regions_of n) (omega arith) in
        let pool = draw_below y 2 4 (omega arith) in
        let amount = draw_below y 3 30 (omega arith) in
        let few = few_regions n most in
        ap (by_said t (record ledger { number = ledger.number + 1 })) (capacity_says (draw y 1 (regions_of n)) (draw y 2 4) (draw y 3 30) (omega arith) (omega arith) (omega arith))
        ∙ ap (changed (record ledger { number = ledger.number + 1 })) (takes_capacity t ledger.changes (pool_name (draw y 1 (regions_of n)) (draw y 2 4)) (pool_node (draw y 1 (regions_of n)) (draw y 2 4)) (draw y 3 30) (pools (draw y 1 (regions_of n)) (draw y 2 4) region pool) (omega arith) room)

-- a ledger between two batches, behind that many lines
abbrev clean : ℕ → Ledger
clean m = record { number = m; refused = 0; changes = [] }

commit_ends : (t : Plan) (m : ℕ) (change : Change) (changes : List Change) → step t (record { number = m; refused = 0; changes = change ∷ changes }) (codes "commit") ≡ record { task = Some (batch (change ∷ changes)); ledger = clean (m + 1) }
unfolding step
commit_ends t m change changes = ap (by_said t (record { number = m + 1; refused = 0; changes = change ∷ changes })) commit_said.says

-- what comes of some lines, and the ledger behind them
record ReadsAs (t : Plan) (ledger : Ledger) (lines : List (List ℕ)) (come : List Task) (after : Ledger) : Type 0 where
  come_is : tasks_of t ledger lines ≡ come
  after_is : ledger_after t ledger lines ≡ after

none_come : (t : Plan) (ledger : Ledger) → ReadsAs t ledger [] [] ledger
none_come t ledger = record { come_is = refl; after_is = refl }

comes_next : (t : Plan) (ledger : Ledger) (line : List ℕ) (s : Step) (lines : List (List ℕ)) (come : List Task) (after : Ledger) → step t ledger line ≡ s → ReadsAs t s.ledger lines come after → ReadsAs t ledger (line ∷ lines) (option_to_list s.task ++ come) after
comes_next t ledger line s lines come after e rest = record {
  come_is = ap (λ (u : Step). option_to_list u.task ++ tasks_of t u.ledger lines) e ∙ ap (λ is. option_to_list s.task ++ is) rest.come_is;
  after_is = ap (λ (u : Step). ledger_after t u.ledger lines) e ∙ rest.after_is;
}

ledger_join : (t : Plan) (ledger : Ledger) (lines more : List (List ℕ)) → ledger_after t ledger (lines ++ more) ≡ ledger_after t (ledger_after t ledger lines) more
ledger_join t ledger [] more = refl
ledger_join t ledger (l ∷ ls) more = ledger_join t (step t ledger l).ledger ls more

comes_join : (t : Plan) (ledger middle after : Ledger) (lines more : List (List ℕ)) (come later : List Task) → ReadsAs t ledger lines come middle → ReadsAs t middle more later after → ReadsAs t ledger (lines ++ more) (come ++ later) after
comes_join t ledger middle after lines more come later first second = record {
  come_is =
      tasks_join t ledger lines more
      ∙ ap (λ is. is ++ tasks_of t (ledger_after t ledger lines) more) first.come_is
      ∙ ap (λ (d : Ledger). come ++ tasks_of t d more) first.after_is
      ∙ ap (λ is. come ++ is) second.come_is;
  after_is = ledger_join t ledger lines more ∙ ap (λ (d : Ledger). ledger_after t d more) first.after_is ∙ second.after_is;
}

-- what comes of the lines of a batch
batch_comes : (t : Plan) (n x m : ℕ) → 1 ≤ n → n ≤ LARGEST_WORLD → KnowsGroups t n → KnowsPools t n → ReadsAs t (clean m) (lines_at n x) (batch (changes_at n x) ∷ []) (clean (m + 1 + 1 + 1 + 1 + 1))
batch_comes t n x m some most groups pools =
    let x1 = ahead behind_change x 1 in
    let x2 = ahead behind_change x 2 in
    let x3 = ahead behind_change x 3 in
    let c0 = change_at n x in
    let c1 = change_at n x1 in
    let c2 = change_at n x2 in
    let c3 = change_at n x3 in
    let d0 = clean m in
    let d1 = (with_one d0 c0).ledger in
    let d2 = (with_one d1 c1).ledger in
    let d3 = (with_one d2 c2).ledger in
    let after = clean (m + 1 + 1 + 1 + 1 + 1) in
    let done = batch (c0 ∷ c1 ∷ c2 ∷ c3 ∷ []) ∷ [] in
    comes_next t d0 (line_at n x) (with_one d0 c0) (line_at n x1 ∷ line_at n x2 ∷ line_at n x3 ∷ codes "commit" ∷ []) done after (line_takes t n x d0 some most groups pools (omega arith)) (
    comes_next t d1 (line_at n x1) (with_one d1 c1) (line_at n x2 ∷ line_at n x3 ∷ codes "commit" ∷ []) done after (line_takes t n x1 d1 some most groups pools (omega arith)) (
    comes_next t d2 (line_at n x2) (with_one d2 c2) (line_at n x3 ∷ codes "commit" ∷ []) done after (line_takes t n x2 d2 some most groups pools (omega arith)) (
    comes_next t d3 (line_at n x3) (with_one d3 c3) (codes "commit" ∷ []) done after (line_takes t n x3 d3 some most groups pools (omega arith)) (
    comes_next t (with_one d3 c3).ledger (codes "commit") (record { task = Some (batch (c0 ∷ c1 ∷ c2 ∷ c3 ∷ [])); ledger = after }) [] [] after (commit_ends t (m + 1 + 1 + 1 + 1) c0 (c1 ∷ c2 ∷ c3 ∷ [])) (none_come t after)))))

-- what comes of the first k batches
batches_come : (t : Plan) (n x k : ℕ) → 1 ≤ n → n ≤ LARGEST_WORLD → KnowsGroups t n → KnowsPools t n → (m : ℕ) × ReadsAs t fresh (lines_of_batches n x k) (map (λ i. batch (changes_at n (ahead behind_batch x i))) (range_with_len 0 k)) (clean m)
batches_come t n x zero some most groups pools = (0, none_come t fresh)
batches_come t n x (suc k) some most groups pools =
    let first = batches_come t n x k some most groups pools in
    let m = first.0 in
    let f = λ (i : ℕ). batch (changes_at n (ahead behind_batch x i)) in
    let one : k + 1 ≡ suc k = omega arith in
    let all = comes_join t fresh (clean m) (clean (m + 1 + 1 + 1 + 1 + 1)) (lines_of_batches n x k) (lines_at n (ahead behind_batch x k)) (map f (range_with_len 0 k)) (f k ∷ []) first.1 (batch_comes t n (ahead behind_batch x k) m some most groups pools) in
    let longer : map f (range_with_len 0 k) ++ f k ∷ [] ≡ map f (range_with_len 0 (suc k)) = sym (map-range_with_len_more f 0 k k (omega arith)) ∙ ap (λ j. map f (range_with_len 0 j)) one in
    (m + 1 + 1 + 1 + 1 + 1, record { come_is = all.come_is ∙ longer; after_is = all.after_is })

-- the feed says its batches, where the names of the groups and of the pools have their numbers
pub batches : (t : Plan) (n : ℕ) → 1 ≤ n → n ≤ LARGEST_WORLD
    → ((i : ℕ) → i < n → number_in t.group_names (group_name i) ≡ Some i)
    → ((i j : ℕ) → i < regions_of n → j < 4 → number_in t.node_names (pool_name i j) ≡ Some (pool_node i j))
    → tasks t (whole_lines (feed_of n)) ≡ map batch (batches_of n)
batches t n some most groups pools =
    let x = ahead_of_feed n in
    let lines = lines_of_batches n x 16 in
    ap (tasks t) (lines_are n some most)
    ∙ tasks_stop t lines (codes "stop") [] (none_stops lines (batches_fine n x 16 some most)) (ap is_stop_said stop_said.says)
    ∙ (batches_come t n x 16 some most groups pools).1.come_is
    ∙ sym (map-map batch (λ i. changes_at n (ahead behind_batch x i)) (range_with_len 0 16))

-- there are sixteen, each of four changes
pub batches_count : (n : ℕ) → length (batches_of n) ≡ 16
batches_count n = length-map-range_with_len (λ k. changes_at n (ahead behind_batch (ahead_of_feed n) k)) 0 16

pub changes_count : (n x : ℕ) → length (changes_at n x) ≡ 4
changes_count n x = refl

each_some : (n x : ℕ) (ks : List ℕ) → AllByRecursion (λ changes. changes ≢ []) (map (λ k. changes_at n (ahead behind_batch x k)) ks)
each_some n x [] = tt
each_some n x (k ∷ ks) = ((λ none. omega (arith, changes_count n (ahead behind_batch x k), ap length none)), each_some n x ks)

pub batches_some : (n : ℕ) → All (λ changes. changes ≢ []) (batches_of n)
batches_some n = All-from_recursion (λ changes. changes ≢ []) (batches_of n) (each_some n (ahead_of_feed n) (range_with_len 0 16))
