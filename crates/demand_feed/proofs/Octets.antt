-- What a run that ended came to is what all octets of its feed come to.
use Rattle.std.proofs.Common.{◌≡◌, ◌⊎◌, inl, inr, ℕ, ◌<◌, ◌≤◌, Bool, true, false, ◌||◌, cond, List, [], ◌∷◌, ◌++◌, length, append_assoc, append-nil, refl, ap, sym, subst, ◌∙◌}
use Rattle.std.specs.Prelude.{Option, None, Some, IfSome}
use Rattle.std.specs.List.{concat}
use Rattle.text_parts.specs.Parts.{unfinished, whole_lines}
use Rattle.text_parts.proofs.Lines.{reading_begins, reading_whole}
use Rattle.outside.specs.Faults.{BothTell}
use Rattle.outside.specs.Source.{Fed}
use Rattle.topology_text.specs.Plan.{Plan}
use Rattle.demand_feed.specs.Task.{Task, fresh, has_stop, is_stop, tasks, tasks_of, up_to_stop}
use Rattle.demand_feed.specs.Lines.{last_line, lines_of}
use Rattle.demand_feed.specs.Octets.{Adds, Breaks, Has, MayHave}
use Rattle.demand_feed.specs.Runs.{HasRead, IsAll, IsOver, IsRun, StopsLast}
use Rattle.demand_feed.specs.Taking.{AllDo}
use Rattle.demand_feed.specs.declared.run.FeedEnd.TheVariants.{Ended}
use Rattle.demand_feed.proofs.Tasks.{has_stop_next, no_stop_none}

-- lines behind one that says stop aren't looked at
up_to_same : (lines more : List (List ℕ)) → has_stop lines ≡ true → up_to_stop (lines ++ more) ≡ up_to_stop lines
up_to_same [] more h = cc (h, no_stop_none)
up_to_same (l ∷ ls) more h = go (is_stop l) refl (up_to_same ls more)
  where
    go : (b : Bool) → is_stop l ≡ b → (has_stop ls ≡ true → up_to_stop (ls ++ more) ≡ up_to_stop ls) → cond b [] (l ∷ up_to_stop (ls ++ more)) ≡ cond b [] (l ∷ up_to_stop ls)
    go true e same = refl
    go false e same = ap (λ xs. l ∷ xs) (same (sym (has_stop_next l ls ∙ ap (λ b. b || has_stop ls) e) ∙ h))

tasks_same : (t : Plan) (lines more : List (List ℕ)) → has_stop lines ≡ true → tasks t (lines ++ more) ≡ tasks t lines
tasks_same t lines more h = unfold tasks in ap (tasks_of t fresh) (up_to_same lines more h)

-- nor are octets behind a whole line that says stop
pub tasks_stopped : (t : Plan) (bytes rest : List ℕ) → has_stop (whole_lines bytes) ≡ true → tasks t (lines_of false bytes) ≡ tasks t (lines_of true (bytes ++ rest))
tasks_stopped t bytes rest h =
    let whole = reading_whole (bytes ++ rest) (whole_lines bytes) (unfinished bytes) rest (reading_begins bytes rest) in
    let last = last_line (bytes ++ rest) in
    sym (ap (λ ls. tasks t (ls ++ last)) whole.1 ∙ ap (tasks t) (append_assoc (whole_lines bytes) whole.0 last) ∙ tasks_same t (whole_lines bytes) (whole.0 ++ last) h)

left_behind : (bytes : List ℕ) (before after : Option (List ℕ)) → BothTell before after (λ b a. b ≡ bytes ++ a) → (octets : List ℕ) × (rest : List ℕ) × IfSome before (λ left. left ≡ octets) × (octets ≡ bytes ++ rest) × (IfSome after (λ left. left ≡ []) → rest ≡ [])
left_behind bytes None after told = (bytes, [], tt, sym (append-nil bytes), λ over. refl)
left_behind bytes (Some held) None told = absurd told
left_behind bytes (Some held) (Some rest) told = (held, rest, refl, told, λ over. over)

-- all octets of a feed of which these pieces were read, and what is left of them
octets_of : (pieces : List (List ℕ)) (before after : Option Fed) → BothTell before after (HasRead pieces) → (octets : List ℕ) × (rest : List ℕ) × MayHave before octets × (octets ≡ concat pieces ++ rest) × (BothTell before after IsOver → rest ≡ [])
octets_of pieces None after told = (concat pieces, [], tt, sym (append-nil (concat pieces)), λ over. refl)
octets_of pieces (Some before) None told = absurd told
octets_of pieces (Some before) (Some after) told =
    let left = left_behind (concat pieces) before.left after.left told.left in
    (left.0, left.1, left.2, left.3, λ over. left.4 over.1)

-- Whatever is said of the tasks that a run came to which ended, is said of those of all octets of its feed.
pub ended_of_octets : (t : Plan) (turns : ℕ) (pieces : List (List ℕ)) (before after : Option Fed) (P : List Task → Type 0) → BothTell before after (HasRead pieces)
    → (StopsLast pieces × (length pieces ≤ turns) × P (tasks t (lines_of false (concat pieces)))) ⊎ (IsAll (concat pieces) before after × (length pieces < turns) × P (tasks t (lines_of true (concat pieces))))
    → (octets : List ℕ) × MayHave before octets × P (tasks t (lines_of true octets))
ended_of_octets t turns pieces before after P told (inl (stops, few, came)) =
    let all = octets_of pieces before after told in
    (all.0, all.2, subst P (tasks_stopped t (concat pieces) all.1 stops.1 ∙ ap (λ octets. tasks t (lines_of true octets)) (sym all.3)) came)
ended_of_octets t turns pieces before after P told (inr (whole, few, came)) =
    let all = octets_of pieces before after told in
    (all.0, all.2, subst P (ap (λ octets. tasks t (lines_of true octets)) (sym (all.3 ∙ ap (λ rest. concat pieces ++ rest) (all.4 whole.over) ∙ append-nil (concat pieces)))) came)

-- a feed that tells its octets has no others
pub octets_one : (fed : Option Fed) (octets others : List ℕ) → Has fed octets → MayHave fed others → others ≡ octets
octets_one None octets others has may = absurd has
octets_one (Some fed) octets others has may = sym (subst (λ left. IfSome left (λ x. x ≡ others)) has may)

all_added : (came before after : List Task) → AllDo Adds came before after → after ≡ before ++ came
all_added [] before after e = e ∙ sym (append-nil before)
all_added (task ∷ tasks) before after (mid, first, rest) = all_added tasks mid after rest ∙ ap (λ xs. xs ++ tasks) first ∙ append_assoc before (task ∷ []) tasks

pub came_of_octets : (t : Plan) (turns : ℕ) (before after : Option Fed) (came : List Task) → IsRun Adds Breaks t turns Ended before after [] came → (octets : List ℕ) × MayHave before octets × (came ≡ tasks t (lines_of true octets))
came_of_octets t turns before after came (pieces, told, ended) =
    let all = ended_of_octets t turns pieces before after (λ xs. AllDo Adds xs [] came) told ended in
    (all.0, all.1, all_added (tasks t (lines_of true all.0)) [] came all.2)

pub runs_one : (t : Plan) (turns others : ℕ) (a b c d : Option Fed) (octets : List ℕ) (came also : List Task) → Has a octets → Has c octets
    → IsRun Adds Breaks t turns Ended a b [] came → IsRun Adds Breaks t others Ended c d [] also → came ≡ also
runs_one t turns others a b c d octets came also x y run second =
    let one = came_of_octets t turns a b came run in
    let two = came_of_octets t others c d also second in
    let same : one.0 ≡ two.0 = octets_one a octets one.0 x one.1 ∙ sym (octets_one c octets two.0 y two.1) in
    one.2 ∙ ap (λ bytes. tasks t (lines_of true bytes)) same ∙ sym two.2
