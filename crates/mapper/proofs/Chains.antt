-- Tasks one after another, and what is told behind them.
use Rattle.std.proofs.Common.{inl, inr, ℕ, List, [], ◌∷◌, refl, subst, sym}
use Rattle.std.specs.Prelude.{Option}
use Rattle.outside.specs.Source.{Fed}
use Rattle.topology_text.specs.Plan.{Plan}
use Rattle.demand_feed.specs.Task.{Task}
use Rattle.demand_feed.specs.Runs.{EndsBy}
use Rattle.demand_feed.specs.Taking.{AllDo, BrokeOff}
use Rattle.demand_feed.specs.declared.run.FeedEnd.{FeedEnd}
use Rattle.demand_feed.specs.declared.run.FeedEnd.TheVariants as ends
use Rattle.mapper.specs.Coming.{Cuts, Does}
use Rattle.mapper.specs.Control.{AllCome, Course, start}
use Rattle.mapper.specs.Feeding.{AllCame, HasEnded, WasCut}
use Rattle.mapper.specs.Scenes.{IsAt, Scene}
use Rattle.mapper.proofs.Courses.{starts_at}

-- from whatever course is told, tasks lead to another one
all_come : {X : Type 0} (does : Task → X → X → Type 0) (tell : X → Scene) → ((task : Task) (a b : X) → does task a b → Does task (tell a) (tell b))
    → (tasks : List Task) (a b : X) → AllDo does tasks a b → (before : Scene) (c : Course) → IsAt before c (tell a) → (d : Course) × AllCome tasks c d × IsAt before d (tell b)
all_come does tell f [] a b h before c at = (c, refl, subst (λ x. IsAt before c (tell x)) (sym h) at)
all_come does tell f (i ∷ is) a b h before c at =
    let first = f i a h.0 h.1 before c at in
    let rest = all_come does tell f is h.0 b h.2 before first.0 first.2 in
    (rest.0, (first.0, first.1, rest.1), rest.2)

pub all_came : {X : Type 0} (does : Task → X → X → Type 0) (tell : X → Scene) → ((task : Task) (a b : X) → does task a b → Does task (tell a) (tell b))
    → (tasks : List Task) (a b : X) → AllDo does tasks a b → AllCame tasks (tell a) (tell b)
all_came does tell f tasks a b h = all_come does tell f tasks a b h (tell a) (start (tell a).newest) (starts_at (tell a))

pub was_cut : {X : Type 0} (does cuts : Task → X → X → Type 0) (tell : X → Scene) → ((task : Task) (a b : X) → does task a b → Does task (tell a) (tell b))
    → ((task : Task) (a b : X) → cuts task a b → Cuts task (tell a) (tell b)) → (tasks : List Task) (a b : X) → BrokeOff does cuts tasks a b → WasCut tasks (tell a) (tell b)
was_cut does cuts tell f g tasks a b h =
    let at = all_came does tell f h.0 a h.3 h.5 in
    let cut = g h.1 h.3 b h.6 (tell a) at.0 at.2 in
    (h.0, h.1, h.2, at.0, cut.0, h.4, at.1, cut.1, cut.2)

-- how a run ended, by what is told
pub has_ended : {X : Type 0} (does cuts : Task → X → X → Type 0) (tell : X → Scene) → ((task : Task) (a b : X) → does task a b → Does task (tell a) (tell b))
    → ((task : Task) (a b : X) → cuts task a b → Cuts task (tell a) (tell b))
    → (end : FeedEnd) (t : Plan) (turns : ℕ) (pieces : List (List ℕ)) (fed then : Option Fed) (a b : X) → EndsBy does cuts end t turns pieces fed then a b → HasEnded end t turns pieces fed then (tell a) (tell b)
has_ended does cuts tell f g ends.Ended t turns pieces fed then a b (inl h) = inl (h.0, h.1, all_came does tell f _ a b h.2)
has_ended does cuts tell f g ends.Ended t turns pieces fed then a b (inr h) = inr (h.0, h.1, all_came does tell f _ a b h.2)
has_ended does cuts tell f g ends.SourceFault t turns pieces fed then a b h = (h.0, h.1, all_came does tell f _ a b h.2)
has_ended does cuts tell f g ends.Spent t turns pieces fed then a b h = (h.0, h.1, all_came does tell f _ a b h.2)
has_ended does cuts tell f g ends.NoMemory t turns pieces fed then a b h = absurd h
has_ended does cuts tell f g ends.SinkFault t turns pieces fed then a b (inl h) = inl (h.0, h.1, was_cut does cuts tell f g _ a b h.2)
has_ended does cuts tell f g ends.SinkFault t turns pieces fed then a b (inr h) = inr (h.0, h.1, was_cut does cuts tell f g _ a b h.2)
