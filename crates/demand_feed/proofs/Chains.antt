-- What holds from task to task holds of tasks one after another, and of a whole run.
use Rattle.std.proofs.Common.{◌≡◌, ◌≢◌, inl, inr, ℕ, List, [], ◌∷◌, refl, subst, sym, ap}
use Rattle.std.specs.Prelude.{IsSome, None, Option, Some}
use Rattle.outside.specs.Source.{Fed}
use Rattle.topology_text.specs.Plan.{Plan}
use Rattle.demand_feed.specs.Task.{Task}
use Rattle.demand_feed.specs.Runs.{EndsBy}
use Rattle.demand_feed.specs.Taking.{AllDo, BrokeOff, HasTaken}
use Rattle.demand_feed.specs.declared.takes.Taken.TheVariants as taken
use Rattle.demand_feed.specs.declared.run.FeedEnd.{FeedEnd}
use Rattle.demand_feed.specs.declared.run.FeedEnd.TheVariants as ends

-- what holds from task to task holds from the first to the last
pub all_keep : {X : Type 0} (does : Task → X → X → Type 0) (Keeps : X → X → Type 0) → ((a : X) → Keeps a a) → ((a b c : X) → Keeps a b → Keeps b c → Keeps a c) → ((task : Task) (a b : X) → does task a b → Keeps a b)
    → (tasks : List Task) (a b : X) → AllDo does tasks a b → Keeps a b
all_keep does Keeps rest join f [] a b h = subst (λ x. Keeps a x) (sym h) (rest a)
all_keep does Keeps rest join f (i ∷ is) a b h = join a h.0 b (f i a h.0 h.1) (all_keep does Keeps rest join f is h.0 b h.2)

-- what is broken off is a task
pub cut_by : {X : Type 0} (does cuts : Task → X → X → Type 0) (o : Option Task) (a b : X) → IsSome o → ((task : Task) → o ≡ Some task → cuts task a b) → HasTaken does cuts taken.Failed o a b
cut_by does cuts None a b some f = cc
cut_by does cuts (Some task) a b some f = f task refl

-- what holds from task to task, and of one that is broken off, holds of a run
pub ends_keep : {X : Type 0} (does cuts : Task → X → X → Type 0) (Keeps : X → X → Type 0) → ((a : X) → Keeps a a) → ((a b c : X) → Keeps a b → Keeps b c → Keeps a c) → ((task : Task) (a b : X) → does task a b → Keeps a b) → ((task : Task) (a b : X) → cuts task a b → Keeps a b)
    → (end : FeedEnd) (t : Plan) (turns : ℕ) (pieces : List (List ℕ)) (fed then : Option Fed) (a b : X) → EndsBy does cuts end t turns pieces fed then a b → Keeps a b
ends_keep does cuts Keeps rest join f g ends.Ended t turns pieces fed then a b (inl h) = all_keep does Keeps rest join f _ a b h.2
ends_keep does cuts Keeps rest join f g ends.Ended t turns pieces fed then a b (inr h) = all_keep does Keeps rest join f _ a b h.2
ends_keep does cuts Keeps rest join f g ends.SourceFault t turns pieces fed then a b h = all_keep does Keeps rest join f _ a b h.2
ends_keep does cuts Keeps rest join f g ends.Spent t turns pieces fed then a b h = all_keep does Keeps rest join f _ a b h.2
ends_keep does cuts Keeps rest join f g ends.NoMemory t turns pieces fed then a b h = absurd h
ends_keep does cuts Keeps rest join f g ends.SinkFault t turns pieces fed then a b (inl h) = join a h.2.3 b (all_keep does Keeps rest join f h.2.0 a h.2.3 h.2.5) (g h.2.1 h.2.3 b h.2.6)
ends_keep does cuts Keeps rest join f g ends.SinkFault t turns pieces fed then a b (inr h) = join a h.2.3 b (all_keep does Keeps rest join f h.2.0 a h.2.3 h.2.5) (g h.2.1 h.2.3 b h.2.6)

-- what holds from task to task holds of a run in which none is broken off
pub ends_whole : {X : Type 0} (does cuts : Task → X → X → Type 0) (Keeps : X → X → Type 0) → ((a : X) → Keeps a a) → ((a b c : X) → Keeps a b → Keeps b c → Keeps a c) → ((task : Task) (a b : X) → does task a b → Keeps a b)
    → (end : FeedEnd) (t : Plan) (turns : ℕ) (pieces : List (List ℕ)) (fed then : Option Fed) (a b : X) → end ≢ ends.SinkFault → EndsBy does cuts end t turns pieces fed then a b → Keeps a b
ends_whole does cuts Keeps rest join f ends.Ended t turns pieces fed then a b whole (inl h) = all_keep does Keeps rest join f _ a b h.2
ends_whole does cuts Keeps rest join f ends.Ended t turns pieces fed then a b whole (inr h) = all_keep does Keeps rest join f _ a b h.2
ends_whole does cuts Keeps rest join f ends.SourceFault t turns pieces fed then a b whole h = all_keep does Keeps rest join f _ a b h.2
ends_whole does cuts Keeps rest join f ends.Spent t turns pieces fed then a b whole h = all_keep does Keeps rest join f _ a b h.2
ends_whole does cuts Keeps rest join f ends.NoMemory t turns pieces fed then a b whole h = absurd h
ends_whole does cuts Keeps rest join f ends.SinkFault t turns pieces fed then a b whole h = absurd (whole refl)

-- what one that is broken off leaves, and the tasks before it keep, is left by a run that it ends
pub ends_cut : {X : Type 0} (does cuts : Task → X → X → Type 0) (Keeps Left : X → X → Type 0) → ((a : X) → Keeps a a) → ((a b c : X) → Keeps a b → Keeps b c → Keeps a c) → ((task : Task) (a b : X) → does task a b → Keeps a b)
    → ((task : Task) (a b c : X) → Keeps a b → cuts task b c → Left a c)
    → (t : Plan) (turns : ℕ) (pieces : List (List ℕ)) (fed then : Option Fed) (a b : X) → EndsBy does cuts ends.SinkFault t turns pieces fed then a b → Left a b
ends_cut does cuts Keeps Left rest join f g t turns pieces fed then a b (inl h) = g h.2.1 a h.2.3 b (all_keep does Keeps rest join f h.2.0 a h.2.3 h.2.5) h.2.6
ends_cut does cuts Keeps Left rest join f g t turns pieces fed then a b (inr h) = g h.2.1 a h.2.3 b (all_keep does Keeps rest join f h.2.0 a h.2.3 h.2.5) h.2.6

-- where none can be broken off, no run ends by that
pub never_cut : {X : Type 0} (does cuts : Task → X → X → Type 0) → ((task : Task) (a b : X) → cuts task a b → ⊥) → (end : FeedEnd) (t : Plan) (turns : ℕ) (pieces : List (List ℕ)) (fed then : Option Fed) (a b : X) → EndsBy does cuts end t turns pieces fed then a b → end ≢ ends.SinkFault
never_cut does cuts f ends.SinkFault t turns pieces fed then a b (inl h) e = f h.2.1 h.2.3 b h.2.6
never_cut does cuts f ends.SinkFault t turns pieces fed then a b (inr h) e = f h.2.1 h.2.3 b h.2.6
never_cut does cuts f ends.Ended t turns pieces fed then a b h e = cc
never_cut does cuts f ends.SourceFault t turns pieces fed then a b h e = cc
never_cut does cuts f ends.Spent t turns pieces fed then a b h e = cc
never_cut does cuts f ends.NoMemory t turns pieces fed then a b h e = cc

-- what is seen of who takes the tasks, where each task that is done or broken off is seen as one
module _ {X Y : Type 0} (does cuts : Task → X → X → Type 0) (does' cuts' : Task → Y → Y → Type 0) (see : X → Y)
    (f : (task : Task) (a b : X) → does task a b → does' task (see a) (see b)) (g : (task : Task) (a b : X) → cuts task a b → cuts' task (see a) (see b)) where
  all_seen : (tasks : List Task) (a b : X) → AllDo does tasks a b → AllDo does' tasks (see a) (see b)
  all_seen [] a b h = ap see h
  all_seen (i ∷ is) a b h = (see h.0, f i a h.0 h.1, all_seen is h.0 b h.2)

  broke_seen : (tasks : List Task) (a b : X) → BrokeOff does cuts tasks a b → BrokeOff does' cuts' tasks (see a) (see b)
  broke_seen tasks a b h = (h.0, h.1, h.2, see h.3, h.4, all_seen h.0 a h.3 h.5, g h.1 h.3 b h.6)

  -- how a run ended
  pub ends_seen : (end : FeedEnd) (t : Plan) (turns : ℕ) (pieces : List (List ℕ)) (fed then : Option Fed) (a b : X) → EndsBy does cuts end t turns pieces fed then a b → EndsBy does' cuts' end t turns pieces fed then (see a) (see b)
  ends_seen ends.Ended t turns pieces fed then a b (inl h) = inl (h.0, h.1, all_seen _ a b h.2)
  ends_seen ends.Ended t turns pieces fed then a b (inr h) = inr (h.0, h.1, all_seen _ a b h.2)
  ends_seen ends.SourceFault t turns pieces fed then a b h = (h.0, h.1, all_seen _ a b h.2)
  ends_seen ends.Spent t turns pieces fed then a b h = (h.0, h.1, all_seen _ a b h.2)
  ends_seen ends.SinkFault t turns pieces fed then a b (inl h) = inl (h.0, h.1, broke_seen _ a b h.2)
  ends_seen ends.SinkFault t turns pieces fed then a b (inr h) = inr (h.0, h.1, broke_seen _ a b h.2)
  ends_seen ends.NoMemory t turns pieces fed then a b h = absurd h
