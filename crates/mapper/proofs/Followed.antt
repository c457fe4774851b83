-- What a feed comes to adds versions to a history, and keeps the topology.
use Rattle.std.proofs.Common.{◌≡◌, inl, inr, ℕ, List, refl, sym, ap, ◌∙◌}
use Rattle.std.specs.Prelude.{Option}
use mathlib.Core.List.{IsPrefix}
use Rattle.outside.specs.Source.{Fed}
use Rattle.topology_text.specs.Plan.{Plan}
use Rattle.demand_feed.specs.Task.{Task, refused, batch, empty, spoiled, query, totals}
use Rattle.demand_feed.specs.declared.run.FeedEnd.{FeedEnd}
use Rattle.demand_feed.specs.declared.run.FeedEnd.TheVariants as ends
use Rattle.mapper.specs.Control.{AllCome, Comes, Course, start}
use Rattle.mapper.specs.Feeding.{AllCame, HasEnded, WasCut}
use Rattle.mapper.specs.Scenes.{Scene}
use Rattle.demand_feed.proofs.Chains.{all_keep}

-- versions were added, and the topology is the same
pub record IsFollowed (before after : Scene) : Type 0 where
  pub history : IsPrefix before.history after.history
  pub plan : after.newest.plan ≡ before.newest.plan

comes_plan : (task : Task) (c d : Course) → Comes task c d → d.newest.plan ≡ c.newest.plan
comes_plan (refused number why) c d h = ap (λ (x : Course). x.newest.plan) h
comes_plan (batch changes) c d (inl h) = ap (λ (x : Course). x.newest.plan) h.2 ∙ h.1.plan
comes_plan (batch changes) c d (inr h) = ap (λ (x : Course). x.newest.plan) h
comes_plan empty c d h = ap (λ (x : Course). x.newest.plan) h
comes_plan (spoiled lines) c d h = ap (λ (x : Course). x.newest.plan) h
comes_plan (query addr octets) c d h = ap (λ (x : Course). x.newest.plan) h
comes_plan totals c d h = ap (λ (x : Course). x.newest.plan) h

all_plan : (tasks : List Task) (c d : Course) → AllCome tasks c d → d.newest.plan ≡ c.newest.plan
all_plan tasks c d h = all_keep Comes (λ (x y : Course). y.newest.plan ≡ x.newest.plan) (λ x. refl) (λ x y z p q. q ∙ p) comes_plan tasks c d h

came_follows : (tasks : List Task) (before after : Scene) → AllCame tasks before after → IsFollowed before after
came_follows tasks before after h = record {
  history = (h.0.versions, sym h.2.history);
  plan = ap (λ v. v.plan) h.2.newest ∙ all_plan tasks (start before.newest) h.0 h.1;
}

cut_follows : (tasks : List Task) (before after : Scene) → WasCut tasks before after → IsFollowed before after
cut_follows tasks before after h = record {
  history = (h.4.versions, sym h.8.history);
  plan = ap (λ v. v.plan) h.8.newest ∙ (comes_plan h.1 h.3 h.4 h.7 ∙ all_plan h.0 (start before.newest) h.3 h.6);
}

pub ended_follows : (end : FeedEnd) (t : Plan) (turns : ℕ) (pieces : List (List ℕ)) (fed then : Option Fed) (before after : Scene) → HasEnded end t turns pieces fed then before after → IsFollowed before after
ended_follows ends.Ended t turns pieces fed then before after (inl h) = came_follows _ before after h.2
ended_follows ends.Ended t turns pieces fed then before after (inr h) = came_follows _ before after h.2
ended_follows ends.SourceFault t turns pieces fed then before after h = came_follows _ before after h.2
ended_follows ends.Spent t turns pieces fed then before after h = came_follows _ before after h.2
ended_follows ends.NoMemory t turns pieces fed then before after h = absurd h
ended_follows ends.SinkFault t turns pieces fed then before after (inl h) = cut_follows _ before after h.2
ended_follows ends.SinkFault t turns pieces fed then before after (inr h) = cut_follows _ before after h.2
