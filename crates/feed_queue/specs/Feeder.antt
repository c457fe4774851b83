-- What a feeder sends of its feed.
use Rattle.std.specs.Prelude.{◌≡◌, ◌≢◌, ◌⊎◌, ℕ, List, [], ◌∷◌, ◌++◌, Option}
use Rattle.outside.specs.Source.{Fed}
use Rattle.topology_text.specs.Plan.{Plan}
use Rattle.demand_feed.specs.Runs.{IsRun}
use Rattle.demand_feed.specs.Sent.{Becomes}
use Rattle.demand_feed.specs.Task.{Task}
use Rattle.demand_feed.specs.declared.run.FeedEnd.{FeedEnd}
use Rattle.demand_feed.specs.declared.run.FeedEnd.TheVariants as ends
use Rattle.demand_feed.specs.declared.sent.What.{What}
use Rattle.demand_feed.specs.declared.sent.What.TheVariants as what

-- what comes of a line is sent
abbrev pub Adds : Task → List What → List What → Type 0
Adds task before after = (w : What) × Becomes task w × (after ≡ before ++ w ∷ [])

-- nothing is broken off
abbrev pub Breaks : Task → List What → List What → Type 0
Breaks task before after = ⊥

-- the last that was sent is this end
abbrev pub EndsWith : List What → FeedEnd → Type 0
EndsWith sent end = (ahead : List What) × (sent ≡ ahead ++ what.End end ∷ [])

-- a feed was run to this end, and what its lines came to was sent, and then its end
pub record IsSentOf (t : Plan) (turns : ℕ) (end : FeedEnd) (fed_before fed_after : Option Fed) (sent : List What) : Type 0 where
  pub whats : List What
  pub run : IsRun Adds Breaks t turns end fed_before fed_after [] whats
  pub whole : end ≢ ends.SinkFault
  pub sent_is : sent ≡ whats ++ what.End end ∷ []

-- what a feeder sent of its feed; or there was no memory or no thread to read that with, and it sent this alone
unfoldable pub HasSent : Plan → ℕ → Option Fed → Option Fed → List What → Type 0
HasSent t turns fed_before fed_after sent =
    ((end : FeedEnd) × IsSentOf t turns end fed_before fed_after sent)
    ⊎ ((sent ≡ what.End ends.NoMemory ∷ []) × (fed_after ≡ fed_before))
