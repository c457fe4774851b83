-- Inside this crate alone: what stands between two lines of the feed.
use Rattle.std.specs.Prelude.{◌≡◌, ℕ, ◌+◌, Bool, true, false, List, length}
use Rattle.map_model.specs.Market.{IsSameShape}
use Rattle.map_cell.specs.Ends.{PublisherState}
use Rattle.topology_text.specs.Plan.{Plan}
use Rattle.demand_feed.specs.Clerk.{AreBatches, Clerking}
use Rattle.demand_feed.specs.Task.{Ledger, is_stop, step}
use Rattle.big_run.specs.Publishing.{LinePublishes}
use Rattle.big_run.specs.declared.judge.Judge.{Judge}

-- the batches are of the topology, the newest instance has its shape, the room is of its size, and each map was counted
pub record IsAtWork (t : Plan) (c : Clerking) (m : PublisherState) (j : Judge) : Type 0 where
  pub batches : AreBatches t.market c
  pub plan : m.newest.plan ≡ t
  pub shape : IsSameShape t.market m.newest.market
  pub room : j.room ≡ record { groups = length t.market.groups; nodes = length t.market.nodes }
  pub good : j.good ≡ m.newest.serial + 1

-- a line was taken: it says `stop`, or what comes of it was done
abbrev pub IsLineTaken : Plan → List ℕ → Bool → Ledger → Ledger → PublisherState → PublisherState → Type 0
IsLineTaken t line false ledger after a b = (is_stop line ≡ true) × (b ≡ a)
IsLineTaken t line true ledger after a b = (is_stop line ≡ false) × (after ≡ (step t ledger line).ledger) × LinePublishes (step t ledger line).task a b
