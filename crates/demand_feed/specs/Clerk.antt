-- A clerk of the code, as definitions see it.
use Rattle.std.specs.Prelude.{List, Option, None, Some}
use Rattle.map_model.specs.declared.change.Change.{Change}
use Rattle.map_model.specs.Market.{Market}
use Rattle.map_model.specs.Batch.{IsBatch}
use Rattle.demand_feed.specs.Task.{Ledger, Task, refused, batch, empty, spoiled, query, totals}
use Rattle.demand_feed.specs.declared.clerk.Next.{Next}
use Rattle.demand_feed.specs.declared.clerk.Next.TheVariants as next

-- a clerk: the ledger, and the batch that ended last
pub record Clerking : Type 0 where
  pub ledger : Ledger
  pub due : List Change

-- what a line comes to, where `due` is the batch that ended last
abbrev pub task_by : List Change → Next → Option Task
task_by due next.Nothing = None
task_by due next.Stop = None
task_by due (next.Refused line why) = Some (refused line why)
task_by due next.Batch = Some (batch due)
task_by due next.Empty = Some empty
task_by due (next.Spoiled lines) = Some (spoiled lines)
task_by due (next.Query addr octets) = Some (query addr octets.items)
task_by due next.Totals = Some totals

-- both batches of a clerk are ones of an instance
pub record AreBatches (m : Market) (c : Clerking) : Type 0 where
  pub changes : IsBatch m c.ledger.changes
  pub due : IsBatch m c.due
