use Rattle.std.proofs.Common.{◌≡◌, ◌≤◌, ◌+◌, length, true}
use Rattle.map_model.specs.Batch.{IsBatch}
use Rattle.demand_feed.specs.Changes.{changes_behind, changes_of}
use Rattle.demand_feed.specs.Lines.{lines_of}
use Rattle.demand_feed.proofs.changes.read_changes.Given as goal

abbrev pub invariant-lines : goal.invariant-lines
invariant-lines l = record {
  reading : changes_of l.topology l.text ≡ changes_behind l.topology l.number (lines_of true l.rest) l.batch;
  batch : IsBatch l.topology.market l.batch;
  number : l.number + length l.rest ≤ length l.text;
}

abbrev pub decreases-lines : goal.decreases-lines
decreases-lines l = length l.rest
