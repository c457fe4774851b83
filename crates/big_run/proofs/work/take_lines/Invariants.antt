use Rattle.std.proofs.Common.{◌≤◌, ◌+◌, ◌^◌, length}
use Rattle.text_parts.specs.Parts.{but_last, parts}
use Rattle.map_cell.specs.Ends.{PublisherState}
use Rattle.demand_feed.specs.Task.{tasks_of, up_to_stop}
use Rattle.demand_feed.specs.Taking.{AllDo}
use Rattle.big_run.specs.Publishing.{TaskPublishes}
use Rattle.big_run.specs.Working.{IsAtWork}
use Rattle.big_run.proofs.work.take_lines.Given as goal

-- what comes of the rest makes up what comes of all
abbrev pub invariant-lines : goal.invariant-lines
invariant-lines g l = record {
  work : IsAtWork l.topology l.clerk l.mapper l.judge;
  number : l.clerk.ledger.number + length l.rest ≤ 2 ^ 63;
  serial : l.mapper.newest.serial + length l.rest ≤ 2 ^ 63;
  whole : (last : PublisherState) → AllDo TaskPublishes (tasks_of l.topology l.clerk.ledger (up_to_stop (but_last (parts 10 l.rest)))) l.mapper last
      → AllDo TaskPublishes (tasks_of l.topology l.initial.clerk.ledger (up_to_stop (but_last (parts 10 l.feed)))) l.initial.mapper last;
}

abbrev pub decreases-lines : goal.decreases-lines
decreases-lines g l = length l.rest
