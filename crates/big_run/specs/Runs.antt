-- A run over a large world, and its summary.
use Rattle.std.specs.Prelude.{◌≡◌, ℕ, ◌+◌, ◌≤◌, length, Ok}
use Rattle.text_parts.specs.Parts.{whole_lines}
use Rattle.topology_text.specs.Plan.{Plan}
use Rattle.topology_text.specs.Faults.{reading}
use Rattle.demand_feed.specs.Task.{tasks}
use Rattle.demand_feed.specs.Taking.{AllDo}
use Rattle.map_cell.specs.Ends.{PublisherState}
use Rattle.big_world.specs.Feed.{feed_of}
use Rattle.big_world.specs.Topology.{topology_of}
use Rattle.mapper.specs.Mappers.{IsFirst, IsMapping, most_offers}
use Rattle.mapper.specs.Words.{totals_of}
use Rattle.big_run.specs.Publishing.{TaskPublishes}
use Rattle.big_run.specs.Replies.{count_of}
use Rattle.big_run.specs.declared.summary.Summary.{Summary}

-- what the last maps of a run come to: all of them are good; the totals and the replies are those of the newest
abbrev pub summary_of : ℕ → Plan → PublisherState → ℕ → Summary
summary_of n t m proposals = record {
  groups = n;
  nodes = length t.market.nodes;
  maps = length m.history;
  good = length m.history;
  totals = totals_of m.newest;
  proposals = proposals;
  answered = count_of m.newest 0 n;
  servfail = count_of m.newest 2 n;
}

-- The world's topology was mapped from scratch, with so many proposals; each batch of its feed published the map that it leads to, of which each is good; there are seventeen maps, and each group's reply is an answer or a server failure; and this is the summary.
pub record IsWorldRun (n : ℕ) (s : Summary) : Type 0 where
  pub topology : Plan
  pub first : PublisherState
  pub last : PublisherState
  pub reads : reading (topology_of n) ≡ Ok topology
  pub is_first : IsFirst topology first
  pub batches : AllDo TaskPublishes (tasks topology (whole_lines (feed_of n))) first last
  pub counted : IsMapping topology.market first.newest.lines 0 s.proposals
  pub few : s.proposals ≤ most_offers topology.market
  pub sums : s ≡ summary_of n topology last s.proposals
  pub maps : s.maps ≡ 17
  pub replies : s.answered + s.servfail ≡ n
