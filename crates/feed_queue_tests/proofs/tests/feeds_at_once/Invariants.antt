use Rattle.std.proofs.Common.{length}
use Rattle.feed_queue_tests.proofs.tests.feeds_at_once.Given as goal

-- the numbers of the topology that was read
abbrev pub ghosts-both_feed : goal.ghosts-both_feed
ghosts-both_feed g a = record { groups = length a.topology.now.market.groups; nodes = length a.topology.now.market.nodes }
