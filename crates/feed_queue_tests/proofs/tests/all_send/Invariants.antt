use Rattle.std.proofs.Common.{length}
use Rattle.feed_queue_tests.proofs.tests.all_send.Given as goal

-- the numbers of the topology that was read
abbrev pub ghosts-sends : goal.ghosts-sends
ghosts-sends g a = record { groups = length a.topology.now.market.groups; nodes = length a.topology.now.market.nodes }
