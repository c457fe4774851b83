use Rattle.std.proofs.Common.{length}
use Rattle.mapper_tests.proofs.tests.several.feeds_of.Given as goal

abbrev pub ghosts-feed_both : goal.ghosts-feed_both
ghosts-feed_both g a = record { groups = length a.mapper.now.newest.plan.market.groups; nodes = length a.mapper.now.newest.plan.market.nodes }
