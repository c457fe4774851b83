use Rattle.std.proofs.Common.{length}
use Rattle.glb.proofs.starting.+open_feeds.Given as goal

abbrev pub decreases-open_feeds : goal.decreases-open_feeds
decreases-open_feeds g l = length l.names.now
