use Rattle.std.proofs.Common.{◌+◌, ◌*◌, length}
use Rattle.drive.proofs.feeders.+runs.Given as goal

abbrev pub decreases-run_last-others : goal.decreases-run_last-others
decreases-run_last-others g l = 3 * length l.rest.now + 2

abbrev pub decreases-run_last : goal.decreases-run_last
decreases-run_last g l = 3 * length l.feeds.now

abbrev pub decreases-run_more : goal.decreases-run_more
decreases-run_more g l = 3 * length l.feeds.now + 1
