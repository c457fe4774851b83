use Rattle.feed_queue.proofs.Wholes.{all_is_taken, runs_end_last}
use Rattle.feed_queue.proofs.laws.all_is_taken.Goals as goal

pub returns-clause-taken : goal.returns-clause-taken
returns-clause-taken c = all_is_taken

pub returns-clause-ends : goal.returns-clause-ends
returns-clause-ends c = runs_end_last
