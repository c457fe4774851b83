use Rattle.mapper.proofs.Followed.{ended_follows}
use Rattle.mapper.proofs.feed.run_feed.Goals as goal

pub returns-clause-kept : goal.returns-clause-kept
returns-clause-kept g c = let run = c.work_lines-end.ensures.run in (ended_follows c.work_lines-end.result c.args.topology.now c.args.turns run.0 _ _ _ _ run.2).history
