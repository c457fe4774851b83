use Rattle.tcp_lane.proofs.Taken.{plain_taken}
use Rattle.tcp_lane.proofs.Took.{took_by}
use Rattle.tcp_lane.proofs.serve.TalkingTakes.take.Goals as goal

pub returns-then-talk-clause-took : goal.returns-then-talk-clause-took
returns-then-talk-clause-took g c = took_by _ _ _ _ _ _ _ _ _ _ _ _ c.read_one.ensures.taken

pub returns-else-talk-clause-took : goal.returns-else-talk-clause-took
returns-else-talk-clause-took g c = took_by _ _ _ _ _ _ _ _ _ _ _ _ (plain_taken _ _ _ _ _ _ _ _ _ c.accept_one.ensures.plain c.known.ensures)
