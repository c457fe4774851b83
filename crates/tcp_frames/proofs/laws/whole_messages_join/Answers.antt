use Rattle.tcp_frames.proofs.Splits.{joined}
use Rattle.tcp_frames.proofs.laws.whole_messages_join.Goals as goal

pub returns : goal.returns
returns c = joined
