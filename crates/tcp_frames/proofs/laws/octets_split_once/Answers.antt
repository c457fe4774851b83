use Rattle.tcp_frames.proofs.Splits.{once}
use Rattle.tcp_frames.proofs.laws.octets_split_once.Goals as goal

pub returns : goal.returns
returns c = once
