use Rattle.std.proofs.Common.{rules}
use Rattle.edges.proofs.stream_sink.StreamSinkSink.put.Goals as goal

pub returns-then-eq-clause-took : goal.returns-then-eq-clause-took
returns-then-eq-clause-took g c = (c.put_whole-taken.result.0, search rules, search rules)

pub returns-else-eq-clause-took : goal.returns-else-eq-clause-took
returns-else-eq-clause-took g c = (c.put_whole-taken.result.0, search rules, search rules)
