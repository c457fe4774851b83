use Rattle.std.proofs.Common.{◌≡◌, ◌++◌}
use Rattle.answer_core.specs.Sections as spec
use Rattle.answer_core.proofs.Records.{first_records}
use Rattle.answer_core.proofs.sections.write_servers.Given as goal

abbrev pub invariant-loop-server : goal.invariant-loop-server
invariant-loop-server l = l.out.items ≡ l.fn.out.items ++ first_records (spec.server l.ttl) l.servers l.server-index
