use Rattle.std.proofs.Common.{◌≡◌, ◌++◌}
use Rattle.answer_core.specs.Sections as spec
use Rattle.answer_core.proofs.Records.{first_records}
use Rattle.answer_core.proofs.sections.write_addresses.Given as goal

abbrev pub invariant-loop-address : goal.invariant-loop-address
invariant-loop-address l = l.out.items ≡ l.fn.out.items ++ first_records (spec.address l.ttl l.kind) l.addresses l.address-index
