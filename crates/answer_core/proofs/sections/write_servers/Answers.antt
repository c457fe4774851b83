use Rattle.std.proofs.Common.{◌≤◌, ◌+◌, length, arith}
use Rattle.answer_core.specs.Sections as spec
use Rattle.answer_core.proofs.Records.{has_room, goes_on}
use Rattle.answer_core.proofs.sections.write_servers.Goals as goal

pub write_record-requires : goal.write_record-requires
write_record-requires c =
    let room : length c.loop-server.out.items + length (spec.resource (spec.server c.args.ttl c.server-item.result)) ≤ 1300 =
    has_room (spec.server c.args.ttl) c.args.servers.now c.args.out.now.items c.loop-server.out.items c.loop-server.server-index c.server-item.result c.server-item.result (omega arith) c.server-item.is c.loop-server.invariant c.requires in
    rw c.wire.ensures.octets (omega arith)

pub loop-server-preserved : goal.loop-server-preserved
loop-server-preserved c =
    goes_on (spec.server c.args.ttl) c.args.servers.now c.args.out.now.items c.loop-server.out.items _ c.loop-server.server-index c.server-item.result c.server-item.result (omega arith) c.server-item.is c.loop-server.invariant (rw c.wire.ensures.octets at c.write_record.ensures)
