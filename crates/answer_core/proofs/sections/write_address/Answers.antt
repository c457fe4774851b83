use Rattle.answer_core.proofs.Records.{v6}
use Rattle.answer_core.proofs.sections.write_address.Goals as goal

pub returns-in-V6 : goal.returns-in-V6
returns-in-V6 c = v6 c.args.out.now.items _ _ c.args.address c.in-V6.number c.args.kind c.args.ttl c.in-V6.is c.u128_octets.ensures c.write_record-in-V6.ensures
