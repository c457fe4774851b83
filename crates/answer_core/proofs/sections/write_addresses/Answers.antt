use Rattle.std.proofs.Common.{refl, arith, get_or}
use Rattle.addr_text.specs.declared.address.Addr.TheVariants.{V4}
use Rattle.answer_core.specs.Sections as spec
use Rattle.answer_core.proofs.Records.{has_room, goes_on}
use Rattle.answer_core.proofs.sections.write_addresses.Goals as goal

pub write_address-requires : goal.write_address-requires
write_address-requires c =
    has_room (spec.address c.args.ttl c.args.kind) c.args.addresses.now c.args.out.now.items c.loop-address.out.items c.loop-address.address-index (get_or c.args.addresses.now c.loop-address.address-index (V4 0)) (V4 0) (omega arith) refl c.loop-address.invariant c.requires

pub loop-address-preserved : goal.loop-address-preserved
loop-address-preserved c =
    goes_on (spec.address c.args.ttl c.args.kind) c.args.addresses.now c.args.out.now.items c.loop-address.out.items _ c.loop-address.address-index (get_or c.args.addresses.now c.loop-address.address-index (V4 0)) (V4 0) (omega arith) refl c.loop-address.invariant c.write_address.ensures
