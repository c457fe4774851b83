use Rattle.std.proofs.Common.{arith}
use Rattle.prefix_lookup.specs.Family.{bits_in}
use Rattle.prefix_lookup.proofs.Families.{wide}
use Rattle.prefix_lookup.proofs.Parting.{parts, zeros}
use Rattle.prefix_lookup.proofs.scope.bits_to_part.Goals as goal

pub overflow_sub-result : goal.overflow_sub-result
overflow_sub-result c =
    let z = zeros (bits_in c.args.family) c.args.a c.args.b (wide c.args.family) c.requires.a c.requires.b c.requires.apart in
    let e = c.bits-beyond.ensures in
    omega (arith, z, wide c.args.family)

pub returns : goal.returns
returns c =
    let z = zeros (bits_in c.args.family) c.args.a c.args.b (wide c.args.family) c.requires.a c.requires.b c.requires.apart in
    let e = c.bits-beyond.ensures in
    parts (bits_in c.args.family) c.args.a c.args.b _ (wide c.args.family) c.requires.a c.requires.b c.requires.apart (omega (arith, z, wide c.args.family))
