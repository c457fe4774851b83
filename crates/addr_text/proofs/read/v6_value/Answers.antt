use Rattle.std.proofs.Common.{◌+◌, ◌*◌, ◌<◌, arith}
use Rattle.addr_text.proofs.Powers.{below_all, below_next}
use Rattle.addr_text.proofs.read.v6_value.Goals as goal

pub overflow_mul-value : goal.overflow_mul-value
overflow_mul-value c =
    let next = below_next c.loop-group.group-index c.loop-group.value 0 c.loop-group.invariant.below (omega arith) in
    let all : 65536 * c.loop-group.value + 0 < 340282366920938463463374607431768211456 = below_all (c.loop-group.group-index + 1) (65536 * c.loop-group.value + 0) (omega arith) next in
    omega arith

pub overflow_add-value : goal.overflow_add-value
overflow_add-value c =
    let digit : c.from.result < 65536 = let small = c.type_inv.groups c.loop-group.group-index in omega (arith, c.from.ensures) in
    let next = below_next c.loop-group.group-index c.loop-group.value c.from.result c.loop-group.invariant.below digit in
    let all : 65536 * c.loop-group.value + c.from.result < 340282366920938463463374607431768211456 = below_all (c.loop-group.group-index + 1) (65536 * c.loop-group.value + c.from.result) (omega arith) next in
    omega arith
