use Rattle.std.proofs.Common.{◌*◌, ◌/◌, ◌<◌, ◌^◌, arith}
use Rattle.std.proofs.Math.Nat.{div-mul-le_self}
use Rattle.deferred_accept.proofs.Made.{round_can, round_made}
use Rattle.deferred_accept.proofs.turn.make_rounds.Goals as goal

pub turn-requires : goal.turn-requires
turn-requires g c =
    round_can c.args.instance.now c.args.state.now c.requires.ready c.args.hops.now c.args.units c.common_room.result (c.common_room.result / c.args.units * c.args.units) c.requires.round c.common_room.ensures.room
    (div-mul-le_self c.common_room.result c.args.units)

pub returns-in_ok-turn-clause-turned : goal.returns-in_ok-turn-clause-turned
returns-in_ok-turn-clause-turned g c =
    let small : c.args.steps.now < 2 ^ 64 = omega (arith, c.count-count.ensures) in
    round_made c.args.instance.now c.args.state.now c.turn.new.state c.requires.ready c.args.hops.now c.args.units c.common_room.result (c.common_room.result / c.args.units) c.args.steps.now c.add.new.self c.requires.round c.common_room.ensures.room
    (div-mul-le_self c.common_room.result c.args.units) c.if-rounds-gt0.true c.in_ok-turn.ensures small c.add.ensures.value
