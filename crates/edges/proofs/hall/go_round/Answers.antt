use Rattle.std.proofs.Common.{arith}
use Rattle.edges.proofs.Going.{none_in, rounded}
use Rattle.edges.proofs.Turns.{let_in_numbered, settled_numbered}
use Rattle.edges.proofs.hall.go_round.Goals as goal

pub take_all-requires : goal.take_all-requires
take_all-requires c =
    let all = c.settle_all in
    record { numbered = settled_numbered c.args.now c.args.turns.now all.new.turns c.args.seats.now all.new.seats c.args.rooms.now all.new.rooms all.ensures.turns.0 all.ensures.settled c.requires.numbered }

pub returns-in-Some-clause-numbered : goal.returns-in-Some-clause-numbered
returns-in-Some-clause-numbered c =
    let all = c.settle_all in
    let more = c.take_all in
    let_in_numbered c.args.now all.new.turns more.new.turns all.new.seats more.new.seats all.new.rooms more.new.rooms more.ensures.turns.0 more.ensures.changed
    (settled_numbered c.args.now c.args.turns.now all.new.turns c.args.seats.now all.new.seats c.args.rooms.now all.new.rooms all.ensures.turns.0 all.ensures.settled c.requires.numbered)

pub returns-in_default-clause-went : goal.returns-in_default-clause-went
returns-in_default-clause-went c =
    let all = c.settle_all in
    rounded c.args.now c.args.turns.now all.new.turns all.new.turns c.args.seats.now all.new.seats all.new.seats c.args.rooms.now all.new.rooms all.new.rooms all.ensures.turns.0 (omega arith) all.ensures.settled (none_in c.args.now all.new.turns all.new.turns all.new.seats all.new.rooms)

pub returns-in_default-clause-numbered : goal.returns-in_default-clause-numbered
returns-in_default-clause-numbered c =
    let all = c.settle_all in
    settled_numbered c.args.now c.args.turns.now all.new.turns c.args.seats.now all.new.seats c.args.rooms.now all.new.rooms all.ensures.turns.0 all.ensures.settled c.requires.numbered
