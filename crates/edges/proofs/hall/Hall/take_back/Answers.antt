use Rattle.std.proofs.Common.{sym, ap, ◌∙◌, length}
use Rattle.edges.proofs.Going.{back_put, put}
use Rattle.edges.proofs.Told.{some_eq}
use Rattle.edges.proofs.Turns.{back_numbered, none_put}
use Rattle.edges.proofs.hall.Hall.take_back.Goals as goal

pub returns-clause-back : goal.returns-clause-back
returns-clause-back c i is =
    let hall = c.args.self.now in
    back_put hall.watch.now hall.turns c.settle_at.new.turns hall.seats.len hall.rooms.len c.in-Some.i i hall.seats.items c.rest_at.new.seats c.settle_at.new.seats c.deref_mut.result.now c.deref_mut-2.result.now hall.rooms.items c.settle_at.new.rooms c.deref_mut-3.result.now
    (sym c.deref_mut.ensures.len ∙ ap length c.deref_mut.ensures.value) (sym c.deref_mut-3.ensures.len ∙ ap length c.deref_mut-3.ensures.value) c.deref_mut.ensures.value c.rest_at.ensures.at c.deref_mut-2.ensures.value c.deref_mut-3.ensures.value c.settle_at.ensures.at
    (some_eq c.in-Some.i i (sym c.in-Some.is ∙ is))

pub returns-clause-numbered : goal.returns-clause-numbered
returns-clause-numbered c =
    let hall = c.args.self.now in
    back_numbered hall.watch.now hall.turns c.settle_at.new.turns c.in-Some.i hall.seats.items (put hall.seats.len c.settle_at.new.seats (put hall.seats.len c.rest_at.new.seats hall.seats.items)) hall.rooms.items (put hall.rooms.len c.settle_at.new.rooms hall.rooms.items)
    c.settle_at.ensures.turns.0 (returns-clause-back c c.in-Some.i c.in-Some.is)
    (none_put hall.seats.len hall.rooms.len c.in-Some.i hall.seats.items c.rest_at.new.seats c.settle_at.new.seats c.deref_mut.result.now c.deref_mut-2.result.now hall.rooms.items c.settle_at.new.rooms c.deref_mut-3.result.now
    (sym c.deref_mut.ensures.len ∙ ap length c.deref_mut.ensures.value) (sym c.deref_mut-3.ensures.len ∙ ap length c.deref_mut-3.ensures.value) c.deref_mut.ensures.value c.rest_at.ensures.none c.deref_mut-2.ensures.value c.deref_mut-3.ensures.value c.settle_at.ensures.none)
