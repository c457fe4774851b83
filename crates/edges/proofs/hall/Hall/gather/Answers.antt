use Rattle.std.proofs.Common.{◌≡◌, ◌∙◌, ap, length, subst, sym}
use Rattle.edges.specs.Halls.{AreNumberedUpTo, IsRound}
use Rattle.edges.proofs.Going.{put, round_put}
use Rattle.edges.proofs.Turns.{woken_numbered}
use Rattle.edges.proofs.hall.Hall.gather.Given.{Over}
use Rattle.edges.proofs.hall.Hall.gather.Goals as goal

pub returns-then-is_broken-clause-numbered : goal.returns-then-is_broken-clause-numbered
returns-then-is_broken-clause-numbered g c =
    let hall = c.args.self.now in
    woken_numbered hall.turns hall.seats.len hall.seats.items c.wait.new.seats c.deref_mut.result.now hall.rooms.items (sym c.deref_mut.ensures.len ∙ ap length c.deref_mut.ensures.value) c.deref_mut.ensures.value c.wait.ensures.woken c.requires.numbered

pub go_round-requires : goal.go_round-requires
go_round-requires g c =
    let hall = c.args.self.now in
    record {
      numbered = subst (λ s. AreNumberedUpTo hall.turns s c.deref_mut-3.result.now) (sym c.deref_mut-2.ensures.value)
          (subst (λ r. AreNumberedUpTo hall.turns (put hall.seats.len c.wait.new.seats hall.seats.items) r) (sym c.deref_mut-3.ensures.value)
          (woken_numbered hall.turns hall.seats.len hall.seats.items c.wait.new.seats c.deref_mut.result.now hall.rooms.items (sym c.deref_mut.ensures.len ∙ ap length c.deref_mut.ensures.value) c.deref_mut.ensures.value c.wait.ensures.woken c.requires.numbered));
    }

-- what the round left, in the vectors
all : (g : Over) (c : goal.After-self-3-1 g) → let hall = c.args.self.now in (put hall.seats.len c.go_round.new.seats (put hall.seats.len c.wait.new.seats hall.seats.items) ≡ c.go_round.new.seats) × (put hall.rooms.len c.go_round.new.rooms hall.rooms.items ≡ c.go_round.new.rooms)
    × IsRound c.read.new.self.now hall.turns c.go_round.new.turns hall.seats.items hall.rooms.items (put hall.seats.len c.go_round.new.seats (put hall.seats.len c.wait.new.seats hall.seats.items)) (put hall.rooms.len c.go_round.new.rooms hall.rooms.items)
all g c =
    let hall = c.args.self.now in
    round_put c.read.new.self.now hall.turns c.go_round.new.turns hall.seats.len hall.rooms.len hall.seats.items c.wait.new.seats c.go_round.new.seats c.deref_mut.result.now c.deref_mut-2.result.now hall.rooms.items c.go_round.new.rooms c.deref_mut-3.result.now
    (sym c.deref_mut.ensures.len ∙ ap length c.deref_mut.ensures.value) (sym c.deref_mut-3.ensures.len ∙ ap length c.deref_mut-3.ensures.value) c.deref_mut.ensures.value c.wait.ensures.woken c.deref_mut-2.ensures.value c.deref_mut-3.ensures.value c.go_round.ensures.went

pub returns-clause-numbered : goal.returns-clause-numbered
returns-clause-numbered g c =
    let hall = c.args.self.now in
    let is = all g c in
    subst (λ s. AreNumberedUpTo c.go_round.new.turns s (put hall.rooms.len c.go_round.new.rooms hall.rooms.items)) (sym is.0) (subst (λ r. AreNumberedUpTo c.go_round.new.turns c.go_round.new.seats r) (sym is.1) c.go_round.ensures.numbered)

pub returns-clause-went : goal.returns-clause-went
returns-clause-went g c is = (all g c).2
