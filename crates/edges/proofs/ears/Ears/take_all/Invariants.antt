use Rattle.std.specs.Prelude.{◌≡◌, ◌<◌, ◌≤◌, true}
use Rattle.outside.specs.Faults.{raised}
use Rattle.edges.specs.Halls.{AreAllChanged, AreNumberedUpTo, IsLetIn}
use Rattle.edges.proofs.ears.Ears.take_all.Given as goal

abbrev pub invariant-loop : goal.invariant-loop
invariant-loop l = AreAllChanged (λ _. IsLetIn l.now l.fn.turns l.turns) l.fn.seats l.fn.rooms l.seats l.rooms × AreNumberedUpTo l.turns l.seats l.rooms × (l.fn.turns ≤ l.turns) × (l.turns ≤ raised l.fn.turns l.counter) × (l.fn.self.is_broken ≡ true → l.self.is_broken ≡ true) × (l.fn.self.accepts.told < l.self.accepts.told) × (l.self.waits ≡ l.fn.self.waits)
