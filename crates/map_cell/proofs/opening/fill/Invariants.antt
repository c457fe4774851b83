use Rattle.std.proofs.Common.{◌≡◌, All, vec_len, vec_capacity}
use Rattle.outside.specs.Faults.{raised}
use Rattle.map_cell.proofs.opening.fill.Given as goal

abbrev pub invariant-loop : goal.invariant-loop
invariant-loop g l = record {
  same : l.publisher ≡ l.fn.publisher;
  size : vec_len l.made ≡ l.counter;
  room : vec_capacity l.made ≡ vec_capacity l.fn.made;
  seen : All (λ v. (v.seen ≡ l.fn.publisher.history) × (v.heard ≡ l.fn.publisher.history)) l.made.items;
  faults : (g.D.Door.told l.door).faults ≡ (g.D.Door.told l.fn.door).faults;
  asked : (g.D.Door.told l.door).asked ≡ raised (g.D.Door.told l.fn.door).asked l.counter;
  looks : (g.D.Door.told l.door).looks ≡ (g.D.Door.told l.fn.door).looks;
  greatest : (g.D.Door.told l.door).greatest ≡ (g.D.Door.told l.fn.door).greatest;
}
