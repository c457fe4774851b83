use Rattle.std.specs.Prelude.{◌≡◌, ◌≤◌, ℕ, Some, length, slice_get}
use Rattle.edges.specs.Places.{IsVacant}
use Rattle.edges.specs.declared.seat.Seat.{Seat}
use Rattle.edges.proofs.places.used.Given as goal

abbrev pub invariant-loop : goal.invariant-loop
invariant-loop l = (l.used ≤ length l.seats) × ((i : ℕ) (seat : Seat) → l.used ≤ i → slice_get l.seats i ≡ Some seat → IsVacant seat)
