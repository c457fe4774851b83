-- Whole rounds of a circle are as many proposals as hops were made.
use Rattle.std.proofs.Common.{◌≡◌, ℕ, ◌+◌, ◌-◌, ◌*◌, ◌^◌, ◌<◌, ◌≤◌, nat_lt, if◌then◌else◌, List, ◌∷◌, length, sym, ◌∙◌, subst}
use Rattle.map_model.specs.Market.{Market}
use Rattle.evict.specs.Standing.{IsReady, Standing}
use Rattle.deferred_accept.specs.declared.circle.Hop.{Hop}
use Rattle.deferred_accept.specs.Runs.{AreProposals}
use Rattle.deferred_accept.specs.Turning.{AreRound, CanPass, HasRoomFor, HasTurned, IsPassed}
use Rattle.deferred_accept.proofs.Rooms.{room_less}
use Rattle.deferred_accept.proofs.Shifts.{circle_can, circle_turned}
use Rattle.deferred_accept.proofs.Turned.{turn_is_proposals}

-- the units of whole rounds may be passed on
pub round_can : (m : Market) (state : Standing) → IsReady m state → (hops : List Hop) (units room most : ℕ) → AreRound m state hops units → HasRoomFor m state hops room → most ≤ room → CanPass state hops most
round_can m state ready hops units room most round fits le =
    subst (λ (xs : List Hop). CanPass state xs most) (sym round.listed)
    (circle_can m state ready round.first round.rest units most round.circle (room_less m state (round.first ∷ round.rest) most room le (subst (λ (xs : List Hop). HasRoomFor m state xs room) round.listed fits)))

-- and when they were, that is a turn
pub round_made : (m : Market) (old new : Standing) → IsReady m old → (hops : List Hop) (units room rounds before after : ℕ) → AreRound m old hops units → HasRoomFor m old hops room → rounds * units ≤ room → 0 < rounds → IsPassed old new hops (rounds * units)
    → before < 2 ^ 64 → after ≡ (if nat_lt (before + rounds * length hops) (2 ^ 64) then before + rounds * length hops else 2 ^ 64 - 1) → HasTurned m old new before after
round_made m old new ready hops units room rounds before after round fits le some passed small counted = record {
  count = rounds * length hops;
  proposals = subst (λ (xs : List Hop). AreProposals m (rounds * length xs) old new) (sym round.listed)
      (turn_is_proposals m old new round.first round.rest units rounds ready round.circle
      (room_less m old (round.first ∷ round.rest) (rounds * units) room le (subst (λ (xs : List Hop). HasRoomFor m old xs room) round.listed fits))
      (circle_turned m old new ready round.first round.rest units (rounds * units) round.circle (subst (λ (xs : List Hop). IsPassed old new xs (rounds * units)) round.listed passed)) some);
  small = small;
  counted = counted;
  pointers = passed.pointers;
  free = passed.free;
}
