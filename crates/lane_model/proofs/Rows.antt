-- Worked draws: where those of the first workers fall among seven units. And a lane that is told of a version between two datagrams.
use Rattle.std.proofs.Common.{◌≡◌, ◌-◌, ◌*◌, ◌/◌, ◌^◌, ℕ, List, [], ◌∷◌, Some, slice_get, inl, inr, refl, ap, ◌∙◌, arith}
use Rattle.addr_text.specs.declared.address.Addr.TheVariants.{V4}
use Rattle.outside.specs.Port.{Packet}
use Rattle.answer_core.specs.declared.way.Way.TheVariants.{Datagram, Stream}
use Rattle.lane_model.specs.Lanes.{Entry, draw, following}
use Rattle.lane_model.specs.Machine.{Event, LaneState, fresh, passed, heard, take, tell}
use Rattle.lane_model.specs.Minded.{IsMinded}
use Rattle.lane_model.proofs.Minded.{minded_more, minded_none}

first_of_worker_0 : draw 0 0 * 7 / 2 ^ 64 ≡ 4
first_of_worker_0 = refl

second_of_worker_0 : draw 0 1 * 7 / 2 ^ 64 ≡ 1
second_of_worker_0 = refl

first_of_worker_1 : draw 1 0 * 7 / 2 ^ 64 ≡ 4
first_of_worker_1 = refl

second_of_worker_1 : draw 1 1 * 7 / 2 ^ 64 ≡ 2
second_of_worker_1 = refl

-- numbers begin anew at the end of their type, and draws don't tell
last_follows : following (2 ^ 64 - 1) ≡ 0
last_follows = refl

drawn_alike : draw 3 (2 ^ 64) ≡ draw 3 0
drawn_alike = refl

-- two datagrams without octets, from two ports
abbrev first_packet : Packet
first_packet = record { octets = []; from = record { addr = V4 16909060; port = 1053 } }

abbrev second_packet : Packet
second_packet = record { octets = []; from = record { addr = V4 16909060; port = 1054 } }

-- lane 3 takes one by version 0, is told of version 2, as lane 1 is of 9, and takes the other, which came over a stream, by version 4
abbrev lane_events : List (Event ℕ)
lane_events = take 3 first_packet 0 Datagram ∷ tell 3 2 ∷ tell 1 9 ∷ take 3 second_packet 4 Stream ∷ []

abbrev first_lane : LaneState
first_lane = passed first_packet 0 Datagram fresh

abbrev second_lane : LaneState
second_lane = passed second_packet 4 Stream (heard 2 first_lane)

-- it knew 0 at the first, and 2 at the second, and knows 4 then
entries_are : second_lane.taken ≡ (record { packet = first_packet; known = 0; way = Datagram }) ∷ (record { packet = second_packet; known = 2; way = Stream }) ∷ []
entries_are = refl

seen_is : second_lane.seen ≡ 4
seen_is = refl

-- that is minded
second_minded : IsMinded 3 lane_events fresh second_lane
second_minded = minded_more 3 (take 3 first_packet 0 Datagram) (tell 3 2 ∷ tell 1 9 ∷ take 3 second_packet 4 Stream ∷ []) fresh first_lane second_lane (inl (refl, omega arith, refl, refl))
    (minded_more 3 (tell 3 2) (tell 1 9 ∷ take 3 second_packet 4 Stream ∷ []) first_lane (heard 2 first_lane) second_lane (inl (refl, refl))
    (minded_more 3 (tell 1 9) (take 3 second_packet 4 Stream ∷ []) (heard 2 first_lane) (heard 2 first_lane) second_lane (inr (λ is. absurd (omega (arith, is)), refl))
    (minded_more 3 (take 3 second_packet 4 Stream) [] (heard 2 first_lane) second_lane second_lane (inl (refl, omega arith, refl, refl)) (minded_none 3 second_lane))))

-- had it known 1 at the second, that would not be minded
abbrev low_entries : List Entry
low_entries = (record { packet = first_packet; known = 0; way = Datagram }) ∷ (record { packet = second_packet; known = 1; way = Stream }) ∷ []

low_known : (new : List Entry) (e : Entry) → low_entries ≡ new → slice_get new 1 ≡ Some e → e.known ≡ 1
low_known new e is at = let here : Some (record { packet = second_packet; known = 1; way = Stream }) ≡ Some e = ap (λ (xs : List Entry). slice_get xs 1) is ∙ at in cc here

low_unminded : IsMinded 3 lane_events fresh (record second_lane { taken = low_entries }) → ⊥
low_unminded minded =
    let one = minded.entries (take 3 first_packet 0 Datagram ∷ tell 3 2 ∷ tell 1 9 ∷ []) [] second_packet 4 Stream refl in
    let told_of = one.3.heard 2 (1, omega arith, refl) in
    let known_is = low_known minded.new one.0 minded.taken one.1 in
    omega (arith, told_of, known_is)
