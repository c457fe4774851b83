-- A worked example of a connection's octets.
use Rattle.std.specs.Prelude.{◌≡◌, ◌≤◌, ℕ, List, [], ◌∷◌, All, length, true, false}
use Rattle.std.specs.List.{flat_map}
use Rattle.std.proofs.Common.{refl, arith}
use Rattle.std.proofs.lemmas.List.Elements.{All-cons, All-nil}
use Rattle.tcp_frames.specs.Split.{AreWhole}
use Rattle.edges.proofs.Ordered.{ordered}
use Rattle.edges.specs.Connections.{AreRoomEvents, RoomEvent, HandedOver, IsRoomEvent, ComesInOrder, Replied, Settled, come_of, gone_of, kept_of, talks}
use Rattle.edges.specs.declared.room.Room.{Room}

abbrev room_of : List ℕ → List ℕ → Room
room_of coming going = record { coming = record { items = coming }; going = record { items = going } }

-- A message of two octets comes in two pieces, with the first octet of the next one. It is handed over; its reply of one octet is kept; the reply goes in two pieces, while half of the next message comes and then its rest, and that is handed over.
abbrev row : List RoomEvent
row = Settled (0 ∷ 2 ∷ 7 ∷ []) [] ∷ Settled (8 ∷ 0 ∷ []) [] ∷ HandedOver (0 ∷ 2 ∷ 7 ∷ 8 ∷ []) ∷ Replied true (0 ∷ 1 ∷ 5 ∷ []) ∷ Settled (1 ∷ []) (0 ∷ 1 ∷ []) ∷ Settled (9 ∷ 0 ∷ []) (5 ∷ []) ∷ HandedOver (0 ∷ 1 ∷ 9 ∷ []) ∷ []

one_whole : (message : List ℕ) → length message ≤ 4096 → All (λ m. length m ≤ 4096) (message ∷ [])
one_whole message short = All-cons (λ (m : List ℕ). length m ≤ 4096) message [] short (All-nil (λ (m : List ℕ). length m ≤ 4096))

first_whole : AreWhole 8 (0 ∷ 2 ∷ 7 ∷ 8 ∷ [])
first_whole = ((7 ∷ 8 ∷ []) ∷ [], refl, one_whole (7 ∷ 8 ∷ []) (omega arith), omega arith)

second_whole : AreWhole 8 (0 ∷ 1 ∷ 9 ∷ [])
second_whole = ((9 ∷ []) ∷ [], refl, one_whole (9 ∷ []) (omega arith), omega arith)

first_over : IsRoomEvent (HandedOver (0 ∷ 2 ∷ 7 ∷ 8 ∷ [])) (room_of (0 ∷ 2 ∷ 7 ∷ 8 ∷ 0 ∷ []) []) (room_of (0 ∷ []) [])
first_over = (0 ∷ 2 ∷ 7 ∷ 8 ∷ [], 0 ∷ 2 ∷ 7 ∷ 8 ∷ [], record { len = 4; is_faulty = false }, refl, (omega arith, refl, refl, refl, λ is. first_whole, λ is. absurd (cc is), λ large none. absurd (omega (arith, none))))

second_over : IsRoomEvent (HandedOver (0 ∷ 1 ∷ 9 ∷ [])) (room_of (0 ∷ 1 ∷ 9 ∷ 0 ∷ []) []) (room_of (0 ∷ []) [])
second_over = (0 ∷ 1 ∷ 9 ∷ [], 0 ∷ 1 ∷ 9 ∷ [], record { len = 3; is_faulty = false }, refl, (omega arith, refl, refl, refl, λ is. second_whole, λ is. absurd (cc is), λ large none. absurd (omega (arith, none))))

happens : AreRoomEvents row (room_of [] []) (room_of (0 ∷ []) [])
happens = (
  room_of (0 ∷ 2 ∷ 7 ∷ []) [],
  (refl, (0, refl, refl)),
  (
    room_of (0 ∷ 2 ∷ 7 ∷ 8 ∷ 0 ∷ []) [],
    (refl, (0, refl, refl)),
    (
      room_of (0 ∷ []) [],
      first_over,
      (
        room_of (0 ∷ []) (0 ∷ 1 ∷ 5 ∷ []),
        (refl, refl),
        (
          room_of (0 ∷ 1 ∷ []) (5 ∷ []),
          (refl, (2, refl, refl)),
          (
            room_of (0 ∷ 1 ∷ 9 ∷ 0 ∷ []) [],
            (refl, (1, refl, refl)),
            (room_of (0 ∷ []) [], second_over, refl),
          ),
        ),
      ),
    ),
  ),
)

row_ordered : ComesInOrder row (room_of (0 ∷ []) [])
row_ordered = ordered row (room_of [] []) (room_of (0 ∷ []) []) (refl, refl) happens

row_came : flat_map come_of row ≡ 0 ∷ 2 ∷ 7 ∷ 8 ∷ 0 ∷ 1 ∷ 9 ∷ 0 ∷ []
row_came = refl

row_talks : talks row ≡ (0 ∷ 2 ∷ 7 ∷ 8 ∷ []) ∷ (0 ∷ 1 ∷ 9 ∷ []) ∷ []
row_talks = refl

row_kept : flat_map kept_of row ≡ 0 ∷ 1 ∷ 5 ∷ []
row_kept = refl

row_gone : flat_map gone_of row ≡ 0 ∷ 1 ∷ 5 ∷ []
row_gone = refl
