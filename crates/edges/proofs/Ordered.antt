-- A connection's octets stay in their order.
use Rattle.std.proofs.Common.{◌≡◌, ◌≤◌, ℕ, true, false, List, [], ◌∷◌, ◌++◌, All, length, map, drop, refl, sym, ap, ◌∙◌, subst, arith, append_assoc, append-nil}
use Rattle.std.specs.List.{flat_map}
use Rattle.std.proofs.lemmas.Grind.{flat_map-append}
use Rattle.std.proofs.lemmas.List.{take-append-drop}
use Rattle.std.proofs.lemmas.List.Elements.{All-append, All-cons, All-nil, All-tail}
use Rattle.outside.specs.Limits.{largest_datagram}
use Rattle.tcp_frames.proofs.Splits.{joined}
use Rattle.tcp_frames.specs.Split.{AreWhole, IsSplit, framed}
use Rattle.tcp_frames.specs.declared.batch.TheConstants.{MOST_MESSAGES}
use Rattle.edges.specs.Connections.{AreRoomEvents, ConnectionsAreInOrder, HandedOver, Replied, RoomEvent, Settled, come_of, gone_of, kept_of, talks}
use Rattle.edges.specs.declared.room.Room.{Room}

-- what was there and what came is what was handed over and what is there
came : (events : List RoomEvent) (room last : Room) → AreRoomEvents events room last → room.coming.items ++ flat_map come_of events ≡ flat_map (λ t. t) (talks events) ++ last.coming.items
came [] room last is = append-nil room.coming.items ∙ ap (λ r. r.coming.items) (sym is)
came (Settled piece gone ∷ events) room last are =
    sym (append_assoc room.coming.items piece (flat_map come_of events)) ∙ (ap (λ c. c ++ flat_map come_of events) (sym are.1.0) ∙ came events are.0 last are.2)
came (HandedOver octets ∷ events) room last are =
    let front : room.coming.items ≡ octets ++ are.0.coming.items = are.1.4.2 ∙ ap (λ o. o ++ are.0.coming.items) (sym are.1.3) in
    ap (λ c. c ++ flat_map come_of events) front ∙ (append_assoc octets are.0.coming.items (flat_map come_of events) ∙ (ap (λ r. octets ++ r) (came events are.0 last are.2) ∙ sym (append_assoc octets (flat_map (λ t. t) (talks events)) last.coming.items)))
came (Replied is_kept reply ∷ events) room last are = ap (λ c. c ++ flat_map come_of events) (sym are.1.1) ∙ came events are.0 last are.2

-- what was to go and what was kept is what went and what is to go
went : (events : List RoomEvent) (room last : Room) → AreRoomEvents events room last → room.going.items ++ flat_map kept_of events ≡ flat_map gone_of events ++ last.going.items
went [] room last is = append-nil room.going.items ∙ ap (λ r. r.going.items) (sym is)
went (Settled piece gone ∷ events) room last are =
    let front : room.going.items ≡ gone ++ are.0.going.items = sym (take-append-drop are.1.1.0 room.going.items) ∙ (ap (λ k. k ++ drop are.1.1.0 room.going.items) (sym are.1.1.1) ∙ ap (λ k. gone ++ k) (sym are.1.1.2)) in
    ap (λ c. c ++ flat_map kept_of events) front ∙ (append_assoc gone are.0.going.items (flat_map kept_of events) ∙ (ap (λ r. gone ++ r) (went events are.0 last are.2) ∙ sym (append_assoc gone (flat_map gone_of events) last.going.items)))
went (HandedOver octets ∷ events) room last are = ap (λ c. c ++ flat_map kept_of events) (sym are.1.4.3) ∙ went events are.0 last are.2
went (Replied true reply ∷ events) room last are =
    sym (append_assoc room.going.items reply (flat_map kept_of events)) ∙ (ap (λ c. c ++ flat_map kept_of events) (sym are.1.0) ∙ went events are.0 last are.2)
went (Replied false reply ∷ events) room last are = ap (λ c. c ++ flat_map kept_of events) (sym are.1.0) ∙ went events are.0 last are.2

-- conversations of whole messages, taken apart
record AreParts (ts : List (List ℕ)) : Type 0 where
  parts : List (List (List ℕ))
  are : ts ≡ map (λ p. flat_map framed p) parts
  few : All (λ p. length p ≤ MOST_MESSAGES) parts
  short : All (λ m. length m ≤ largest_datagram) (flat_map (λ p. p) parts)
  joined_is : flat_map (λ t. t) ts ≡ flat_map framed (flat_map (λ p. p) parts)

parts_of : (ts : List (List ℕ)) → All (AreWhole MOST_MESSAGES) ts → AreParts ts
parts_of [] whole = record { parts = []; are = refl; few = All-nil (λ (p : List (List ℕ)). length p ≤ MOST_MESSAGES); short = All-nil (λ (m : List ℕ). length m ≤ largest_datagram); joined_is = refl }
parts_of (t ∷ ts) whole =
    let w = whole 0 t (omega arith) in
    let rest = parts_of ts (All-tail (AreWhole MOST_MESSAGES) t ts whole) in
    record {
      parts = w.0 ∷ rest.parts;
      are = ap (λ k. k ∷ ts) w.1 ∙ ap (λ k. flat_map framed w.0 ∷ k) rest.are;
      few = All-cons (λ (p : List (List ℕ)). length p ≤ MOST_MESSAGES) w.0 rest.parts w.3 rest.few;
      short = All-append (λ (m : List ℕ). length m ≤ largest_datagram) w.0 (flat_map (λ p. p) rest.parts) w.2 rest.short;
      joined_is = ap (λ k. k ++ flat_map (λ t. t) ts) w.1 ∙ (ap (λ k. flat_map framed w.0 ++ k) rest.joined_is ∙ sym (flat_map-append framed w.0 (flat_map (λ p. p) rest.parts)));
    }

pub ordered : ConnectionsAreInOrder
ordered events first last empty are =
    let octets : flat_map come_of events ≡ flat_map (λ t. t) (talks events) ++ last.coming.items = ap (λ c. c ++ flat_map come_of events) (sym empty.0) ∙ came events first last are in
    record {
      octets = octets;
      messages = λ whole more split.
          let p = parts_of (talks events) whole in
          (p.parts, p.are, p.few, subst (λ o. IsSplit o (flat_map (λ p. p) p.parts ++ more)) (sym octets) (joined (flat_map (λ t. t) (talks events)) last.coming.items (flat_map (λ p. p) p.parts) more p.joined_is p.short split));
      replies = ap (λ c. c ++ flat_map kept_of events) (sym empty.1) ∙ went events first last are;
    }
