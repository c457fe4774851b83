-- What becomes of a connection's octets, until it is left.
use Rattle.std.specs.Prelude.{◌≡◌, ◌≤◌, ℕ, Bool, true, false, List, [], ◌∷◌, ◌++◌, All, length, map, take, drop}
use Rattle.std.specs.List.{flat_map}
use Rattle.edges.specs.Rooms.{IsEmpty, IsHandingOver, IsKeeping}
use Rattle.edges.specs.declared.room.Room.{Room}
use Rattle.tcp_frames.specs.Split.{AreWhole, IsSplit, framed}
use Rattle.tcp_frames.specs.declared.batch.Batch.{Batch}
use Rattle.tcp_frames.specs.declared.batch.TheConstants.{MOST_MESSAGES}

-- One thing that happens to a room: a piece comes, and octets go, of which either may be none; a conversation is handed over; or a reply is kept, or there is no room for it. That a connection is left is none of these: all of it is forgotten then.
pub data RoomEvent : Type 0 where
  Settled : (piece gone : List ℕ) → RoomEvent
  HandedOver : (octets : List ℕ) → RoomEvent
  Replied : (is_kept : Bool) (reply : List ℕ) → RoomEvent

-- what it does
abbrev pub IsRoomEvent : RoomEvent → Room → Room → Type 0
IsRoomEvent (Settled piece gone) room room' = (room'.coming.items ≡ room.coming.items ++ piece) × ((count : ℕ) × (gone ≡ take count room.going.items) × (room'.going.items ≡ drop count room.going.items))
IsRoomEvent (HandedOver octets) room room' = (buffer buffer' : List ℕ) × (batch : Batch) × (octets ≡ take batch.len buffer') × IsHandingOver buffer buffer' batch room room'
IsRoomEvent (Replied is_kept reply) room room' = IsKeeping reply is_kept room room'

-- one after another, from one room to another
abbrev pub AreRoomEvents : List RoomEvent → Room → Room → Type 0
AreRoomEvents [] room last = last ≡ room
AreRoomEvents (event ∷ events) room last = (next : Room) × IsRoomEvent event room next × AreRoomEvents events next last

-- the octets that came by it
abbrev pub come_of : RoomEvent → List ℕ
come_of (Settled piece gone) = piece
come_of (HandedOver octets) = []
come_of (Replied is_kept reply) = []

-- the conversation that was handed over by it, as a list
abbrev pub talks_of : RoomEvent → List (List ℕ)
talks_of (Settled piece gone) = []
talks_of (HandedOver octets) = octets ∷ []
talks_of (Replied is_kept reply) = []

-- the octets of the reply that was kept by it
abbrev pub kept_of : RoomEvent → List ℕ
kept_of (Settled piece gone) = []
kept_of (HandedOver octets) = []
kept_of (Replied true reply) = reply
kept_of (Replied false reply) = []

-- the octets that went by it
abbrev pub gone_of : RoomEvent → List ℕ
gone_of (Settled piece gone) = gone
gone_of (HandedOver octets) = []
gone_of (Replied is_kept reply) = []

-- all conversations of a connection
abbrev pub talks : List RoomEvent → List (List ℕ)
talks events = flat_map talks_of events

-- Of a connection, from when its room was empty until it is left: all octets that came to the room are those of its conversations, one after another, and those that are there. Where all conversations are whole messages, of which each has eight at most, the messages of these octets are those of the conversations, one after another, and those that are there. And all replies that were kept are what went and what is to go.
pub record ComesInOrder (events : List RoomEvent) (last : Room) : Type 0 where
  pub octets : flat_map come_of events ≡ flat_map (λ t. t) (talks events) ++ last.coming.items
  pub messages : All (AreWhole MOST_MESSAGES) (talks events) → (more : List (List ℕ)) → IsSplit last.coming.items more →
      (parts : List (List (List ℕ))) × (talks events ≡ map (λ p. flat_map framed p) parts) × All (λ p. length p ≤ MOST_MESSAGES) parts × IsSplit (flat_map come_of events) (flat_map (λ p. p) parts ++ more)
  pub replies : flat_map kept_of events ≡ flat_map gone_of events ++ last.going.items

-- whatever happens to it
abbrev pub ConnectionsAreInOrder : Type 0
ConnectionsAreInOrder = (events : List RoomEvent) (first last : Room) → IsEmpty first → AreRoomEvents events first last → ComesInOrder events last
