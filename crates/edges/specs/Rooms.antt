-- What becomes of the octets of a connection.
use Rattle.std.specs.Prelude.{◌≡◌, ◌≤◌, ℕ, Bool, true, false, List, [], ◌++◌, length, take, drop, Some, MatchBool, slice_get, slice_set}
use Rattle.edges.specs.declared.room.Room.{Room}
use Rattle.tcp_frames.specs.Split.{AreWhole, HasNoMessage, IsOverlong}
use Rattle.tcp_frames.specs.declared.batch.Batch.{Batch}
use Rattle.tcp_frames.specs.declared.batch.TheConstants.{MOST_MESSAGES}
use Rattle.tcp_frames.specs.declared.front.TheConstants.{LARGEST_FRAME}

-- octets came behind those that were there, and what goes stays
abbrev pub IsFilled : List ℕ → List ℕ → List ℕ → List ℕ → Type 0
IsFilled coming coming' going going' = ((piece : List ℕ) × (coming' ≡ coming ++ piece)) × (going' ≡ going)

-- the first octets of what goes are gone, and what came stays
abbrev pub IsFlushed : List ℕ → List ℕ → List ℕ → List ℕ → Type 0
IsFlushed coming coming' going going' = ((count : ℕ) × (going' ≡ drop count going)) × (coming' ≡ coming)

-- octets came behind those that were there, and the first octets of what goes are gone
abbrev pub IsGoingOn : Room → Room → Type 0
IsGoingOn room room' = ((piece : List ℕ) × (room'.coming.items ≡ room.coming.items ++ piece)) × ((count : ℕ) × (room'.going.items ≡ drop count room.going.items))

-- one of a list changed so, and no other one changed
pub record IsChangedAt {A : Type 0} (R : A → A → Type 0) (i : ℕ) (before after : List A) : Type 0 where
  pub old : A
  pub new : A
  pub was : slice_get before i ≡ Some old
  pub is : after ≡ slice_set before i new
  pub changed : R old new

-- a reply was kept behind those that are to go, or there was no room for it
abbrev pub IsKeeping : List ℕ → Bool → Room → Room → Type 0
IsKeeping reply is_kept room room' = MatchBool is_kept (room'.going.items ≡ room.going.items ++ reply) (room'.going.items ≡ room.going.items) × (room'.coming.items ≡ room.coming.items)

-- no message is whole, and no length is too great
abbrev pub HasNothing : Room → Type 0
HasNothing room = HasNoMessage room.coming.items × (IsOverlong room.coming.items → ⊥)

-- what stood at the front of what came was moved to the front of a buffer: whole messages, or the length that is too great for one
abbrev pub IsHandingOver : List ℕ → List ℕ → Batch → Room → Room → Type 0
IsHandingOver buffer buffer' batch room room' = (batch.len ≤ length buffer) × (length buffer' ≡ length buffer) × (room.coming.items ≡ take batch.len buffer' ++ room'.coming.items) × (room'.going.items ≡ room.going.items) × (batch.is_faulty ≡ false → AreWhole MOST_MESSAGES (take batch.len buffer')) × (batch.is_faulty ≡ true → (batch.len ≡ 2) × IsOverlong room.coming.items) × (LARGEST_FRAME ≤ length buffer → batch.len ≡ 0 → HasNothing room)

-- a room without octets
abbrev pub IsEmpty : Room → Type 0
IsEmpty room = (room.coming.items ≡ []) × (room.going.items ≡ [])

-- something can be handed over, a whole message or a length that is too great, and no reply is to go
abbrev pub IsDue : Room → Type 0
IsDue room = (room.going.items ≡ []) × (HasNoMessage room.coming.items → IsOverlong room.coming.items)

-- a reply is to go, or nothing can be handed over
abbrev pub IsNotDue : Room → Type 0
IsNotDue room = room.going.items ≡ [] → HasNothing room
