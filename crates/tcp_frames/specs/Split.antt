-- Messages behind their lengths (RFC 1035 section 4.2.2).
use Rattle.std.specs.Prelude.{◌≡◌, ℕ, ◌+◌, ◌*◌, ◌/◌, ◌%◌, ◌<◌, ◌≤◌, ◌⊎◌, List, ◌∷◌, ◌++◌, All, length}
use Rattle.std.specs.List.{flat_map}
use Rattle.outside.specs.Limits.{largest_datagram}

-- a message behind two octets, which are its length
abbrev pub framed : List ℕ → List ℕ
framed message = (length message / 256) ∷ (length message % 256) ∷ message

-- the first message of octets, and what stands behind it
abbrev pub IsFirst : List ℕ → List ℕ → List ℕ → Type 0
IsFirst octets message behind = (octets ≡ framed message ++ behind) × (length message ≤ largest_datagram)

-- no message that is answered stands whole at the front: the octets are unfinished, or their length is too great
abbrev pub HasNoMessage : List ℕ → Type 0
HasNoMessage octets = (message behind : List ℕ) → length message ≤ largest_datagram → octets ≡ framed message ++ behind → ⊥

-- the length at the front is above that of the longest message that is answered
abbrev pub IsOverlong : List ℕ → Type 0
IsOverlong octets = (high low : ℕ) × (behind : List ℕ) × (octets ≡ high ∷ low ∷ behind) × (largest_datagram < high * 256 + low)

-- how many octets of an unfinished message there are at most
abbrev pub largest_rest : ℕ
largest_rest = 4097

-- no message stands whole at the front: the length is too great, or there are too few octets
abbrev pub IsUnfinished : List ℕ → Type 0
IsUnfinished octets = HasNoMessage octets × (IsOverlong octets ⊎ (length octets ≤ largest_rest))

-- octets are so many whole messages at most, one after another
abbrev pub AreWhole : ℕ → List ℕ → Type 0
AreWhole most octets = (messages : List (List ℕ)) × (octets ≡ flat_map framed messages) × All (λ m. length m ≤ largest_datagram) messages × (length messages ≤ most)

-- octets are these messages one after another, and a rest that begins with none
pub record IsSplit (octets : List ℕ) (messages : List (List ℕ)) : Type 0 where
  pub rest : List ℕ
  pub parts : octets ≡ flat_map framed messages ++ rest
  pub short : All (λ m. length m ≤ largest_datagram) messages
  pub none : HasNoMessage rest
