-- Laws of octets and the messages in them.
use Rattle.std.specs.Prelude.{◌≡◌, ℕ, ◌≤◌, List, ◌++◌, All, length}
use Rattle.std.specs.List.{flat_map}
use Rattle.outside.specs.Limits.{largest_datagram}
use Rattle.tcp_frames.specs.Split.{IsSplit, framed}

-- all octets split, and into one list of messages
abbrev pub OctetsSplitOnce : Type 0
OctetsSplitOnce = (octets : List ℕ) → (messages : List (List ℕ)) × IsSplit octets messages × ((others : List (List ℕ)) → IsSplit octets others → others ≡ messages)

-- octets behind whole messages split into these and their own
abbrev pub WholeMessagesJoin : Type 0
WholeMessagesJoin = (front rest : List ℕ) (messages more : List (List ℕ)) → front ≡ flat_map framed messages → All (λ m. length m ≤ largest_datagram) messages → IsSplit rest more → IsSplit (front ++ rest) (messages ++ more)
