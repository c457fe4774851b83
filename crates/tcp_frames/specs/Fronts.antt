-- Inside this crate alone: what stands at the front of octets.
use Rattle.std.specs.Prelude.{◌≡◌, ℕ, ◌+◌, ◌≤◌, List, ◌++◌, length, take, drop}
use Rattle.outside.specs.Limits.{largest_datagram}
use Rattle.tcp_frames.specs.declared.front.Front.{Front}
use Rattle.tcp_frames.specs.declared.front.Front.TheVariants.{Short, Long, Length}
use Rattle.tcp_frames.specs.Split.{AreWhole, HasNoMessage, IsOverlong, framed, largest_rest}

abbrev pub IsFront : List ℕ → Front → Type 0
IsFront octets Short = HasNoMessage octets × (IsOverlong octets → ⊥) × (length octets ≤ largest_rest)
IsFront octets Long = HasNoMessage octets × IsOverlong octets
IsFront octets (Length n) = (octets ≡ framed (take n (drop 2 octets)) ++ drop (2 + n) octets) × (n ≤ largest_datagram) × (2 + n ≤ length octets) × (IsOverlong octets → ⊥)

-- octets are so many whole messages at most, and a rest. Where there is none of them, no message is whole.
pub record IsBatch (most : ℕ) (octets rest : List ℕ) : Type 0 where
  pub front : List ℕ
  pub parts : octets ≡ front ++ rest
  pub whole : AreWhole most front
  pub none : length rest ≡ length octets → HasNoMessage octets
