-- What streams tell, and what their calls do.
use Rattle.std.specs.Prelude.{◌≡◌, ℕ, ◌≤◌, Bool, true, false, List, [], ◌∷◌, ◌++◌, take, max, Option, None, Some}
use Rattle.addr_text.specs.declared.address.Listen.{Listen}
use Rattle.addr_text.specs.declared.address.Peer.{Peer}
use Rattle.outside.specs.Faults.{raised}
use Rattle.outside.specs.Source.{shorter}
use Rattle.outside.specs.declared.port.Opening.{Opening}
use Rattle.outside.specs.declared.port.Opening.TheVariants as opening
use Rattle.outside.specs.declared.streams.Accepting.{Accepting}
use Rattle.outside.specs.declared.streams.Accepting.TheVariants as came
use Rattle.outside.specs.declared.streams.Reading.{Reading}
use Rattle.outside.specs.declared.streams.Reading.TheVariants as read
use Rattle.outside.specs.declared.streams.Writing.{Writing}
use Rattle.outside.specs.declared.streams.Writing.TheVariants as put

-- a piece of a conversation that was read, with the serial that its reader knew, and how many answers of accept and read came before it
pub record Piece : Type 0 where
  pub octets : List ℕ
  pub known : ℕ
  pub place : ℕ

-- a conversation: with whom, the pieces that were read, how many reads were quiet, and the octets that were written
pub record Talk : Type 0 where
  pub peer : Peer
  pub pieces : List Piece
  pub quiets : ℕ
  pub written : List ℕ

-- What streams tell: where they were opened; the conversations that were closed, in order, and the one that is open; how many answers accept and read gave; how many answers of accept, read and write were Failed; whether accept answered End; the greatest serial that a call was handed; and the shortest buffer that a read was handed.
pub record StreamsTold : Type 0 where
  pub opens : List Listen
  pub closed : List Talk
  pub current : Option Talk
  pub answers : ℕ
  pub failed : ℕ
  pub is_ended : Bool
  pub greatest : ℕ
  pub shortest : Option ℕ

-- one opening: it is noted. One that failed may not be.
abbrev pub IsOpening : Listen → Opening → StreamsTold → StreamsTold → Type 0
IsOpening listen opening.Ready before after = after ≡ record before { opens = before.opens ++ listen ∷ [] }
IsOpening listen opening.Failed before after = (k : ℕ) × (after ≡ record before { opens = before.opens ++ take k (listen ∷ []) })

-- the conversation that is open, as a list
abbrev pub listed : Option Talk → List Talk
listed None = []
listed (Some t) = t ∷ []

-- the conversation that is open, after something happened to it
abbrev pub changed : (Talk → Talk) → Option Talk → Option Talk
changed f None = None
changed f (Some t) = Some (f t)

-- one answer more of accept or read, which was handed this serial
abbrev pub answered : ℕ → StreamsTold → StreamsTold
answered known s = record s { answers = raised s.answers 1; greatest = max s.greatest known }

-- one answer more of read, which was handed a buffer of that size too
abbrev pub answered_into : ℕ → ℕ → StreamsTold → StreamsTold
answered_into known size s = record (answered known s) { shortest = shorter s.shortest size }

-- a call failed
abbrev pub failing : StreamsTold → StreamsTold
failing s = record s { failed = raised s.failed 1 }

-- what is open is closed
abbrev pub closing : StreamsTold → StreamsTold
closing s = record s { closed = s.closed ++ listed s.current; current = None }

-- a conversation begins, and one that is open is closed
abbrev pub coming : Peer → StreamsTold → StreamsTold
coming peer s = record (closing s) { current = Some (record { peer = peer; pieces = []; quiets = 0; written = [] }) }

-- a piece was read
abbrev pub hearing : Piece → StreamsTold → StreamsTold
hearing p s = record s { current = changed (λ t. record t { pieces = t.pieces ++ p ∷ [] }) s.current }

-- a read was quiet
abbrev pub resting : StreamsTold → StreamsTold
resting s = record s { current = changed (λ t. record t { quiets = raised t.quiets 1 }) s.current }

-- octets were written, of the map of that serial
abbrev pub writing : ℕ → List ℕ → StreamsTold → StreamsTold
writing serial octets s = record s { current = changed (λ t. record t { written = t.written ++ octets }) s.current; greatest = max s.greatest serial }

-- What one accept does to streams. After End there is only End.
abbrev pub IsAccept : ℕ → Accepting → StreamsTold → StreamsTold → Type 0
IsAccept known (came.Come peer) before after = (before.is_ended ≡ false) × (after ≡ coming peer (answered known before))
IsAccept known came.Idle before after = (before.is_ended ≡ false) × (after ≡ answered known before)
IsAccept known came.End before after = after ≡ record (answered known before) { is_ended = true }
IsAccept known came.Failed before after = (before.is_ended ≡ false) × (after ≡ failing (answered known before))

-- what one read into a buffer of that size does
abbrev pub IsRead : ℕ → ℕ → List ℕ → Reading → StreamsTold → StreamsTold → Type 0
IsRead known size buffer (read.Got n) before after = after ≡ hearing (record { octets = take n buffer; known = known; place = before.answers }) (answered_into known size before)
IsRead known size buffer read.Quiet before after = after ≡ resting (answered_into known size before)
IsRead known size buffer read.Closed before after = after ≡ answered_into known size before
IsRead known size buffer read.Failed before after = after ≡ failing (answered_into known size before)

-- a piece has at least one octet, and no more than fit
abbrev pub IsWithin : Reading → ℕ → Type 0
IsWithin (read.Got n) size = (1 ≤ n) × (n ≤ size)
IsWithin read.Quiet size = Unit {0}
IsWithin read.Closed size = Unit {0}
IsWithin read.Failed size = Unit {0}

-- what one write does: where it failed, the first octets of the piece were written
abbrev pub IsWrite : ℕ → List ℕ → Writing → StreamsTold → StreamsTold → Type 0
IsWrite serial octets put.Done before after = after ≡ writing serial octets before
IsWrite serial octets put.Failed before after = (k : ℕ) × (after ≡ failing (writing serial (take k octets) before))
