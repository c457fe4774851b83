-- What has no reply, by its octets alone.
use Rattle.std.proofs.Common.{◌≡◌, ℕ, Bool, true, false, List, Option, None, Some, refl, ap}
use Rattle.std.specs.Prelude.{IsSome}
use Rattle.addr_text.specs.declared.address.Addr.{Addr}
use Rattle.dns_wire.specs.Message.{Reading, Silent, NotImp, Form, Query, reading}
use Rattle.dns_wire.proofs.Silence.{silent_read, other_read}
use Rattle.published_map.specs.Version.{Version}
use Rattle.answer_core.specs.Grammar.{datagram_in}
use Rattle.answer_core.specs.Reply.{reply_of, reply_to}
use Rattle.answer_core.specs.declared.way.Way.{Way}
use Rattle.answer_core.specs.Silence.{is_silent}

pub unanswered : (v : Version) (from : Addr) (octets : List ℕ) (draw : ℕ) (way : Way) → is_silent octets ≡ true → reply_of v from octets draw way ≡ None
unanswered v from octets draw way silent = ap (λ (r : Reading). reply_to v from (datagram_in r) draw way) (silent_read octets silent)

some : (v : Version) (from : Addr) (draw : ℕ) (way : Way) (r : Reading) → (r ≡ Silent → ⊥) → IsSome (reply_to v from (datagram_in r) draw way)
some v from draw way Silent other = absurd (other refl)
some v from draw way (NotImp h) other = refl
some v from draw way (Form h) other = refl
some v from draw way (Query q) other = refl

pub answered : (v : Version) (from : Addr) (octets : List ℕ) (draw : ℕ) (way : Way) → is_silent octets ≡ false → IsSome (reply_of v from octets draw way)
answered v from octets draw way speaks = some v from draw way (reading octets) (other_read octets speaks)

not_some : (o : Option (List ℕ)) → IsSome o → o ≡ None → ⊥
not_some None h e = absurd cc
not_some (Some x) h e = absurd cc

pub only_if_silent : (v : Version) (from : Addr) (octets : List ℕ) (draw : ℕ) (way : Way) → reply_of v from octets draw way ≡ None → is_silent octets ≡ true
only_if_silent v from octets draw way none = by (is_silent octets) refl
  where
    by : (b : Bool) → is_silent octets ≡ b → is_silent octets ≡ true
    by true e = e
    by false e = absurd (not_some (reply_of v from octets draw way) (answered v from octets draw way e) none)
