-- Which octets have a reply.
use Rattle.std.proofs.Common.{◌≡◌, ℕ, Bool, true, false, List, Option, None, Some, refl}
use Rattle.addr_text.specs.declared.address.Addr.{Addr}
use Rattle.published_map.specs.Version.{Version}
use Rattle.answer_core.proofs.Silence.{only_if_silent, unanswered}
use Rattle.answer_core.specs.Silence as silence
use Rattle.answer_core.specs.Reply as stated
use Rattle.answer_core.specs.Reply.{Replies}
use Rattle.answer_core.specs.declared.way.Way.{Way}
use Rattle.answer_core.specs.declared.replying.Answer.{Answer}
use Rattle.answer_core.specs.declared.replying.Answer.TheVariants.{Sent, Silent}
use Rattle.lane_model.specs.Replies.{is_silent, reply_of}

-- what has no reply is silent
pub none_silent : (v : Version) (from : Addr) (octets : List ℕ) (draw : ℕ) (way : Way) → reply_of v from octets draw way ≡ None → is_silent octets ≡ true
unfolding is_silent reply_of
none_silent v from octets draw way is = only_if_silent v from octets draw way is

two_ways : (o : Option (List ℕ)) (text : List ℕ) → o ≡ None → o ≡ Some text → ⊥
two_ways o text none some = cc

-- what has a reply is not silent
pub some_spoken : (v : Version) (from : Addr) (octets : List ℕ) (draw : ℕ) (way : Way) (text : List ℕ) → reply_of v from octets draw way ≡ Some text → is_silent octets ≡ false
unfolding is_silent reply_of
some_spoken v from octets draw way text is = by (silence.is_silent octets) refl
  where
    by : (b : Bool) → silence.is_silent octets ≡ b → b ≡ false
    by true silent = absurd (two_ways (stated.reply_of v from octets draw way) text (unanswered v from octets draw way silent) is)
    by false silent = refl

both_ways : (b : Bool) → b ≡ true → b ≡ false → ⊥
both_ways b yes_is no_is = cc

-- octets that are not silent were answered by what was written
pub replied : (v : Version) (from : Addr) (octets : List ℕ) (draw : ℕ) (way : Way) (answer : Answer) (out : List ℕ) → is_silent octets ≡ false → Replies answer out (stated.reply_of v from octets draw way) → reply_of v from octets draw way ≡ Some out
unfolding is_silent reply_of
replied v from octets draw way Sent out spoken r = r
replied v from octets draw way Silent out spoken r = absurd (both_ways (silence.is_silent octets) (only_if_silent v from octets draw way r.0) spoken)
