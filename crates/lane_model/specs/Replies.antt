-- The replies of versions: the stated replies, behind words that hide how they are made.
use Rattle.std.specs.Prelude.{ℕ, Bool, List, Option}
use Rattle.addr_text.specs.declared.address.Addr.{Addr}
use Rattle.answer_core.specs.Reply as stated
use Rattle.answer_core.specs.Silence as silence
use Rattle.answer_core.specs.declared.way.Way.{Way}
use Rattle.answer_core.specs.declared.way.Way.TheVariants.{Datagram}
use Rattle.published_map.specs.Version.{Version}
use Rattle.lane_model.specs.Lanes.{Answers}

-- octets that have no reply, of whichever version
unfoldable pub is_silent : List ℕ → Bool
is_silent octets = silence.is_silent octets

-- the stated reply of a version to octets from an address, with a draw, by a way: that of answer_core
unfoldable pub reply_of : Version → Addr → List ℕ → ℕ → Way → Option (List ℕ)
reply_of v from octets draw way = stated.reply_of v from octets draw way

-- of lanes of that way
abbrev pub replies_by : Way → Answers Version
replies_by way = record { reply = reply_of; silent = is_silent; way = way }

-- of lanes that serve a port
abbrev pub replies : Answers Version
replies = replies_by Datagram
