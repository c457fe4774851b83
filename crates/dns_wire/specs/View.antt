-- What the borrowed types say, by the octets that they borrow.
use Rattle.std.specs.Option.{option_map}
use Rattle.name_text.specs.Wire.{IsName}
use Rattle.dns_wire.specs.declared.message.Opt.{Opt}
use Rattle.dns_wire.specs.declared.message.Query.{Query}
use Rattle.dns_wire.specs.declared.message.Message.{Message}
use Rattle.dns_wire.specs.declared.message.Message.TheVariants as message
use Rattle.dns_wire.specs.declared.record.Record.{Record}
use Rattle.dns_wire.specs.declared.edns.EdnsOption as code
use Rattle.dns_wire.specs.Edns.{EdnsOption}
use Rattle.dns_wire.specs.Wire as wire
use Rattle.dns_wire.specs.Message.{Extension, Asked, Reading}
use Rattle.dns_wire.specs.Message as meaning

abbrev pub extension : Opt → Extension
extension o = record { payload = o.payload; version = o.version; dnssec_ok = o.dnssec_ok; options = o.options.now }

abbrev pub asked : Query → Asked
asked q = record { head = q.head; name = q.name.now; kind = q.kind; class = q.class; opt = option_map extension q.opt }

abbrev pub view : Message → Reading
view message.Silent = meaning.Silent
view (message.NotImp h) = meaning.NotImp h
view (message.Form h) = meaning.Form h
view (message.Query q) = meaning.Query (asked q)

abbrev pub record_view : Record → wire.Record
record_view r = record { owner = r.owner.now; kind = r.kind; class = r.class; ttl = r.ttl; content = r.content.now }

-- the name of a query is a name
abbrev pub HasName : Message → Type 0
HasName message.Silent = Unit {0}
HasName (message.NotImp h) = Unit {0}
HasName (message.Form h) = Unit {0}
HasName (message.Query q) = IsName q.name.now

abbrev pub option_view : code.EdnsOption → EdnsOption
option_view o = record { code = o.code; octets = o.octets.now }
