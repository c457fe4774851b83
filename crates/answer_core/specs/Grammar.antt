-- The whole grammar of queries: a function, so each list of octets is in exactly one case, with exactly one subnet and fault.
use Rattle.std.specs.Prelude.{ℕ, Bool, false, ◌==◌, not, if◌then◌else◌, List, Option, None, Some}
use Rattle.client_subnet.specs.declared.subnet.SubnetOpt.{SubnetOpt}
use Rattle.client_subnet.specs.declared.subnet.ClientSubnet.{ClientSubnet}
use Rattle.client_subnet.specs.declared.subnet.ClientSubnet.TheVariants as subnet
use Rattle.client_subnet.specs.Options.{subnet_of}
use Rattle.dns_wire.specs.declared.message.Head.{Head}
use Rattle.dns_wire.specs.Message.{Asked, Extension, Reading, reading}
use Rattle.dns_wire.specs.Message as message
use Rattle.answer_core.specs.declared.request.QueryFault.{QueryFault}
use Rattle.answer_core.specs.declared.request.QueryFault.TheVariants.{Version, Options}

-- a query that can be read, the client's subnet where it gives one, and what is at fault in it
pub record Request : Type 0 where
  pub asked : Asked
  pub subnet : Option SubnetOpt
  pub fault : Option QueryFault

pub data Datagram : Type 0 where
  Silent : Datagram
  NotImp : Head → Datagram
  Form : Head → Datagram
  Query : Request → Datagram

-- what a query's OPT record says of the client's subnet
abbrev pub client_subnet_of : Option Extension → ClientSubnet
client_subnet_of None = subnet.None
client_subnet_of (Some o) = subnet_of o.options

-- the subnet, where one is given
abbrev pub given : ClientSubnet → Option SubnetOpt
given subnet.None = None
given subnet.Ignored = None
given (subnet.Given s) = Some s
given subnet.Bad = None

-- an OPT record of a version other than 0
abbrev pub is_other_version : Option Extension → Bool
is_other_version None = false
is_other_version (Some o) = not (o.version == 0)

-- the options are at fault
abbrev pub options_fault : ClientSubnet → Option QueryFault
options_fault subnet.None = None
options_fault subnet.Ignored = None
options_fault (subnet.Given s) = None
options_fault subnet.Bad = Some Options

-- the version is looked at first
abbrev pub fault_of : Option Extension → Option QueryFault
fault_of opt = if is_other_version opt then Some Version else options_fault (client_subnet_of opt)

abbrev pub request_of : Asked → Request
request_of q = record { asked = q; subnet = given (client_subnet_of q.opt); fault = fault_of q.opt }

abbrev pub datagram_in : Reading → Datagram
datagram_in message.Silent = Silent
datagram_in (message.NotImp h) = NotImp h
datagram_in (message.Form h) = Form h
datagram_in (message.Query q) = Query (request_of q)

-- what a datagram is
abbrev pub datagram_of : List ℕ → Datagram
datagram_of octets = datagram_in (reading octets)
