-- What the words of a command line ask for.
use Rattle.std.specs.Prelude.{ℕ, ◌+◌, List, [], ◌∷◌, Option, None, Some, option_and_then, option_map}
use Rattle.addr_text.specs.declared.address.Listen.{Listen}
use Rattle.addr_text.specs.Addresses.{listen_of}
use Rattle.big_world.specs.declared.TheConstants.{LARGEST_WORLD}
use Rattle.command_line.specs.Asked as line
use Rattle.command_line.specs.declared.command.Command.{Command}
use Rattle.command_line.specs.declared.command.Command.TheVariants as command
use Rattle.glb.specs.Datagram.{Datagram, datagram_of}
use Rattle.text_parts.specs.Counts.{count_of}

-- a command, with the names of its files, and the datagram that `answer` is asked for
pub data Ask : Type 0 where
  check : List ℕ → List ℕ → Ask
  map_from : List ℕ → Ask
  places : List ℕ → Ask
  answer : List ℕ → List ℕ → Datagram → Ask
  repair : List ℕ → List ℕ → List ℕ → Ask

-- what `serve` is asked for: the name of its topology, where to listen, how many workers, where to take conversations, if anywhere, and the names of further feeds
pub record Service : Type 0 where
  pub topology : List ℕ
  pub listen : Listen
  pub workers : ℕ
  pub tcp : Option Listen
  pub more : List (List ℕ)

-- what a command line asks for: a command that says one text on what files say, to serve, or to run a large world of so many groups
pub data Task : Type 0 where
  say : Ask → Task
  serve : Service → Task
  large : ℕ → Task

-- where conversations are taken, if that is said: none where it is no address
abbrev pub tcp_of : Option (List ℕ) → Option (Option Listen)
tcp_of None = Some None
tcp_of (Some text) = option_map Some (listen_of text)

-- how many workers there may be at most: one less where another takes conversations
abbrev pub most_workers : Option Listen → ℕ
most_workers None = 16
most_workers (Some at) = 15

-- how many workers there are to be: 1 to so many, and 1 where that is not said
abbrev pub workers_of : ℕ → Option (List ℕ) → Option ℕ
workers_of most None = Some 1
workers_of most (Some text) = count_of most text

-- the names that are given, in the order of their options
abbrev pub given : List (Option (List ℕ)) → List (List ℕ)
given [] = []
given (None ∷ names) = given names
given (Some name ∷ names) = name ∷ given names

-- a service at an address with so many workers
abbrev pub service : List ℕ → List (List ℕ) → Listen → Option Listen → ℕ → Service
service topology more listen tcp workers = record { topology = topology; listen = listen; workers = workers; tcp = tcp; more = more }

-- what `serve` with these words asks for
abbrev pub service_of : List ℕ → List (List ℕ) → List ℕ → Option (List ℕ) → Option (List ℕ) → Option Service
service_of topology more listen workers tcp = option_and_then (λ at. option_and_then (λ over. option_map (service topology more at over) (workers_of (most_workers over) workers)) (tcp_of tcp)) (listen_of listen)

-- how many lanes take conversations
abbrev pub streams_of : Option Listen → ℕ
streams_of None = 0
streams_of (Some at) = 1

-- how many lanes there are in all
abbrev pub lanes_of : Service → ℕ
lanes_of ask = ask.workers + streams_of ask.tcp

-- a command line, as what it asks for: an address, digits and numbers have to be in their grammars
abbrev pub asked_by : Command (List ℕ) → Option Task
asked_by (command.Check topology map) = Some (say (check topology map))
asked_by (command.Map topology) = Some (say (map_from topology))
asked_by (command.Places topology) = Some (say (places topology))
asked_by (command.Answer topology map addr digits) = option_map say (option_map (answer topology map) (datagram_of addr digits))
asked_by (command.Repair topology map changes) = Some (say (repair topology map changes))
asked_by (command.Serve topology listen workers tcp feed2 feed3 feed4) = option_map serve (service_of topology (given (feed2 ∷ feed3 ∷ feed4 ∷ [])) listen workers tcp)
asked_by (command.Large groups) = option_map large (count_of LARGEST_WORLD groups)

-- What the words ask for, if they are taken: the declaration of the command line takes them, and they are in their grammars. The first is the program's name.
unfoldable pub asked : List (List ℕ) → Option Task
asked words = option_and_then asked_by (line.asked words)
