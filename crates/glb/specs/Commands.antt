-- Inside this crate alone: a command of the code, as what its words ask for.
use Rattle.std.specs.Prelude.{◌≤◌, map, Option, None, Some, option_map}
use Rattle.big_world.specs.declared.TheConstants.{LARGEST_WORLD}
use Rattle.glb.specs.Words.{Ask, Service, Task, given, most_workers, check, map_from, places, answer, repair, say, serve, large}
use Rattle.glb.specs.declared.words.Command.{Command}
use Rattle.glb.specs.declared.words.Order.{Order}
use Rattle.glb.specs.declared.words.Service.{Service as Ordered}
use Rattle.glb.specs.declared.words.Order.TheVariants.{Say, Serve, Large}
use Rattle.glb.specs.declared.words.Command.TheVariants.{Check, Map, Places, Answer, Repair}

-- a command, as what it asks for
abbrev pub ask_of : Command → Ask
ask_of (Check topology map) = check topology.now map.now
ask_of (Map topology) = map_from topology.now
ask_of (Places topology) = places topology.now
ask_of (Repair topology map changes) = repair topology.now map.now changes.now
ask_of (Answer topology map from octets) = answer topology.now map.now (record { from = from; octets = octets.items })

-- a service, as what is asked for
abbrev pub service_asked : Ordered → Service
service_asked s = record { topology = s.topology.now; listen = s.listen; workers = s.workers; tcp = s.tcp; more = given (map (option_map (λ n. n.now)) s.more) }

-- an order, as what it asks for
abbrev pub task_of : Order → Task
task_of (Say command) = say (ask_of command)
task_of (Serve service) = serve (service_asked service)
task_of (Large groups) = large groups

-- a service has 1 to 16 workers, or 15 where conversations are taken too, and a large world 1 to 16,384 groups
abbrev pub IsManned : Option Order → Type 0
IsManned None = Unit {0}
IsManned (Some (Say command)) = Unit {0}
IsManned (Some (Serve service)) = (1 ≤ service.workers) × (service.workers ≤ most_workers service.tcp)
IsManned (Some (Large groups)) = (1 ≤ groups) × (groups ≤ LARGEST_WORLD)
