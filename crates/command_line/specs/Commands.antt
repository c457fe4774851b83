-- A command by its words.
use Rattle.std.specs.Prelude.{option_map}
use Rattle.command_line.specs.declared.command.Command.{Command}
use Rattle.command_line.specs.declared.command.Command.TheVariants.{Check, Answer, Map, Repair, Serve, Large, Places}

-- the same command, each of its words as f has it
abbrev pub each : {A B : Type 0} → (A → B) → Command A → Command B
each f (Check topology map) = Check (f topology) (f map)
each f (Answer topology map addr hex) = Answer (f topology) (f map) (f addr) (f hex)
each f (Map topology) = Map (f topology)
each f (Repair topology map changes) = Repair (f topology) (f map) (f changes)
each f (Serve topology listen workers tcp feed2 feed3 feed4) = Serve (f topology) (f listen) (option_map f workers) (option_map f tcp) (option_map f feed2) (option_map f feed3) (option_map f feed4)
each f (Large groups) = Large (f groups)
each f (Places topology) = Places (f topology)
