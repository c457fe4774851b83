-- What the words of a command line ask for.
use Rattle.std.specs.Prelude.{List, Option, None, Some, codes, if◌then◌else◌, map, String, option_and_then}
use Rattle.std.specs.Str.{bytes_eq}
use Rattle.std.specs.String.{string_bytes}
use Rattle.std.specs.declared.alloc.Global.{Global}
use Rattle.clap.specs.Words.{Row, Text, first_of, subcommand_of, fault_of}
use Rattle.clap.specs.Walk.{is_empty}
use Rattle.command_line.specs.Declaration.{declared}
use Rattle.command_line.specs.declared.command.Command.{Command}
use Rattle.command_line.specs.declared.command.Command.TheVariants.{Check, Answer, Map, Repair, Serve, Large, Places}

-- the words, as texts
abbrev pub texts : List (String Global) → List Text
texts words = map string_bytes words

-- the value of an argument, and what it leads to
abbrev pub with_value : Text → List Row → (Text → Option (Command Text)) → Option (Command Text)
with_value id rows next = option_and_then next (first_of id rows)

abbrev pub check_of : List Row → Option (Command Text)
check_of rows = with_value (codes "TOPOLOGY") rows (λ t. with_value (codes "MAP") rows (λ m. Some (Check t m)))

abbrev pub answer_of : List Row → Option (Command Text)
answer_of rows = with_value (codes "TOPOLOGY") rows (λ t. with_value (codes "MAP") rows (λ m. with_value (codes "ADDR") rows (λ a. with_value (codes "HEX") rows (λ h. Some (Answer t m a h)))))

abbrev pub map_command_of : List Row → Option (Command Text)
map_command_of rows = with_value (codes "TOPOLOGY") rows (λ t. Some (Map t))

abbrev pub repair_of : List Row → Option (Command Text)
repair_of rows = with_value (codes "TOPOLOGY") rows (λ t. with_value (codes "MAP") rows (λ m. with_value (codes "CHANGES") rows (λ c. Some (Repair t m c))))

abbrev pub serve_of : List Row → Option (Command Text)
serve_of rows = with_value (codes "TOPOLOGY") rows (λ t. with_value (codes "listen") rows (λ l. Some (Serve t l (first_of (codes "workers") rows) (first_of (codes "tcp") rows) (first_of (codes "feed2") rows) (first_of (codes "feed3") rows) (first_of (codes "feed4") rows))))

abbrev pub large_of : List Row → Option (Command Text)
large_of rows = with_value (codes "N") rows (λ n. Some (Large n))

abbrev pub places_of : List Row → Option (Command Text)
places_of rows = with_value (codes "TOPOLOGY") rows (λ t. Some (Places t))

-- what a command with these values asks for
abbrev pub asked_by : Text → List Row → Option (Command Text)
asked_by name rows =
    if bytes_eq name (codes "check") then check_of rows
    else (if bytes_eq name (codes "answer") then answer_of rows
    else (if bytes_eq name (codes "map") then map_command_of rows
    else (if bytes_eq name (codes "repair") then repair_of rows
    else (if bytes_eq name (codes "serve") then serve_of rows
    else (if bytes_eq name (codes "large") then large_of rows
    else (if bytes_eq name (codes "places") then places_of rows
    else None))))))

-- what the words ask for, where the declaration takes them; the first word is the program's name
abbrev pub asked : List Text → Option (Command Text)
asked words = if is_empty (fault_of declared words) then option_and_then (λ s. asked_by s.0 s.1) (subcommand_of declared words) else None
