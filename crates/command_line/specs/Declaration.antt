-- The command line as it is declared: one command whose subcommand is required, and each subcommand's words.
use Rattle.std.specs.Prelude.{List, [], ◌∷◌, ◌++◌, Bool, true, false, Some, map, codes}
use Rattle.clap.specs.Words.{App, Rule, Shape, Text, new_rule}
use Rattle.clap.specs.Simple.{new_shape}

-- a positional that has to be there, of one value
abbrev pub positional : Text → Rule
positional id = record (new_rule id) { required = true }

-- a command with these positionals
abbrev pub command : Text → List Text → Shape
command name ids = record (new_shape name) { rules = map positional ids }

-- an option of one value, named by two dashes and its name
abbrev pub option_named : Text → Bool → Rule
option_named name is_required = record (new_rule name) { long = Some name; required = is_required }

-- a server's command without further feeds: where it listens for datagrams has to be said
abbrev pub serve_one_command : Shape
serve_one_command = record (new_shape (codes "serve")) { rules = positional (codes "TOPOLOGY") ∷ option_named (codes "listen") true ∷ option_named (codes "workers") false ∷ option_named (codes "tcp") false ∷ [] }

-- a server's command
abbrev pub serve_command : Shape
serve_command = record serve_one_command { rules = serve_one_command.rules ++ map (λ name. option_named name false) (codes "feed2" ∷ codes "feed3" ∷ codes "feed4" ∷ []) }

-- the command line: no command stands without one of these behind it, and there is nothing else, nor any help
abbrev pub declared : App
declared = record {
  top = record (new_shape (codes "glb")) { is_leaf = false; subcommand_required = true; disable_help_flag = true; disable_help_subcommand = true };
  subs = command (codes "check") (codes "TOPOLOGY" ∷ codes "MAP" ∷ [])
      ∷ command (codes "answer") (codes "TOPOLOGY" ∷ codes "MAP" ∷ codes "ADDR" ∷ codes "HEX" ∷ [])
      ∷ command (codes "map") (codes "TOPOLOGY" ∷ [])
      ∷ command (codes "repair") (codes "TOPOLOGY" ∷ codes "MAP" ∷ codes "CHANGES" ∷ [])
      ∷ serve_command
      ∷ command (codes "large") (codes "N" ∷ [])
      ∷ command (codes "places") (codes "TOPOLOGY" ∷ [])
      ∷ [];
}
