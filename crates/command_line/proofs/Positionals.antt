use Rattle.std.proofs.Common.{◌≡◌, ◌∙◌, ap, ap₂, sym, ℕ, ◌+◌, ◌<◌, List, [], ◌∷◌, map, take, length, get_or, Bor}
use Rattle.std.proofs.lemmas.List.{map-append, map_more}
use Rattle.clap.specs.Words.{App, Rule, Text, with_rule}
use Rattle.clap.specs.Simple.{new_shape}
use Rattle.command_line.specs.Declaration.{command, positional}

abbrev now : Bor Text → Text
now id = id.now

-- a command with these rules alone
abbrev with : Text → List Rule → App
with name rules = record { top = record (new_shape name) { rules = rules }; subs = [] }

-- a command with one positional more
pub one_more : (name : Text) (ids : List (Bor Text)) (i : ℕ) (d : Bor Text) (a : App) (r : Rule) → i < length ids
    → a ≡ record { top = command name (map (λ (id : Bor Text). id.now) (take i ids)); subs = [] } → r ≡ positional (get_or ids i d).now
    → with_rule a r ≡ record { top = command name (map (λ (id : Bor Text). id.now) (take (i + 1) ids)); subs = [] }
one_more name ids i d a r lt so_far here =
    ap₂ with_rule so_far here
    ∙ ap (with name) (sym (ap (λ (xs : List Text). map positional xs) (map_more now ids i d lt) ∙ map-append positional (map now (take i ids)) (now (get_or ids i d) ∷ [])))
