use Rattle.std.proofs.Common.{◌≡◌, ℕ, List, map, take}
use Rattle.std.specs.HashMap.{get_by}
use Rattle.std.specs.Str.{bytes_eq}
use Rattle.toml.specs.View.{view}
use Rattle.topology_text.specs.Names.{number_of}
use Rattle.topology_text.proofs.names.numbers_of.Given as goal

abbrev pub invariant-loop-i : goal.invariant-loop-i
invariant-loop-i l = (q : List ℕ) → get_by (λ k. bytes_eq q k.now) l.numbers ≡ number_of (map view (take l.i l.entries)) q
