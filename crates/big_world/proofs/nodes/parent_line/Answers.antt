-- The line with the parent of a pool, with its quotes put together.
use Rattle.std.proofs.Common.{◌∙◌, ◌++◌, [], ◌∷◌, List, ℕ, codes, ap, sym, append_assoc}
use Rattle.std.specs.Fmt.{decimal}
use Rattle.big_world.specs.Topology.{parent_line}
use Rattle.big_world.proofs.nodes.parent_line.Goals as goal

pub returns : goal.returns
unfolding parent_line
returns c = c.in_ok-format.ensures.ok ∙ ap (λ (xs : List ℕ). (codes "parent = " ++ 34 ∷ codes "r") ++ xs) (sym (append_assoc (decimal c.args.region) (34 ∷ []) (10 ∷ [])))
