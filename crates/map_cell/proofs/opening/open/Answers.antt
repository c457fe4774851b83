use Rattle.std.proofs.Common.{rules, ◌≡◌, ◌∷◌, []}
use Rattle.map_cell.proofs.opening.open.Goals as goal

pub returns-in-Ok-fill-clause-viewers : goal.returns-in-Ok-fill-clause-viewers
returns-in-Ok-fill-clause-viewers g c =
    let h : c.in-Ok-start.publisher.history ≡ c.args.first ∷ [] = search rules in
    (c.in-Ok-fill.ensures.count, rw (← h) c.in-Ok-fill.ensures.made)
