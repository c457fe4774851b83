use Rattle.std.proofs.Common.{◌≡◌, length, map, take}
use Rattle.map_model.specs.declared.lines.MapLine.{MapLine}
use Rattle.published_map.proofs.parts.amounts_of.Given as goal

abbrev pub invariant-loop-line : goal.invariant-loop-line
invariant-loop-line l = (l.amounts.items ≡ map (λ (x : MapLine). (x.place, x.amount)) (take l.line-index l.lines)) × (length l.amounts.items ≡ l.line-index)
