use Rattle.std.proofs.Common.{◌≡◌, length, map, take}
use Rattle.map_model.specs.declared.lines.NameLine.{NameLine}
use Rattle.published_map.proofs.parts.named_of.Given as goal

abbrev pub invariant-loop-name : goal.invariant-loop-name
invariant-loop-name l = (l.named.items ≡ map (λ (x : NameLine). (x.place, x.by)) (take l.name-index l.names)) × (length l.named.items ≡ l.name-index)
