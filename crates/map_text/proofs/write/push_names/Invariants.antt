use Rattle.std.proofs.Common.{◌≡◌, ◌++◌, take}
use Rattle.std.specs.List.{flat_map}
use Rattle.map_text.specs.Named.{IsOwnWord}
use Rattle.map_text.specs.Writing.{ended, name_row}
use Rattle.map_text.proofs.write.push_names.Given as goal

abbrev pub invariant-loop-name : goal.invariant-loop-name
invariant-loop-name l = record {
  written : l.text.items ≡ l.initial.text.items ++ flat_map (λ x. ended (name_row l.topology x)) (take l.name-index l.names);
  own : IsOwnWord l.topology l.own;
}
