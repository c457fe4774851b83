use Rattle.std.proofs.Common.{◌≡◌, ◌++◌, ◌<◌, ◌^◌, ℕ, take, get_or}
use Rattle.std.specs.List.{flat_map}
use Rattle.map_text.specs.Named.{IsOwnWord}
use Rattle.map_text.specs.Writing.{ended, place_row}
use Rattle.map_text.proofs.write.push_places.Given as goal

abbrev pub invariant-loop-line : goal.invariant-loop-line
invariant-loop-line l = record {
  written : l.text.items ≡ l.initial.text.items ++ flat_map (λ x. ended (place_row l.topology x)) (take l.line-index l.lines);
  fits : (i : ℕ) → i < l.line-index → (get_or l.lines i (record { group = record { 0 = 0 }; place = 0; amount = 0 })).amount < 2 ^ 32;
  own : IsOwnWord l.topology l.own;
}
