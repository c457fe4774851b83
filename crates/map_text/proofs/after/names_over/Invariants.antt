use Rattle.std.proofs.Common.{◌≡◌, ◌++◌, List}
use Rattle.std.specs.List.{flat_map}
use Rattle.map_text.specs.Cutting.{AreCuts, IsTextOf, name_text}
use Rattle.map_text.specs.Named.{AreNamed}
use Rattle.map_text.specs.declared.cutting.Cut.{Cut}
use Rattle.map_text.proofs.after.names_over.Given as goal

abbrev pub invariant-loop-piece : goal.invariant-loop-piece
invariant-loop-piece l = record {
  written : l.text.items ++ flat_map (name_text l.topology) l.rest ≡ l.initial.text.items ++ flat_map (name_text l.topology) l.names;
  named : AreNamed l.topology.market l.rest;
  left : IsTextOf (name_text l.topology) l.left.text.now l.left.of.now l.left.cuts.now;
  cuts : (cs : List Cut) → AreCuts (name_text l.topology) l.rest cs → AreCuts (name_text l.topology) l.names (l.cuts.items ++ cs);
}
