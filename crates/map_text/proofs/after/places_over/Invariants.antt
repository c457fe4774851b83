use Rattle.std.proofs.Common.{◌≡◌, ◌++◌, List}
use Rattle.std.specs.List.{flat_map}
use Rattle.map_text.specs.Cutting.{AreCuts, IsTextOf, place_text}
use Rattle.map_text.specs.Named.{AreOffers}
use Rattle.map_text.specs.declared.cutting.Cut.{Cut}
use Rattle.map_text.proofs.after.places_over.Given as goal

abbrev pub invariant-loop-piece : goal.invariant-loop-piece
invariant-loop-piece l = record {
  written : l.text.items ++ flat_map (place_text l.topology) l.rest ≡ l.initial.text.items ++ flat_map (place_text l.topology) l.lines;
  offers : AreOffers l.topology.market l.rest;
  left : IsTextOf (place_text l.topology) l.left.text.now l.left.of.now l.left.cuts.now;
  cuts : (cs : List Cut) → AreCuts (place_text l.topology) l.rest cs → AreCuts (place_text l.topology) l.lines (l.cuts.items ++ cs);
}
