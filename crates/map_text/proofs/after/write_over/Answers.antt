use Rattle.std.proofs.Common.{◌++◌, List, ℕ, codes, ap, sym, subst, ◌∙◌}
use Rattle.map_model.proofs.MapForm.{offers-AreLines}
use Rattle.map_text.specs.Named.{AreNamed, AreOffers}
use Rattle.map_text.specs.Writing.{ended, mapped}
use Rattle.map_text.proofs.Again.{all_named}
use Rattle.map_text.proofs.Pieces.{text_written}
use Rattle.map_text.proofs.after.write_over.Goals as goal

pub places_over-requires-clause-offers : goal.places_over-requires-clause-offers
places_over-requires-clause-offers c = subst (AreOffers c.args.topology.now.market) (sym c.as_slice.ensures.value) (offers-AreLines c.args.topology.now.market c.args.map.now.lines.items c.requires.form.of_lines)

pub names_over-requires-clause-named : goal.names_over-requires-clause-named
names_over-requires-clause-named c = subst (AreNamed c.args.topology.now.market) (sym c.as_slice-2.ensures.value) (all_named c.args.topology.now.market c.args.map.now.names.items c.requires.form.of_names)

pub returns-clause-text : goal.returns-clause-text
returns-clause-text c =
    text_written c.args.topology.now (mapped c.args.map.now) c.extend_from_slice.new.self.items c.places_over.new.text.items c.names_over.new.text.items c.extend_from_slice-2.new.self.items c.as_slice.result.now c.as_slice-2.result.now
    c.as_slice.ensures.value c.as_slice-2.ensures.value (c.in_ok-extend_from_slice.ensures.items ∙ ap (λ (xs : List ℕ). xs ++ ended (codes "glb map 2")) c.in_ok-text.ensures.items)
    c.in_ok-of_places.ensures.text c.in_ok-of_names.ensures.text c.in_ok-extend_from_slice-2.ensures.items
