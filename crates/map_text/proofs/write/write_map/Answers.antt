use Rattle.std.proofs.Common.{ap, sym, subst, ◌∙◌}
use Rattle.map_model.proofs.MapForm.{offers-AreLines}
use Rattle.map_text.specs.Named.{AreNamed, AreOffers}
use Rattle.map_text.specs.Reading.{map_of}
use Rattle.map_text.specs.Writing.{mapped}
use Rattle.map_text.proofs.Again.{Fit, all_named, map_again}
use Rattle.map_text.proofs.Pieces.{text_written}
use Rattle.map_text.proofs.write.write_map.Goals as goal

pub push_places-requires-clause-offers : goal.push_places-requires-clause-offers
push_places-requires-clause-offers c = subst (AreOffers c.args.topology.now.market) (sym c.as_slice.ensures.value) (offers-AreLines c.args.topology.now.market c.args.map.now.lines.items c.requires.of_lines)

pub push_names-requires-clause-named : goal.push_names-requires-clause-named
push_names-requires-clause-named c = subst (AreNamed c.args.topology.now.market) (sym c.as_slice-2.ensures.value) (all_named c.args.topology.now.market c.args.map.now.names.items c.requires.of_names)

pub returns-clause-text : goal.returns-clause-text
returns-clause-text c =
    text_written c.args.topology.now (mapped c.args.map.now) c.in_ok-text.text.items c.push_places.new.text.items c.push_names.new.text.items c.extend_from_slice.new.self.items c.as_slice.result.now c.as_slice-2.result.now
    c.as_slice.ensures.value c.as_slice-2.ensures.value c.in_ok-text.ensures.items c.in_ok-push_places.ensures.text c.in_ok-push_names.ensures c.in_ok-extend_from_slice.ensures.items

pub returns-clause-again : goal.returns-clause-again
returns-clause-again c =
    let t = c.args.topology.now in
    let m = mapped c.args.map.now in
    ap (map_of t) (text_written t m c.in_ok-text.text.items c.push_places.new.text.items c.push_names.new.text.items c.extend_from_slice.new.self.items c.as_slice.result.now c.as_slice-2.result.now
    c.as_slice.ensures.value c.as_slice-2.ensures.value c.in_ok-text.ensures.items c.in_ok-push_places.ensures.text c.in_ok-push_names.ensures c.in_ok-extend_from_slice.ensures.items)
    ∙ map_again t c.instance-instance.ensures.plan m c.requires (subst Fit c.as_slice.ensures.value c.in_ok-push_places.ensures.fits)
