use Rattle.std.proofs.Common.{ap, sym, ◌∙◌, ◌∷◌, []}
use Rattle.name_text.specs.Names.{short_wire}
use Rattle.name_text.proofs.Forms.{alone, is_name, label_alone, label_reads, label_refused, sound_label}
use Rattle.name_text.proofs.read.read_label.Goals as goal

pub invariant_of-result : goal.invariant_of-result
invariant_of-result c =
    is_name (c.args.text.now ∷ []) c.in-Some-wire_of.octets.items (label_alone c.args.text.now (sym c.in-None.ensures))
    (c.in-Some-wire_of.ensures ∙ ap short_wire (alone c.args.text.now (sound_label c.args.text.now (sym c.in-None.ensures)).good))

pub returns-in-Some-wire_of : goal.returns-in-Some-wire_of
returns-in-Some-wire_of c = label_reads c.args.text.now c.in-Some-wire_of.octets.items (sym c.in-None.ensures) c.in-Some-wire_of.ensures

pub returns-in-None-wire_of : goal.returns-in-None-wire_of
returns-in-None-wire_of c = label_refused c.args.text.now (sym c.in-None.ensures) c.in-None-wire_of.ensures
