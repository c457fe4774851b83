use Rattle.std.proofs.Common.{ap, sym, ◌∙◌}
use Rattle.topology_text.specs.Code.{entries}
use Rattle.topology_text.specs.Names.{is_other}
use Rattle.topology_text.proofs.UnitNumbers.{taken_among, taken_before}
use Rattle.topology_text.proofs.links.is_taken_class.Goals as goal

pub returns-in-Some : goal.returns-in-Some
returns-in-Some c =
    let d = entries c.args.index.now in
    sym (taken_before d.groups d.classes c.args.i c.in-Some.field-0 c.args.name.now (sym c.group_number.ensures ∙ c.in-Some.is))

pub returns-in-None : goal.returns-in-None
returns-in-None c =
    let d = entries c.args.index.now in
    c.is_other.ensures
    ∙ ap (λ o. is_other o c.args.i) c.class_number.ensures
    ∙ sym (taken_among d.groups d.classes c.args.i c.args.name.now (sym c.group_number.ensures ∙ c.in-None.is))
