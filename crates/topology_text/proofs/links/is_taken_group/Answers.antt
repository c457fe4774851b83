use Rattle.std.proofs.Common.{ap, option_map, sym, ◌∙◌, ◌+◌, length}
use Rattle.std.proofs.lemmas.List.{length-map}
use Rattle.toml.specs.View.{view}
use Rattle.topology_text.specs.Code.{entries}
use Rattle.topology_text.specs.Names.{is_other, number_of}
use Rattle.topology_text.proofs.UnitNumbers.{taken_by_class, taken_by_group}
use Rattle.topology_text.proofs.links.is_taken_group.Goals as goal

pub returns-in-Some : goal.returns-in-Some
returns-in-Some c =
    let d = entries c.args.index.now in
    sym (taken_by_group d.groups d.classes c.args.i c.in-Some.first c.args.name.now (sym c.group_number.ensures ∙ c.in-Some.is))

pub returns-in-None : goal.returns-in-None
returns-in-None c =
    let d = entries c.args.index.now in
    c.is_other_class.ensures
    ∙ ap (λ o. is_other (option_map (λ n. length c.groups.result.now + n) o) c.args.i) c.class_number.ensures
    ∙ ap (λ g. is_other (option_map (λ n. g + n) (number_of d.classes c.args.name.now)) c.args.i) (ap length c.groups.ensures ∙ sym (length-map c.args.index.now.groups.now view))
    ∙ sym (taken_by_class d.groups d.classes c.args.i c.args.name.now (sym c.group_number.ensures ∙ c.in-None.is))
