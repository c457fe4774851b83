use Rattle.std.proofs.Common.{◌≡◌, ◌++◌, ◌∙◌, ap, map, sym}
use Rattle.topology_text.specs.Code.{entries, visit}
use Rattle.topology_text.specs.Faults.{checked, list_faults, name_faults, prefix_faults, shape_faults, value_faults}
use Rattle.topology_text.specs.Prefixes.{duplicate_prefixes, no_default}
use Rattle.topology_text.specs.declared.fault.TopologyFault.TheVariants.{DuplicatePrefix, NoDefault}
use Rattle.topology_text.proofs.Checked.{same_here, same_on}
use Rattle.topology_text.proofs.read.check.Goals as goal

pub returns-in-Err : goal.returns-in-Err
returns-in-Err c =
    let d = entries c.args.index.now in
    let visits = map visit c.args.tables.now in
    let own : c.check_prefixes.result ≡ checked (prefix_faults visits) = c.check_prefixes.ensures ∙ ap (λ ps. checked (map DuplicatePrefix (duplicate_prefixes ps) ++ map NoDefault (no_default ps))) c.requires.prefixes in
    sym c.in-Err.is ∙ own
    ∙ same_here (prefix_faults visits) (list_faults d visits) _ (sym own ∙ c.in-Err.is)
    ∙ same_on (value_faults visits) (prefix_faults visits ++ list_faults d visits) _ (sym c.check_values.ensures ∙ c.in_ok-check_values.was)
    ∙ same_on (name_faults d visits) (value_faults visits ++ (prefix_faults visits ++ list_faults d visits)) _ (sym c.check_names.ensures ∙ c.in_ok-check_names.was)
    ∙ same_on (shape_faults visits) (name_faults d visits ++ (value_faults visits ++ (prefix_faults visits ++ list_faults d visits))) _ (sym c.check_shape.ensures ∙ c.in_ok-check_shape.was)
