use Rattle.std.proofs.Common.{subst}
use Rattle.topology_text.specs.Units.{AreUnits}
use Rattle.topology_text.proofs.UnitTable.{few_services}
use Rattle.topology_text.proofs.classes.Classes.new.Goals as goal

pub invariant_of-result : goal.invariant_of-result
invariant_of-result c = (
  subst (λ ps. AreUnits c.in_ok-units.units.items (record { groups = c.args.groups; pairs = ps })) c.as_slice.ensures.value c.in_ok-units.ensures,
  (few_services c.args.groups c.args.pairs.items c.requires.served, tt),
)
