use Rattle.std.proofs.Common.{sym}
use Rattle.name_text.proofs.Forms.{is_name}
use Rattle.name_text.proofs.read.read_name.Goals as goal

pub invariant_of-result : goal.invariant_of-result
invariant_of-result c = is_name _ c.in-Some-wire_of.octets.items (sym c.in-None.ensures) c.in-Some-wire_of.ensures
