use Rattle.std.proofs.Common.{length, ap, arith}
use Rattle.answer_core.proofs.services.labels_part.Goals as goal
use Rattle.name_text.proofs.Forms.{some_wire}

pub slice_bounds-result-count : goal.slice_bounds-result-count
slice_bounds-result-count c = let form = c.wire-octets.ensures.form in omega (arith, some_wire form.labels, ap length form.spelled, ap length c.wire-octets.ensures.octets)
