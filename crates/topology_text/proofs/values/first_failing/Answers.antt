use Rattle.std.proofs.Common.{ap, ◌∙◌}
use Rattle.topology_text.specs.Walk.{first}
use Rattle.topology_text.proofs.Looked.{failing-array}
use Rattle.topology_text.proofs.values.first_failing.Goals as goal

pub returns-in-Array : goal.returns-in-Array
returns-in-Array g c =
    c.first_item.ensures
    ∙ ap first (failing-array (g.T.Test.fails c.args.test.now c.args.key) c.args.value.now c.in-Array.items c.as_slice.result.now c.in-Array.is c.as_slice.ensures.value)
