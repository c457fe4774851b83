use Rattle.std.proofs.Common.{sym}
use Rattle.toml.proofs.Views.{view-Array}
use Rattle.topology_text.proofs.Looked.{list_of-view}
use Rattle.topology_text.proofs.visited.items_of_value.Goals as goal

pub returns-in-Array : goal.returns-in-Array
returns-in-Array c =
    rw (c.as_slice.ensures.value, c.in-Array.is, view-Array c.in-Array.items) (sym (list_of-view c.in-Array.items.items))
