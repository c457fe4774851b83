use Rattle.std.proofs.Common.{arith}
use Rattle.evict.proofs.Shaped.{load-shape}
use Rattle.deferred_accept.proofs.room.room_at.Goals as goal

pub overflow_sub-result : goal.overflow_sub-result
overflow_sub-result c =
    omega (arith, c.load.ensures, c.capacity.ensures, c.requires.ready.resumable.capacities c.args.node.0 c.requires.node, load-shape c.args.state.now.market c.args.instance.now c.requires.ready.shape c.args.state.now.lines c.args.node.0)

pub returns-else-any : goal.returns-else-any
returns-else-any c = λ out.
    omega (arith, c.load.ensures, c.capacity.ensures, c.requires.ready.resumable.capacities c.args.node.0 c.requires.node, load-shape c.args.state.now.market c.args.instance.now c.requires.ready.shape c.args.state.now.lines c.args.node.0)
