use Rattle.std.proofs.Common.{◌≡◌}
use Rattle.crossbeam_queue.specs.Passes.{view, IsSamePass}
use Rattle.feed_queue.proofs.feeder.send_by.Given as goal

abbrev pub invariant-loop : goal.invariant-loop
invariant-loop g l = (l.rest ≡ l.fn.item) × IsSamePass l.fn.pass l.pass × (view l.pass ≡ view l.fn.pass)
