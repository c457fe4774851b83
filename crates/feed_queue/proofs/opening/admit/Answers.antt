use Rattle.std.proofs.Common.{◌<◌, ap, arith}
use Rattle.crossbeam_queue.specs.Passes.{view}
use Rattle.feed_queue.proofs.Rules.{forks}
use Rattle.feed_queue.proofs.opening.admit.Goals as goal

pub another-pass-requires-clause-rule : goal.another-pass-requires-clause-rule
another-pass-requires-clause-rule g c =
    let few : (view c.taker.inside.pass).feeders < 4 = omega (arith, c.requires.few, c.taker.invariant.2, ap (λ t. t.feeders) c.taker.view_is) in
    forks g.N.Numbers.groups g.N.Numbers.nodes _ _ c.taker.invariant.1 few
