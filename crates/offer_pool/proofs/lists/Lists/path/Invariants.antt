use Rattle.std.proofs.Common.{◌≡◌, ◌-◌, ◌<◌, ◌≤◌, ◌++◌, length, map}
use Rattle.std.specs.Option.{IfSome}
use Rattle.map_model.specs.Market.{climb, path}
use Rattle.offer_pool.proofs.lists.Lists.path.Given as goal

abbrev pub invariant-loop-step : goal.invariant-loop-step
invariant-loop-step l = record {
  there : IfSome l.at (λ n. n.0 < length l.self.nodes);
  few : length l.path.items ≤ l._step;
  so_far : map (λ n. n.0) l.path.items ++ climb (8 - l._step) l.self l.at ≡ path l.self l.fn.node.0;
}
