use Rattle.std.proofs.Common.{◌≡◌, ◌≤◌, ◌-◌, ◌*◌, ℕ, List, length}
use Rattle.std.specs.List.{concat}
use Rattle.outside.specs.Faults.{BothTell}
use Rattle.demand_feed.specs.Limits.{read_size}
use Rattle.demand_feed.specs.Runs.{HasRead}
use Rattle.demand_feed.specs.Working.{IsReady, Reads}
use Rattle.demand_feed.proofs.run.run_lines.Given as goal

abbrev pub invariant-pieces : goal.invariant-pieces
invariant-pieces g l = record {
  size : length l.buffer ≡ read_size;
  used : l.used ≤ l.turns;
  ready : IsReady g.T.TakesTasks.market g.T.TakesTasks.left l.topology l.clerk l.to (read_size * (l.turns - l.used));
  came : (pieces : List (List ℕ)) × (length pieces ≡ l.used) × BothTell (g.S.Source.told l.fn.feed).past (g.S.Source.told l.feed).past (HasRead pieces) × Reads g.T.TakesTasks.does l.topology l.fn.to (concat pieces) l.cutter l.clerk l.to;
  feed : (g.S.Source.told l.feed).faults ≡ (g.S.Source.told l.fn.feed).faults;
}

abbrev pub decreases-pieces : goal.decreases-pieces
decreases-pieces g l = l.turns - l.used
