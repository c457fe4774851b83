use Rattle.std.proofs.Common.{◌≡◌, take, fold, length}
use Rattle.published_map.specs.Changes.{put_row}
use Rattle.published_map.proofs.version.MapVersion.put_rows.Given as goal

abbrev pub invariant-loop-row : goal.invariant-loop-row
invariant-loop-row l = (l.self ≡ fold put_row l.fn.self (take l.row-index l.rows)) × (length l.self.market.groups ≡ length l.fn.self.market.groups) × (l.self.market.nodes ≡ l.fn.self.market.nodes)
