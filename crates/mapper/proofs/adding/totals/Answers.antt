use Rattle.std.proofs.Common.{refl}
use Rattle.mapper.specs.Words.{totals_of}
use Rattle.mapper.proofs.adding.totals.Goals as goal

pub returns : goal.returns
unfolding totals_of
returns c = λ v market lines. rw (market, lines, c.placed_sum.ensures, c.unplaced_sum.ensures, c.full_count.ensures) refl
