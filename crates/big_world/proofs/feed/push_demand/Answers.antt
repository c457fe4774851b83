use Rattle.std.proofs.Common.{append_assoc}
use Rattle.big_world.proofs.Numbers.{draw_two}
use Rattle.big_world.proofs.feed.push_demand.Goals as goal

pub returns-clause-text : goal.returns-clause-text
returns-clause-text c =
    simp (c.in_ok-push_number-2.ensures, c.in_ok-push_number.ensures, c.below-demand.ensures.drawn, c.below-group.ensures.drawn, c.below-group.ensures.last, draw_two, append_assoc)
