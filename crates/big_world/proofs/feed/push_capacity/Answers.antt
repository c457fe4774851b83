use Rattle.std.proofs.Common.{append_assoc}
use Rattle.big_world.proofs.Numbers.{behind_two, draw_three, draw_two}
use Rattle.big_world.proofs.feed.push_capacity.Goals as goal

pub returns-clause-text : goal.returns-clause-text
returns-clause-text c =
    simp (
      c.in_ok-push_number-3.ensures,
      c.in_ok-push_number-2.ensures,
      c.in_ok-push_number.ensures,
      c.below-capacity.ensures.drawn,
      c.below-pool.ensures.drawn,
      c.below-region.ensures.drawn,
      c.below-pool.ensures.last,
      c.below-region.ensures.last,
      c.regions_of.ensures.regions,
      behind_two,
      draw_three,
      draw_two,
      append_assoc,
    )
