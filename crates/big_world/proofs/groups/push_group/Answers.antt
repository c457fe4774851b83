-- A group from its lines, and where the draws stand behind it.
use Rattle.std.proofs.Common.{append_assoc}
use Rattle.big_world.proofs.Numbers.{draw_two}
use Rattle.big_world.specs.Numbers.{draw}
use Rattle.big_world.specs.Topology.{entry_text, group_text}
use Rattle.big_world.proofs.groups.push_group.Goals as goal

pub returns-clause-text : goal.returns-clause-text
unfolding group_text entry_text draw
returns-clause-text c =
    simp (
      c.in_ok-extend_from_slice.ensures.items,
      c.in_ok-push_scores_line.ensures.text,
      c.in_ok-push_prefixes_line.ensures,
      c.in_ok-push_pools_line.ensures,
      c.in_ok-push_head.ensures,
      c.below-start.ensures.drawn,
      c.below-length.ensures.drawn,
      c.below-demand.ensures.drawn,
      c.below-start.ensures.last,
      c.below-length.ensures.last,
      c.below-demand.ensures.last,
      c.pools_of-pools.ensures.pools,
      c.min.ensures,
      append_assoc,
    )

pub returns-clause-last : goal.returns-clause-last
returns-clause-last c =
    simp (
      c.in_ok-push_scores_line.ensures.last,
      c.below-start.ensures.last,
      c.below-length.ensures.drawn,
      c.below-length.ensures.last,
      c.below-demand.ensures.last,
      c.pools_of-pools.ensures.pools,
      c.min.ensures,
      draw_two,
    )
