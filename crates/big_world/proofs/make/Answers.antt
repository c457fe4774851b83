-- The topology from its groups, its nodes and its zone.
use Rattle.std.proofs.Common.{append_assoc}
use Rattle.big_world.proofs.make.Goals as goal

pub returns-clause-topology : goal.returns-clause-topology
returns-clause-topology c =
    simp (
      c.in_ok-extend_from_slice-2.ensures.items,
      c.in_ok-extend_from_slice.ensures.items,
      c.as_slice.ensures.value,
      c.in_ok-push_groups.ensures.text,
      c.in_ok-push_nodes.ensures.text,
      c.in_ok-push_nodes.ensures.last,
      c.new-topology.ensures.text,
      c.new-nodes.ensures.text,
      c.new-topology.ensures.last,
      c.new-nodes.ensures.last,
      c.from.ensures,
      append_assoc,
    )
