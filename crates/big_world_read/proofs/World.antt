-- What the two texts of a world are read as.
use Rattle.std.proofs.Common.{append-nil, ◌≡◌, ℕ, ◌≤◌, ap, ◌∙◌}
use Rattle.std.specs.Prelude.{Ok, map}
use Rattle.text_parts.specs.Parts.{whole_lines}
use Rattle.topology_text.specs.Faults.{reading}
use Rattle.topology_text.specs.Names.{Entries, units_of}
use Rattle.topology_text.specs.Plan.{number_in}
use Rattle.topology_text.specs.Topology.{name_of}
use Rattle.demand_feed.specs.Task.{batch, tasks}
use Rattle.big_world.specs.declared.TheConstants.{LARGEST_WORLD}
use Rattle.big_world.specs.Feed.{feed_of}
use Rattle.big_world.specs.Topology.{group_name, pool_name, topology_of}
use Rattle.big_world.specs.World.{groups_data}
use Rattle.big_world_read.specs.Read.{batches_of, world_plan}
use Rattle.big_world_read.proofs.Batches.{KnowsGroups, KnowsPools, batches}
use Rattle.big_world_read.proofs.Names.{group_in_plan, pool_in_plan}
use Rattle.big_world_read.proofs.NoFault.{topology_read}
use Rattle.big_world_read.proofs.Walked.{entries_are}

-- the plan knows the groups and the pools
knows_groups : (n : ℕ) → n ≤ LARGEST_WORLD → KnowsGroups (world_plan n) n
unfolding world_plan
knows_groups n small i within = ap (λ (d : Entries). number_in (map name_of (units_of d)) (group_name i)) (entries_are n) ∙ ap (λ ds. number_in (map name_of ds) (group_name i)) (append-nil (groups_data n)) ∙ group_in_plan n i small within

knows_pools : (n : ℕ) → n ≤ LARGEST_WORLD → KnowsPools (world_plan n) n
unfolding world_plan
knows_pools n small i j within less = ap (λ (d : Entries). number_in (map name_of d.nodes) (pool_name i j)) (entries_are n) ∙ pool_in_plan n i j small within less

pub world_reads : (n : ℕ) → 1 ≤ n → n ≤ LARGEST_WORLD → reading (topology_of n) ≡ Ok (world_plan n)
world_reads n some small = topology_read n some small

pub world_batches : (n : ℕ) → 1 ≤ n → n ≤ LARGEST_WORLD → tasks (world_plan n) (whole_lines (feed_of n)) ≡ map batch (batches_of n)
world_batches n some small = batches (world_plan n) n some small (knows_groups n small) (knows_pools n small)
