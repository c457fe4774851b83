-- What the topology of a world of n groups is read as, and the batches that its feed says.
use Rattle.std.specs.Prelude.{◌≡◌, ◌≢◌, ℕ, ◌+◌, ◌*◌, ◌==◌, List, [], length, map, All, Ok, if◌then◌else◌}
use Rattle.std.specs.List.{range_with_len}
use Rattle.map_model.specs.declared.change.Change.{Change}
use Rattle.map_model.specs.declared.change.Change.TheVariants.{Demand, Capacity}
use Rattle.text_parts.specs.Parts.{whole_lines}
use Rattle.topology_text.specs.Faults.{reading}
use Rattle.topology_text.specs.Names.{entries_of}
use Rattle.topology_text.specs.Plan.{Plan}
use Rattle.topology_text.specs.Prefixes.{all_prefixes}
use Rattle.topology_text.specs.Topology.{plan_of}
use Rattle.topology_text.specs.Walk.{walk}
use Rattle.demand_feed.specs.Task.{batch, tasks}
use Rattle.big_world.specs.Feed.{behind_batch, behind_change, feed_of}
use Rattle.big_world.specs.Numbers.{behind, draw}
use Rattle.big_world.specs.Pieces.{ahead}
use Rattle.big_world.specs.Topology.{ahead_of_feed, regions_of, topology_of}
use Rattle.big_world.specs.World.{world_of}

-- what the topology says
unfoldable pub world_plan : ℕ → Plan
world_plan n = plan_of (entries_of (world_of n)) (all_prefixes (walk (world_of n)))

-- the number of pool j of region i among the nodes
abbrev pub pool_node : ℕ → ℕ → ℕ
pool_node i j = 5 * i + 1 + j

-- the change that a line of the feed says, drawn behind x
unfoldable pub change_at : ℕ → ℕ → Change
change_at n x =
    if draw x 1 2 == 0
    then Demand (record { 0 = draw (behind x 1) 1 n }) (1 + draw (behind x 1) 2 15)
    else Capacity (record { 0 = pool_node (draw (behind x 1) 1 (regions_of n)) (draw (behind x 1) 2 4) }) (draw (behind x 1) 3 30)

-- the changes of a batch, drawn behind x
abbrev pub changes_at : ℕ → ℕ → List Change
changes_at n x = map (λ k. change_at n (ahead behind_change x k)) (range_with_len 0 4)

-- the batches of the feed
abbrev pub batches_of : ℕ → List (List Change)
batches_of n = map (λ k. changes_at n (ahead behind_batch (ahead_of_feed n) k)) (range_with_len 0 16)

-- what the two texts of a world say: the topology has no fault, and the feed is sixteen batches, none of which is empty
pub record IsWorld (n : ℕ) : Type 0 where
  pub topology : reading (topology_of n) ≡ Ok (world_plan n)
  pub feed : tasks (world_plan n) (whole_lines (feed_of n)) ≡ map batch (batches_of n)
  pub sixteen : length (batches_of n) ≡ 16
  pub none_empty : All (λ changes. changes ≢ []) (batches_of n)
