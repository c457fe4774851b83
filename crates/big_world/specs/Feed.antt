-- The feed of a world of n groups.
use Rattle.std.specs.Prelude.{ℕ, ◌+◌, ◌==◌, ◌++◌, List, codes, if◌then◌else◌}
use Rattle.std.specs.Fmt.{decimal}
use Rattle.big_world.specs.Numbers.{behind, draw}
use Rattle.big_world.specs.Pieces.{ahead, pieces}
use Rattle.big_world.specs.Topology.{ahead_of_feed, line, pool_name, regions_of}

-- another demand of a group, 1 to 15, drawn behind x
abbrev pub demand_text : ℕ → ℕ → List ℕ
demand_text n x = line (codes "demand g" ++ decimal (draw x 1 n) ++ codes " " ++ decimal (1 + draw x 2 15))

-- another capacity of a pool, 0 to 29, drawn behind x
abbrev pub capacity_text : ℕ → ℕ → List ℕ
capacity_text n x = line (codes "capacity " ++ pool_name (draw x 1 (regions_of n)) (draw x 2 4) ++ codes " " ++ decimal (draw x 3 30))

-- a line, drawn behind x: the first draw says of which kind it is
unfoldable pub change_text : ℕ → ℕ → List ℕ
change_text n x = if draw x 1 2 == 0 then demand_text n (behind x 1) else capacity_text n (behind x 1)

-- what stands behind a line
unfoldable pub behind_change : ℕ → ℕ
behind_change x = if draw x 1 2 == 0 then behind (behind x 1) 2 else behind (behind x 1) 3

-- a batch: four lines and its end
unfoldable pub batch_text : ℕ → ℕ → List ℕ
batch_text n x = pieces (λ _. change_text n) behind_change x 4 ++ line (codes "commit")

-- what stands behind a batch
unfoldable pub behind_batch : ℕ → ℕ
behind_batch x = ahead behind_change x 4

-- the feed: sixteen batches, and the word that ends it
abbrev pub feed_of : ℕ → List ℕ
feed_of n = pieces (λ _. batch_text n) behind_batch (ahead_of_feed n) 16 ++ line (codes "stop")
