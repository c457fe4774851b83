-- The topology of a world of n groups, as a text.
use Rattle.std.specs.Prelude.{◌≡◌, refl, ℕ, ◌+◌, ◌-◌, ◌*◌, ◌/◌, ◌%◌, ◌==◌, ◌++◌, List, [], ◌∷◌, min, codes, if◌then◌else◌}
use Rattle.std.specs.Fmt.{decimal}
use Rattle.big_world.specs.declared.TheConstants.{LARGEST_WORLD, ZONE}
use Rattle.big_world.specs.Numbers.{behind, draw}
use Rattle.big_world.specs.Pieces.{ahead, listed, pieces, texts_below}

-- the constant of the code is this numeral: a world has at most so many groups
pub largest_world_is : LARGEST_WORLD ≡ 16384
largest_world_is = refl

-- a line and its end
abbrev pub line : List ℕ → List ℕ
line text = text ++ 10 ∷ []

-- a text in quotes
abbrev pub quoted : List ℕ → List ℕ
quoted text = 34 ∷ text ++ 34 ∷ []

-- how many regions there are; how many nodes, five for each region; and how many of these are pools, four of each five
abbrev pub regions_of : ℕ → ℕ
regions_of n = 1 + n / 64

abbrev pub nodes_of : ℕ → ℕ
nodes_of n = 5 * regions_of n

abbrev pub pools_of : ℕ → ℕ
pools_of n = 4 * regions_of n

-- the name of a region, and of pool j in it
abbrev pub region_name : ℕ → List ℕ
region_name i = codes "r" ++ decimal i

abbrev pub pool_name : ℕ → ℕ → List ℕ
pool_name i j = region_name i ++ codes "-" ++ decimal j

-- the name of pool q of all
abbrev pub name_of_pool : ℕ → List ℕ
name_of_pool q = pool_name (q / 4) (q % 4)

-- the name of a group
abbrev pub group_name : ℕ → List ℕ
group_name i = codes "g" ++ decimal i

-- the address of pool j of region i
abbrev pub host_text : ℕ → ℕ → List ℕ
host_text i j = codes "10." ++ decimal (i / 256) ++ codes "." ++ decimal (i % 256) ++ codes "." ++ decimal (j + 1)

-- the prefix of group i, which holds 256 addresses
abbrev pub block_text : ℕ → List ℕ
block_text i = codes "100." ++ decimal (64 + i / 256) ++ codes "." ++ decimal (i % 256) ++ codes ".0/24"

-- the lines of a node
unfoldable pub address_line : ℕ → ℕ → List ℕ
address_line i j = line (codes "a = [" ++ quoted (host_text i j) ++ codes "]")

unfoldable pub capacity_line : ℕ → List ℕ
capacity_line capacity = line (codes "capacity = " ++ decimal capacity)

unfoldable pub name_line : List ℕ → List ℕ
name_line name = line (codes "name = " ++ quoted name)

unfoldable pub parent_line : ℕ → List ℕ
parent_line i = line (codes "parent = " ++ quoted (region_name i))

-- region i of that capacity, and pool j of it, each with an empty line behind it
unfoldable pub region_text : ℕ → ℕ → List ℕ
region_text i capacity = line (codes "[[node]]") ++ capacity_line capacity ++ name_line (region_name i) ++ line []

unfoldable pub pool_text : ℕ → ℕ → ℕ → List ℕ
pool_text i j capacity = line (codes "[[node]]") ++ address_line i j ++ capacity_line capacity ++ name_line (pool_name i j) ++ parent_line i ++ line (codes "pool = true") ++ line []

-- the capacity of node p, drawn behind x: a region holds 40 to 79, a pool 10 to 29
unfoldable pub capacity_of : ℕ → ℕ → ℕ
capacity_of p x = if p % 5 == 0 then 40 + draw x 1 40 else 10 + draw x 1 20

-- node p, drawn behind x: the first of each five is a region, and its four pools follow it
unfoldable pub node_text : ℕ → ℕ → List ℕ
node_text p x = if p % 5 == 0 then region_text (p / 5) (capacity_of p x) else pool_text (p / 5) (p % 5 - 1) (capacity_of p x)

-- the length of a group's list, drawn behind x: 1 to 8, and no more than there are pools
abbrev pub length_at : ℕ → ℕ → ℕ
length_at n x = 1 + draw x 2 (min 8 (pools_of n))

-- the pool at place t of a list that starts at pool s, round all of them
abbrev pub listed_pool : ℕ → ℕ → ℕ → ℕ
listed_pool n s t = (s + t) % pools_of n

-- the score at place t, drawn behind x
abbrev pub score_at : ℕ → ℕ → ℕ
score_at x t = draw x (1 + t) 1000

-- the lines of a group: its demand, its list from pool s on, its prefixes (group 0 has those that hold every address), and the scores of the list
unfoldable pub demand_line : ℕ → List ℕ
demand_line demand = line (codes "demand = " ++ decimal demand)

unfoldable pub pools_text : ℕ → ℕ → ℕ → List ℕ
pools_text n s = listed (λ t. quoted (name_of_pool (listed_pool n s t)))

unfoldable pub prefixes_text : ℕ → List ℕ
prefixes_text i = if i == 0 then codes "\"0.0.0.0/0\", \"::/0\"" else quoted (block_text i)

unfoldable pub scores_text : ℕ → ℕ → List ℕ
scores_text x = listed (λ t. decimal (score_at x t))

unfoldable pub pools_line : ℕ → ℕ → ℕ → List ℕ
pools_line n s length = line (codes "pools = [" ++ pools_text n s length ++ codes "]")

unfoldable pub prefixes_line : ℕ → List ℕ
prefixes_line i = line (codes "prefixes = [" ++ prefixes_text i ++ codes "]")

unfoldable pub scores_line : ℕ → ℕ → List ℕ
scores_line x length = line (codes "scores = [" ++ scores_text x length ++ codes "]")

-- group i with that demand, a list of that length from pool s on, and scores drawn behind x, with an empty line behind it
unfoldable pub entry_text : ℕ → ℕ → ℕ → ℕ → ℕ → ℕ → List ℕ
entry_text n i demand s length x = line (codes "[[group]]") ++ demand_line demand ++ name_line (group_name i) ++ pools_line n s length ++ prefixes_line i ++ scores_line x length ++ line []

-- group i, drawn behind x: a demand from 1 up to 15, the length of its list, where it starts, and its scores
unfoldable pub group_text : ℕ → ℕ → ℕ → List ℕ
group_text n i x = entry_text n i (1 + draw x 1 15) (draw x 3 (pools_of n)) (length_at n x) (behind x 3)

-- what stands behind a group
abbrev pub behind_group : ℕ → ℕ → ℕ
behind_group n x = behind (behind x 3) (length_at n x)

-- what stands ahead of the groups, behind one number for each node; and ahead of the feed
abbrev pub ahead_of_groups : ℕ → ℕ
ahead_of_groups n = behind n (nodes_of n)

abbrev pub ahead_of_feed : ℕ → ℕ
ahead_of_feed n = ahead (behind_group n) (ahead_of_groups n) n

-- the nodes, from the size of the world on
abbrev pub nodes_text : ℕ → List ℕ
nodes_text n = texts_below (λ p. node_text p (behind n p)) (nodes_of n)

-- the groups
abbrev pub groups_text : ℕ → List ℕ
groups_text n = pieces (group_text n) (behind_group n) (ahead_of_groups n) n

-- the topology: its groups, its nodes, and its zone
abbrev pub topology_of : ℕ → List ℕ
topology_of n = groups_text n ++ nodes_text n ++ ZONE.now
