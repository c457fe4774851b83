-- Worked rows: each map that they name is good, as the definitions compute it.
use Rattle.std.proofs.Common.{◌≡◌, ◌≤◌, ℕ, [], ◌∷◌, true, false, None, Some, refl, arith}
use Rattle.map_model.specs.declared.instance.Choice.{Choice}
use Rattle.map_model.specs.declared.instance.Node.{Node as TreeNode}
use Rattle.map_model.specs.declared.lines.By.TheVariants.{Limit, Node}
use Rattle.map_model.specs.declared.lines.MapLine.{MapLine}
use Rattle.map_model.specs.declared.lines.NameLine.{NameLine}
use Rattle.map_model.specs.Market.{Market, climb}
use Rattle.map_model.specs.Allocation.{IsFeasible, IsGood, amount_at, is_wanted, load, placed, refuser_of}
use Rattle.map_model.proofs.Decide.{IsGood-computed}

-- groups, nodes and places by number
abbrev pub choice_within : ℕ → ℕ → ℕ → Choice
choice_within pool score limit = record { pool = record { 0 = pool }; score = score; limit = limit }

abbrev pub choice : ℕ → ℕ → Choice
choice pool score = choice_within pool score 4294967295

abbrev pub root : ℕ → TreeNode
root capacity = record { capacity = capacity; parent = None; is_pool = false }

abbrev pub lone_pool : ℕ → TreeNode
lone_pool capacity = record { capacity = capacity; parent = None; is_pool = true }

abbrev pub pool_under : ℕ → ℕ → TreeNode
pool_under parent capacity = record { capacity = capacity; parent = Some (record { 0 = parent }); is_pool = true }

abbrev pub line : ℕ → ℕ → ℕ → MapLine
line g k amount = record { group = record { 0 = g }; place = k; amount = amount }

abbrev pub name : ℕ → ℕ → ℕ → NameLine
name g k n = record { group = record { 0 = g }; place = k; by = Node (record { 0 = n }) }

abbrev pub name_limit : ℕ → ℕ → NameLine
name_limit g k = record { group = record { 0 = g }; place = k; by = Limit }

-- two-level eviction: R 15; A 10 and B 10 under R; g1 8 [A,B] 1,2; g2 8 [A,B] 3,4
abbrev pub two_level : Market
two_level = record {
  groups = record { demand = 8; choices = choice 1 1 ∷ choice 2 2 ∷ [] } ∷ record { demand = 8; choices = choice 1 3 ∷ choice 2 4 ∷ [] } ∷ [];
  nodes = root 15 ∷ pool_under 0 10 ∷ pool_under 0 10 ∷ [];
}

two_level-good : IsGood two_level (line 0 0 8 ∷ line 1 0 2 ∷ line 1 1 5 ∷ []) (name 1 0 1 ∷ name 1 1 0 ∷ [])
unfolding climb
two_level-good = IsGood-computed two_level (line 0 0 8 ∷ line 1 0 2 ∷ line 1 1 5 ∷ []) (name 1 0 1 ∷ name 1 1 0 ∷ []) refl refl

-- blocking offer: with 4 units of g2 at B the root holds 14, B is wanted, and no node refuses it
blocking-load : load two_level (line 0 0 8 ∷ line 1 0 2 ∷ line 1 1 4 ∷ []) 0 ≡ 14
unfolding climb
blocking-load = refl

blocking-wanted : is_wanted two_level (line 0 0 8 ∷ line 1 0 2 ∷ line 1 1 4 ∷ []) 1 1 ≡ true
blocking-wanted = refl

blocking-refuser : refuser_of two_level (line 0 0 8 ∷ line 1 0 2 ∷ line 1 1 4 ∷ []) 1 1 ≡ None
unfolding climb
blocking-refuser = refl

-- two-level eviction where the first group may hold five units at A, and ten at B
abbrev pub limited : Market
limited = record {
  groups = record { demand = 8; choices = choice_within 1 1 5 ∷ choice_within 2 2 10 ∷ [] } ∷ record { demand = 8; choices = choice 1 3 ∷ choice 2 4 ∷ [] } ∷ [];
  nodes = root 15 ∷ pool_under 0 10 ∷ pool_under 0 10 ∷ [];
}

pub limited-good : IsGood limited (line 0 0 5 ∷ line 0 1 3 ∷ line 1 0 5 ∷ line 1 1 2 ∷ []) (name_limit 0 0 ∷ name 1 0 1 ∷ name 1 1 0 ∷ [])
unfolding climb
limited-good = IsGood-computed limited (line 0 0 5 ∷ line 0 1 3 ∷ line 1 0 5 ∷ line 1 1 2 ∷ []) (name_limit 0 0 ∷ name 1 0 1 ∷ name 1 1 0 ∷ []) refl refl

-- with a unit more at A and one less at B the first group is over its limit there, and nothing else is over
over_limit : amount_at (line 0 0 6 ∷ line 0 1 2 ∷ line 1 0 4 ∷ line 1 1 3 ∷ []) 0 0 ≡ 6
over_limit = refl

over_limit-not-feasible : IsFeasible limited (line 0 0 6 ∷ line 0 1 2 ∷ line 1 0 4 ∷ line 1 1 3 ∷ []) → ⊥
over_limit-not-feasible feasible = absurd (omega (arith, six feasible))
  where
    six : IsFeasible limited (line 0 0 6 ∷ line 0 1 2 ∷ line 1 0 4 ∷ line 1 1 3 ∷ []) → 6 ≤ 5
    six feasible = feasible.limits 0 0 (record { group = omega arith; place = omega arith })

-- where a limit and a node both refuse, the limit is named
limit_first : refuser_of limited (line 0 0 5 ∷ line 0 1 3 ∷ line 1 0 5 ∷ line 1 1 2 ∷ []) 0 0 ≡ Some Limit
unfolding climb
limit_first = refl

-- over demand first: 9 units of g1 at A, which is then over its capacity too
over_demand-placed : placed (line 0 0 9 ∷ line 1 0 2 ∷ line 1 1 5 ∷ []) 0 ≡ 9
over_demand-placed = refl

over_demand-load : load two_level (line 0 0 9 ∷ line 1 0 2 ∷ line 1 1 5 ∷ []) 1 ≡ 11
unfolding climb
over_demand-load = refl

-- refuser no longer full: R 10; A 6 and B 10 under R; a 6 [A] 5; b 4 [A] 6; c 8 [B] 1
abbrev no_longer_full : Market
no_longer_full = record {
  groups = record { demand = 6; choices = choice 1 5 ∷ [] } ∷ record { demand = 4; choices = choice 1 6 ∷ [] } ∷ record { demand = 8; choices = choice 2 1 ∷ [] } ∷ [];
  nodes = root 10 ∷ pool_under 0 6 ∷ pool_under 0 10 ∷ [];
}

no_longer_full-good : IsGood no_longer_full (line 0 0 2 ∷ line 2 0 8 ∷ []) (name 0 0 0 ∷ name 1 0 0 ∷ [])
unfolding climb
no_longer_full-good = IsGood-computed no_longer_full (line 0 0 2 ∷ line 2 0 8 ∷ []) (name 0 0 0 ∷ name 1 0 0 ∷ []) refl refl

-- lowered pool frees its region: R 10; A and B 10 under R, A lowered to 3; a 8 [A] 1; b 8 [B] 2
abbrev pub region : ℕ → Market
region capacity = record {
  groups = record { demand = 8; choices = choice 1 1 ∷ [] } ∷ record { demand = 8; choices = choice 2 2 ∷ [] } ∷ [];
  nodes = root 10 ∷ pool_under 0 capacity ∷ pool_under 0 10 ∷ [];
}

pub region-good : IsGood (region 10) (line 0 0 8 ∷ line 1 0 2 ∷ []) (name 1 0 0 ∷ [])
unfolding climb
region-good = IsGood-computed (region 10) (line 0 0 8 ∷ line 1 0 2 ∷ []) (name 1 0 0 ∷ []) refl refl

lowered_region-good : IsGood (region 3) (line 0 0 3 ∷ line 1 0 7 ∷ []) (name 0 0 1 ∷ name 1 0 0 ∷ [])
unfolding climb
lowered_region-good = IsGood-computed (region 3) (line 0 0 3 ∷ line 1 0 7 ∷ []) (name 0 0 1 ∷ name 1 0 0 ∷ []) refl refl

-- two good maps: three roots, P and Q of capacity one and Z of capacity five; a ranks P before Q, b ranks Q before P, and c asks Z, for one unit and then for two
abbrev pub crossed : ℕ → Market
crossed demand = record {
  groups = record { demand = 1; choices = choice 0 2 ∷ choice 1 1 ∷ [] } ∷ record { demand = 1; choices = choice 1 2 ∷ choice 0 1 ∷ [] } ∷ record { demand = demand; choices = choice 2 1 ∷ [] } ∷ [];
  nodes = lone_pool 1 ∷ lone_pool 1 ∷ lone_pool 5 ∷ [];
}

pub crossed-good : IsGood (crossed 1) (line 0 1 1 ∷ line 1 1 1 ∷ line 2 0 1 ∷ []) (name 0 0 0 ∷ name 1 0 1 ∷ [])
unfolding climb
crossed-good = IsGood-computed (crossed 1) (line 0 1 1 ∷ line 1 1 1 ∷ line 2 0 1 ∷ []) (name 0 0 0 ∷ name 1 0 1 ∷ []) refl refl

-- the repaired map
pub repaired-good : IsGood (crossed 2) (line 0 1 1 ∷ line 1 1 1 ∷ line 2 0 2 ∷ []) (name 0 0 0 ∷ name 1 0 1 ∷ [])
unfolding climb
repaired-good = IsGood-computed (crossed 2) (line 0 1 1 ∷ line 1 1 1 ∷ line 2 0 2 ∷ []) (name 0 0 0 ∷ name 1 0 1 ∷ []) refl refl

-- the map from scratch
pub scratch-good : IsGood (crossed 2) (line 0 0 1 ∷ line 1 0 1 ∷ line 2 0 2 ∷ []) []
unfolding climb
scratch-good = IsGood-computed (crossed 2) (line 0 0 1 ∷ line 1 0 1 ∷ line 2 0 2 ∷ []) [] refl refl

-- empty pool: root A 0; g 1 [A] 1
abbrev empty_pool : Market
empty_pool = record { groups = record { demand = 1; choices = choice 0 1 ∷ [] } ∷ []; nodes = lone_pool 0 ∷ [] }

empty_pool-good : IsGood empty_pool [] (name 0 0 0 ∷ [])
unfolding climb
empty_pool-good = IsGood-computed empty_pool [] (name 0 0 0 ∷ []) refl refl
