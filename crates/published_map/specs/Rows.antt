-- A map as rows, one for each group, and what versions rows and capacities stand for.
use Rattle.std.specs.Prelude.{ℕ, suc, List, [], ◌∷◌, ◌++◌, length, map, filter, ◌==◌}
use Rattle.std.specs.List.{range_with_len}
use Rattle.map_model.specs.declared.instance.Node.{Node}
use Rattle.map_model.specs.declared.lines.By.{By}
use Rattle.map_model.specs.declared.lines.MapLine.{MapLine}
use Rattle.map_model.specs.declared.lines.NameLine.{NameLine}
use Rattle.map_model.specs.Market.{Group, Market, capacity_of, demand_of}
use Rattle.topology_text.specs.Plan.{Plan}
use Rattle.published_map.specs.declared.row.GroupRow.{GroupRow}
use Rattle.published_map.specs.Version.{Version}

-- the lines of group g
unfoldable pub lines_at : ℕ → GroupRow → List MapLine
lines_at g r = map (λ a. record { group = record { 0 = g }; place = a.0; amount = a.1 }) r.amounts.items

-- the names of group g
unfoldable pub names_at : ℕ → GroupRow → List NameLine
names_at g r = map (λ a. record { group = record { 0 = g }; place = a.0; by = a.1 }) r.names.items

-- what stands in rows, of which the first is that of group g
unfoldable pub in_rows : {X : Type 0} → (ℕ → GroupRow → List X) → ℕ → List GroupRow → List X
in_rows at g [] = []
in_rows at g (r ∷ rs) = at g r ++ in_rows at (suc g) rs

-- each thing with what stands at its place
unfoldable pub each_with : {X Y : Type 0} → (X → Y → X) → List X → List Y → List X
each_with put [] ys = []
each_with put (x ∷ xs) [] = x ∷ xs
each_with put (x ∷ xs) (y ∷ ys) = put x y ∷ each_with put xs ys

-- groups with the demands of rows
unfoldable pub with_demands : List Group → List GroupRow → List Group
with_demands gs rows = each_with (λ g r. record g { demand = r.demand }) gs rows

-- nodes with these capacities
unfoldable pub with_capacities : List Node → List ℕ → List Node
with_capacities ns caps = each_with (λ n c. record n { capacity = c }) ns caps

-- an instance with the demands of rows and these capacities
abbrev pub market_of : Market → List GroupRow → List ℕ → Market
market_of m rows capacities = record { groups = with_demands m.groups rows; nodes = with_capacities m.nodes capacities }

-- the version of rows and capacities over a topology
abbrev pub version_of : ℕ → Plan → List GroupRow → List ℕ → Version
version_of s plan rows capacities = record {
  serial = s;
  market = market_of plan.market rows capacities;
  lines = in_rows lines_at 0 rows;
  names = in_rows names_at 0 rows;
  plan = plan;
}

-- the amounts of a group of a map, by place
unfoldable pub amounts_in : List MapLine → ℕ → List (ℕ × ℕ)
amounts_in lines g = map (λ (l : MapLine). (l.place, l.amount)) (filter (λ (l : MapLine). l.group.0 == g) lines)

-- the names of a group of a map, by place
unfoldable pub names_in : List NameLine → ℕ → List (ℕ × By)
names_in names g = map (λ (l : NameLine). (l.place, l.by)) (filter (λ (l : NameLine). l.group.0 == g) names)

-- the row of a group of an instance and a map
abbrev pub row_of : Market → List MapLine → List NameLine → ℕ → GroupRow
row_of m lines names g = record { demand = demand_of m g; amounts = record { items = amounts_in lines g }; names = record { items = names_in names g } }

-- the rows of an instance and a map
abbrev pub rows_of : Market → List MapLine → List NameLine → List GroupRow
rows_of m lines names = map (row_of m lines names) (range_with_len 0 (length m.groups))

-- the capacities of an instance
abbrev pub capacities_of : Market → List ℕ
capacities_of m = map (capacity_of m) (range_with_len 0 (length m.nodes))
