-- One row or one capacity after another.
use Rattle.std.proofs.Common.{◌≡◌, ℕ, ◌<◌, List, [], ◌∷◌, length, fold, slice_set, refl, ◌∙◌, arith}
use Rattle.map_model.specs.declared.instance.GroupId.{GroupId}
use Rattle.map_model.specs.declared.instance.NodeId.{NodeId}
use Rattle.map_model.specs.Market.{group_at, node_at}
use Rattle.published_map.specs.declared.row.GroupRow.{GroupRow}
use Rattle.published_map.specs.declared.delta.Delta.{Delta}
use Rattle.map_model.specs.Market.{Market}
use Rattle.topology_text.specs.Plan.{Plan}
use Rattle.published_map.specs.Rows.{lines_at, names_at, in_rows, with_demands, with_capacities, market_of}
use Rattle.published_map.specs.Version.{Version}
use Rattle.published_map.specs.Changes.{replaced, put_row, put_node, after}
use Rattle.published_map.proofs.Rows.{lines_keyed, names_keyed, replaced_rows, demands_set, capacities_set}

-- the version of rows and capacities over an instance
abbrev pub over : ℕ → Market → Plan → List GroupRow → List ℕ → Version
over s m plan rows caps = record { serial = s; market = market_of m rows caps; lines = in_rows lines_at 0 rows; names = in_rows names_at 0 rows; plan = plan }

-- rows of which one is replaced stand for the version with that row put
pub row_put : (s : ℕ) (m : Market) (plan : Plan) (rows : List GroupRow) (caps : List ℕ) (g : GroupId) (row : GroupRow) → g.0 < length rows → length rows ≡ length m.groups
    → over s m plan (slice_set rows g.0 row) caps ≡ put_row (over s m plan rows caps) (g, row)
unfolding put_row
row_put s m plan rows caps g row lt same =
    let v = over s m plan rows caps in
    let demands : with_demands m.groups (slice_set rows g.0 row) ≡ slice_set v.market.groups g.0 (record (group_at v.market g.0) { demand = row.demand }) = demands_set m.groups rows g.0 row _ lt same in
    let lines : in_rows lines_at 0 (slice_set rows g.0 row) ≡ replaced (λ l. l.group.0) g.0 (lines_at g.0 row) v.lines = replaced_rows _ (λ l. l.group.0) lines_at lines_keyed 0 g.0 g.0 row rows (omega arith) lt in
    let names : in_rows names_at 0 (slice_set rows g.0 row) ≡ replaced (λ l. l.group.0) g.0 (names_at g.0 row) v.names = replaced_rows _ (λ l. l.group.0) names_at names_keyed 0 g.0 g.0 row rows (omega arith) lt in
    rw (demands, lines, names) refl

pub node_put : (s : ℕ) (m : Market) (plan : Plan) (rows : List GroupRow) (caps : List ℕ) (n : NodeId) (c : ℕ) → n.0 < length caps → length caps ≡ length m.nodes
    → over s m plan rows (slice_set caps n.0 c) ≡ put_node (over s m plan rows caps) (n, c)
unfolding put_node
node_put s m plan rows caps n c lt same =
    let v = over s m plan rows caps in
    let nodes : with_capacities m.nodes (slice_set caps n.0 c) ≡ slice_set v.market.nodes n.0 (record (node_at v.market n.0) { capacity = c }) = capacities_set m.nodes caps n.0 c _ lt same in
    rw nodes refl

pub put_row_plan : (v : Version) (r : GroupId × GroupRow) → (put_row v r).plan ≡ v.plan
unfolding put_row
put_row_plan v r = refl

pub put_node_plan : (v : Version) (n : NodeId × ℕ) → (put_node v n).plan ≡ v.plan
unfolding put_node
put_node_plan v n = refl

rows_plan : (rows : List (GroupId × GroupRow)) (v : Version) → (fold put_row v rows).plan ≡ v.plan
rows_plan [] v = refl
rows_plan (r ∷ rs) v = rows_plan rs (put_row v r) ∙ put_row_plan v r

nodes_plan : (nodes : List (NodeId × ℕ)) (v : Version) → (fold put_node v nodes).plan ≡ v.plan
nodes_plan [] v = refl
nodes_plan (n ∷ ns) v = nodes_plan ns (put_node v n) ∙ put_node_plan v n

-- a delta leaves the topology
pub after_plan : (v : Version) (d : Delta) → (after v d).plan ≡ v.plan
after_plan v d = nodes_plan d.nodes.items (fold put_row v d.groups.items) ∙ rows_plan d.groups.items v
