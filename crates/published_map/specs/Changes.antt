-- The version after a delta.
use Rattle.std.specs.Prelude.{ℕ, ◌+◌, Bool, ◌&&◌, nat_lt, List, ◌++◌, length, slice_set, fold, filter}
use Rattle.std.specs.List.{list_all}
use Rattle.map_model.specs.declared.instance.GroupId.{GroupId}
use Rattle.map_model.specs.declared.instance.NodeId.{NodeId}
use Rattle.map_model.specs.Market.{group_at, node_at}
use Rattle.published_map.specs.declared.row.GroupRow.{GroupRow}
use Rattle.published_map.specs.declared.delta.Delta.{Delta}
use Rattle.published_map.specs.Rows.{lines_at, names_at}
use Rattle.published_map.specs.Version.{Version}

-- a list by groups, in which what stands there of group g is replaced
unfoldable pub replaced : {X : Type 0} → (X → ℕ) → ℕ → List X → List X → List X
replaced key g own xs = filter (λ x. nat_lt (key x) g) xs ++ (own ++ filter (λ x. nat_lt g (key x)) xs)

-- the demand, lines and names of one group are those of the row, and all else is as before
unfoldable pub put_row : Version → GroupId × GroupRow → Version
put_row v r = record v {
  market = record v.market { groups = slice_set v.market.groups r.0.0 (record (group_at v.market r.0.0) { demand = r.1.demand }) };
  lines = replaced (λ l. l.group.0) r.0.0 (lines_at r.0.0 r.1) v.lines;
  names = replaced (λ l. l.group.0) r.0.0 (names_at r.0.0 r.1) v.names;
}

-- the capacity of one node is that number, and all else is as before
unfoldable pub put_node : Version → NodeId × ℕ → Version
put_node v n = record v {
  market = record v.market { nodes = slice_set v.market.nodes n.0.0 (record (node_at v.market n.0.0) { capacity = n.1 }) };
}

-- the named rows and capacities are replaced, and the serial is that one
abbrev pub moved : Version → Delta → ℕ → Version
moved v d s = record (fold put_node (fold put_row v d.groups.items) d.nodes.items) { serial = s }

-- the version after a delta: the serial is one higher, the named rows and capacities are replaced, and all else is as before
abbrev pub after : Version → Delta → Version
after v d = moved v d (v.serial + 1)

-- the delta names groups and nodes of the version alone
abbrev pub is_within : Version → Delta → Bool
is_within v d = list_all (λ r. nat_lt r.0.0 (length v.market.groups)) d.groups.items && list_all (λ n. nat_lt n.0.0 (length v.market.nodes)) d.nodes.items
