-- What is put together from rows and capacities, and what a delta leads to.
use Rattle.std.proofs.Common.{◌≡◌, ℕ, ◌+◌, ◌<◌, false, List, [], ◌∷◌, length, map, fold, slice_set, get_or, refl, sym, ap, ap₂, ◌∙◌, arith}
use Rattle.std.specs.Prelude.{All, None}
use Rattle.std.specs.List.{range_with_len}
use Rattle.std.proofs.Math.ListN.{length-set}
use Rattle.std.proofs.lemmas.List.Elements.{All-head, All-tail}
use Rattle.std.proofs.lemmas.List.FromFn.{get_or-map-range_with_len, length-map-range_with_len}
use Rattle.map_model.specs.declared.instance.GroupId.{GroupId}
use Rattle.map_model.specs.declared.instance.NodeId.{NodeId}
use Rattle.map_model.specs.declared.instance.Node.{Node}
use Rattle.map_model.specs.declared.lines.MapLine.{MapLine}
use Rattle.map_model.specs.declared.lines.NameLine.{NameLine}
use Rattle.map_model.specs.Market.{Group, Market, IsMarket, IsSameShape, capacity_of, demand_of}
use Rattle.map_model.specs.Allocation.{IsMapForm}
use Rattle.topology_text.specs.Plan.{Plan}
use Rattle.published_map.specs.declared.row.GroupRow.{GroupRow}
use Rattle.published_map.specs.declared.delta.Delta.{Delta}
use Rattle.published_map.specs.Version.{Version}
use Rattle.published_map.specs.Rows.{lines_at, names_at, in_rows, with_demands, with_capacities, amounts_in, capacities_of, names_in, row_of, rows_of}
use Rattle.published_map.specs.Changes.{put_row, put_node, after}
use Rattle.published_map.specs.Between.{IsBetween}
use Rattle.published_map.proofs.Changes.{over, row_put, node_put}
use Rattle.published_map.proofs.Cut.{lines_together, names_together}
use Rattle.published_map.proofs.Ranks.{below, lines_rise, names_rise, rising}
use Rattle.published_map.proofs.Rows.{all_with}
use Rattle.published_map.specs.Gathered.{IsGathered, NodesChanged, RowsChanged, set_all}
use Rattle.published_map.proofs.Gathered.{all_new, gathered}
use Rattle.published_map.proofs.Groups.{IsOwn, amounts_are, names_are, same_lines, same_names}

-- groups with the demands of rows are these groups, where lists and demands are theirs
demands_are : (gs hs : List Group) (rows : List GroupRow) (d : Group) (e : GroupRow) → length hs ≡ length gs → length rows ≡ length gs
    → ((i : ℕ) → i < length gs → (get_or hs i d).choices ≡ (get_or gs i d).choices) → ((i : ℕ) → i < length gs → (get_or rows i e).demand ≡ (get_or hs i d).demand) → with_demands gs rows ≡ hs
unfolding with_demands
demands_are gs hs rows d e many rows_many lists demands = all_with (λ (g : Group) (r : GroupRow). record g { demand = r.demand }) gs hs rows d e many rows_many (λ i l. rw (demands i l, ← lists i l) refl)

capacities_are : (ns ms : List Node) (caps : List ℕ) (d : Node) → length ms ≡ length ns → length caps ≡ length ns
    → ((i : ℕ) → i < length ns → (get_or ms i d).parent ≡ (get_or ns i d).parent) → ((i : ℕ) → i < length ns → (get_or ms i d).is_pool ≡ (get_or ns i d).is_pool) → ((i : ℕ) → i < length ns → get_or caps i 0 ≡ (get_or ms i d).capacity) → with_capacities ns caps ≡ ms
unfolding with_capacities
capacities_are ns ms caps d many caps_many parents pools caps_are = all_with (λ (n : Node) (c : ℕ). record n { capacity = c }) ns ms caps d 0 many caps_many (λ i l. rw (caps_are i l, ← parents i l, ← pools i l) refl)

-- an instance of one shape with another, a map and their rows are put together again over the other
pub put_together : (s : ℕ) (plan : Plan) (m n : Market) (lines : List MapLine) (names : List NameLine) → IsMarket n → IsMapForm n lines names → IsSameShape m n
    → over s m plan (rows_of n lines names) (capacities_of n) ≡ record { serial = s; market = n; lines = lines; names = names; plan = plan }
put_together s plan m n lines names market form shape =
    let no_row : GroupRow = record { demand = 0; amounts = record { items = [] }; names = record { items = [] } } in
    let groups : with_demands m.groups (rows_of n lines names) ≡ n.groups =
    demands_are m.groups n.groups (rows_of n lines names) (record { demand = 0; choices = [] }) no_row shape.groups (length-map-range_with_len (row_of n lines names) 0 (length n.groups) ∙ shape.groups)
    (λ i l. shape.lists i) (λ i l. ap (λ (r : GroupRow). r.demand) (get_or-map-range_with_len (row_of n lines names) 0 (length n.groups) i i no_row (omega (arith, shape.groups)) (omega arith))) in
    let nodes : with_capacities m.nodes (capacities_of n) ≡ n.nodes =
    capacities_are m.nodes n.nodes (capacities_of n) (record { capacity = 0; parent = None; is_pool = false }) shape.nodes (length-map-range_with_len (capacity_of n) 0 (length n.nodes) ∙ shape.nodes)
    (λ i l. shape.trees i) (λ i l. shape.pools i) (λ i l. get_or-map-range_with_len (capacity_of n) 0 (length n.nodes) i i 0 (omega (arith, shape.nodes)) (omega arith)) in
    let lines_up = lines_rise n market lines form.of_lines in
    let names_up = names_rise n market names form.of_names in
    let own_lines : in_rows lines_at 0 (rows_of n lines names) ≡ lines = lines_together n lines names (rising (λ (l : MapLine). l.group.0) (λ (l : MapLine). l.place) (length n.groups) 0 lines lines_up) (below (λ (l : MapLine). l.group.0) (λ (l : MapLine). l.place) (length n.groups) 0 lines lines_up) in
    let own_names : in_rows names_at 0 (rows_of n lines names) ≡ names = names_together n lines names (rising (λ (l : NameLine). l.group.0) (λ (l : NameLine). l.place) (length n.groups) 0 names names_up) (below (λ (l : NameLine). l.group.0) (λ (l : NameLine). l.place) (length n.groups) 0 names names_up) in
    rw (groups, nodes, own_lines, own_names) refl

-- a version with rows put is that of the rows that were replaced, and so for capacities
rows_put : (s : ℕ) (m : Market) (plan : Plan) (caps : List ℕ) (rs : List (GroupId × GroupRow)) (rows : List GroupRow) → length rows ≡ length m.groups → All (λ (r : GroupId × GroupRow). r.0.0 < length m.groups) rs
    → fold put_row (over s m plan rows caps) rs ≡ over s m plan (set_all (λ (r : GroupId × GroupRow). r.0.0) (λ (r : GroupId × GroupRow). r.1) rows rs) caps
unfolding set_all
rows_put s m plan caps [] rows same below = refl
rows_put s m plan caps (r ∷ rs) rows same below =
    let lt : r.0.0 < length m.groups = All-head (λ (r : GroupId × GroupRow). r.0.0 < length m.groups) r rs below in
    ap (λ (v : Version). fold put_row v rs) (sym (row_put s m plan rows caps r.0 r.1 (omega arith) same))
    ∙ rows_put s m plan caps rs (slice_set rows r.0.0 r.1) (length-set rows r.0.0 r.1 ∙ same) (All-tail (λ (r : GroupId × GroupRow). r.0.0 < length m.groups) r rs below)

nodes_put : (s : ℕ) (m : Market) (plan : Plan) (rows : List GroupRow) (ns : List (NodeId × ℕ)) (caps : List ℕ) → length caps ≡ length m.nodes → All (λ (n : NodeId × ℕ). n.0.0 < length m.nodes) ns
    → fold put_node (over s m plan rows caps) ns ≡ over s m plan rows (set_all (λ (n : NodeId × ℕ). n.0.0) (λ (n : NodeId × ℕ). n.1) caps ns)
unfolding set_all
nodes_put s m plan rows [] caps same below = refl
nodes_put s m plan rows (n ∷ ns) caps same below =
    let lt : n.0.0 < length m.nodes = All-head (λ (n : NodeId × ℕ). n.0.0 < length m.nodes) n ns below in
    ap (λ (v : Version). fold put_node v ns) (sym (node_put s m plan rows caps n.0 n.1 (omega arith) same))
    ∙ nodes_put s m plan rows ns (slice_set caps n.0.0 n.1) (length-set caps n.0.0 n.1 ∙ same) (All-tail (λ (n : NodeId × ℕ). n.0.0 < length m.nodes) n ns below)

-- it is what changes between the two versions
pub between : (base : ℕ) (plan : Plan) (m : Market) (lines : List MapLine) (names : List NameLine) (n : Market) (lines' : List MapLine) (names' : List NameLine) (d : Delta)
    → IsMarket m → IsMarket n → IsMapForm m lines names → IsMapForm n lines' names' → IsSameShape m n → d.base ≡ base
    → RowsChanged m lines names n lines' names' (length m.groups) d.groups.items → NodesChanged m n (length m.nodes) d.nodes.items
    → IsBetween (record { serial = base; market = m; lines = lines; names = names; plan = plan }) (record { serial = base + 1; market = n; lines = lines'; names = names'; plan = plan }) d
between base plan m lines names n lines' names' d market market' form form' shape is_base rows nodes = record {
  base = is_base;
  leads = ap (λ (v : Version). after v d) (sym start) ∙ (ap (λ (v : Version). record v { serial = base + 1 }) moved_to ∙ put_together (base + 1) plan m n lines' names' market' form' shape);
  rows = rows.each;
  nodes = nodes.each;
  rows_rise = rows.rise;
  nodes_rise = nodes.rise;
}
  where
    itself : IsSameShape m m
    itself = record { groups = refl; nodes = refl; lists = λ g. refl; trees = λ n. refl; pools = λ n. refl }

    start : over base m plan (rows_of m lines names) (capacities_of m) ≡ record { serial = base; market = m; lines = lines; names = names; plan = plan }
    start = put_together base plan m m lines names market form itself

    all_rows : set_all (λ (r : GroupId × GroupRow). r.0.0) (λ (r : GroupId × GroupRow). r.1) (rows_of m lines names) d.groups.items ≡ rows_of n lines' names'
    all_rows = all_new (λ (r : GroupId × GroupRow). r.0.0) (λ (r : GroupId × GroupRow). r.1) (row_of m lines names) (row_of n lines' names') (length m.groups) d.groups.items rows
        ∙ ap (λ (k : ℕ). map (row_of n lines' names') (range_with_len 0 k)) (sym shape.groups)

    all_nodes : set_all (λ (n : NodeId × ℕ). n.0.0) (λ (n : NodeId × ℕ). n.1) (capacities_of m) d.nodes.items ≡ capacities_of n
    all_nodes = all_new (λ (n : NodeId × ℕ). n.0.0) (λ (n : NodeId × ℕ). n.1) (capacity_of m) (capacity_of n) (length m.nodes) d.nodes.items nodes
        ∙ ap (λ (k : ℕ). map (capacity_of n) (range_with_len 0 k)) (sym shape.nodes)

    moved_to : fold put_node (fold put_row (over base m plan (rows_of m lines names) (capacities_of m)) d.groups.items) d.nodes.items ≡ over base m plan (rows_of n lines' names') (capacities_of n)
    moved_to =
        ap (λ (v : Version). fold put_node v d.nodes.items) (rows_put base m plan (capacities_of m) d.groups.items (rows_of m lines names) (length-map-range_with_len (row_of m lines names) 0 (length m.groups)) (λ k e l. (rows.each k e l).0))
        ∙ (nodes_put base m plan _ d.nodes.items (capacities_of m) (length-map-range_with_len (capacity_of m) 0 (length m.nodes)) (λ k e l. (nodes.each k e l).0)
        ∙ ap₂ (λ (x : List GroupRow) (y : List ℕ). over base m plan x y) all_rows all_nodes)

-- one group further, where its new row was gathered if it is another
pub one_row : (m : Market) (lines : List MapLine) (names : List NameLine) (n : Market) (lines' : List MapLine) (names' : List NameLine) (g : ℕ) (rs ss : List (GroupId × GroupRow)) (demand demand' : ℕ)
    (own : List MapLine) (own_names : List NameLine) (own' : List MapLine) (own_names' : List NameLine) → g < length m.groups → demand ≡ demand_of m g → demand' ≡ demand_of n g → IsOwn lines names g own own_names → IsOwn lines' names' g own' own_names'
    → IsGathered ((demand ≡ demand') × (own ≡ own') × (own_names ≡ own_names')) rs (record { 0 = g }, record { demand = demand'; amounts = record { items = map (λ (l : MapLine). (l.place, l.amount)) own' }; names = record { items = map (λ (l : NameLine). (l.place, l.by)) own_names' } }) ss
    → RowsChanged m lines names n lines' names' g rs → RowsChanged m lines names n lines' names' (g + 1) ss
one_row m lines names n lines' names' g rs ss demand demand' own own_names own' own_names' lt is_demand is_demand' was is step so_far =
    let amounts : map (λ (l : MapLine). (l.place, l.amount)) own' ≡ amounts_in lines' g = amounts_are lines' g own' is.of_lines in
    let nodes : map (λ (l : NameLine). (l.place, l.by)) own_names' ≡ names_in names' g = names_are names' g own_names' is.of_names in
    let old_amounts : map (λ (l : MapLine). (l.place, l.amount)) own ≡ amounts_in lines g = amounts_are lines g own was.of_lines in
    let old_nodes : map (λ (l : NameLine). (l.place, l.by)) own_names ≡ names_in names g = names_are names g own_names was.of_names in
    gathered (λ (r : GroupId × GroupRow). r.0.0) (λ (r : GroupId × GroupRow). r.1) (row_of m lines names) (row_of n lines' names') (length m.groups) g ((demand ≡ demand') × (own ≡ own') × (own_names ≡ own_names')) rs
    (record { 0 = g }, record { demand = demand'; amounts = record { items = map (λ (l : MapLine). (l.place, l.amount)) own' }; names = record { items = map (λ (l : NameLine). (l.place, l.by)) own_names' } }) ss lt refl
    (rw (is_demand', amounts, nodes) refl)
    (λ same. to (sym is_demand ∙ same.0 ∙ is_demand') (sym old_amounts ∙ ap (map (λ (l : MapLine). (l.place, l.amount))) same.1 ∙ amounts) (sym old_nodes ∙ ap (map (λ (l : NameLine). (l.place, l.by))) same.2 ∙ nodes))
    (λ same. (
      is_demand ∙ ap (λ (r : GroupRow). r.demand) same ∙ sym is_demand',
      same_lines lines lines' g own own' was.of_lines is.of_lines (ap (λ (r : GroupRow). r.amounts.items) same),
      same_names names names' g own_names own_names' was.of_names is.of_names (ap (λ (r : GroupRow). r.names.items) same),
    ))
    step so_far
  where
    to : demand_of m g ≡ demand_of n g → amounts_in lines g ≡ amounts_in lines' g → names_in names g ≡ names_in names' g → row_of m lines names g ≡ row_of n lines' names' g
    to a b c = rw (a, b, c) refl
