-- The pools of a sound group are distinct, and its rows are an instance's.
use Rattle.std.proofs.Common.{◌≡◌, ℕ, ◌^◌, ◌<◌, ◌≤◌, suc, zero, true, false, List, [], ◌∷◌, length, get_or, map, Option, None, Some, IfSome, IsFalse, All, option_map, unwrap_or, ap, sym, ◌∙◌, subst, arith}
use Rattle.std.proofs.lemmas.List.{length-map}
use Rattle.std.proofs.lemmas.List.Elements.{All-head, All-tail}
use Rattle.std.proofs.lemmas.List.FromFn.{get_or-map-range_with_len, length-map-range_with_len}
use Rattle.std.proofs.lemmas.Slice.Eq.{bytes_eq-Decides}
use Rattle.std.specs.List.{list_any, range_with_len}
use Rattle.std.specs.Str.{bytes_eq}
use Rattle.std.proofs.lemmas.Bool.{or_parts}
use Rattle.toml.specs.Data.{Data, string, integer, float, boolean, datetime, array, table}
use Rattle.map_model.specs.declared.instance.NodeId.{NodeId}
use Rattle.map_model.specs.declared.instance.Choice.{Choice}
use Rattle.map_model.specs.declared.instance.Node.{Node}
use Rattle.map_model.specs.Market.{IsGroup, IsMarket, is_pool_at, node_in}
use Rattle.topology_text.specs.Names.{Entries, entry_at, has_repeat, is_pool, is_pool_number, number_of, parent_of, texts_of, units_of}
use Rattle.topology_text.specs.Topology.{IsSound, IsSoundGroup, choice_in, group_of, items_in, limit_in, market_of, natural, node_of, pool_number}
use Rattle.topology_text.specs.declared.schema.Key.TheVariants.{Pools, Scores, Limits}
use Rattle.topology_text.proofs.Markets.{All-map_at, climb_ascend, get_or-map_at, one_text, parent_same, pool_within}

-- the pool of a text, or 0
abbrev at_pool : List Data → Data → ℕ
at_pool nodes p = unwrap_or (pool_number nodes p) 0

-- a text that is in the list
found : (nodes : List Data) (t : List ℕ) (ps : List Data) (j : ℕ) (d : Data) → is_pool_number nodes (number_of nodes t) ≡ true → list_any (bytes_eq t) (texts_of ps) ≡ false → j < length ps
    → is_pool_number nodes (pool_number nodes (get_or ps j d)) ≡ true → at_pool nodes (get_or ps j d) ≡ unwrap_or (number_of nodes t) 0 → ⊥
found nodes t [] j d pool other l known same = omega arith
found nodes t (string u ∷ ps) zero d pool other l known same =
    let e : t ≡ u = one_text nodes t u pool known (sym same) in
    let same_bytes : bytes_eq t u ≡ true = (bytes_eq-Decides t u).1 e in
    let off : bytes_eq t u ≡ false = (or_parts (bytes_eq t u) _ other).0 in
    cc
found nodes t (string u ∷ ps) (suc j) d pool other l known same = found nodes t ps j d pool (or_parts (bytes_eq t u) _ other).1 (omega arith) known same
found nodes t (integer z ∷ ps) zero d pool other l known same = cc
found nodes t (integer z ∷ ps) (suc j) d pool other l known same = found nodes t ps j d pool other (omega arith) known same
found nodes t (float x ∷ ps) zero d pool other l known same = cc
found nodes t (float x ∷ ps) (suc j) d pool other l known same = found nodes t ps j d pool other (omega arith) known same
found nodes t (boolean b ∷ ps) zero d pool other l known same = cc
found nodes t (boolean b ∷ ps) (suc j) d pool other l known same = found nodes t ps j d pool other (omega arith) known same
found nodes t (datetime x ∷ ps) zero d pool other l known same = cc
found nodes t (datetime x ∷ ps) (suc j) d pool other l known same = found nodes t ps j d pool other (omega arith) known same
found nodes t (array x ∷ ps) zero d pool other l known same = cc
found nodes t (array x ∷ ps) (suc j) d pool other l known same = found nodes t ps j d pool other (omega arith) known same
found nodes t (table x ∷ ps) zero d pool other l known same = cc
found nodes t (table x ∷ ps) (suc j) d pool other l known same = found nodes t ps j d pool other (omega arith) known same

-- pools at two places have two numbers
apart : (nodes : List Data) (ps : List Data) (i j : ℕ) (d : Data) → has_repeat (texts_of ps) ≡ false → All (λ p. is_pool_number nodes (pool_number nodes p) ≡ true) ps → i < j → j < length ps
    → at_pool nodes (get_or ps i d) ≡ at_pool nodes (get_or ps j d) → ⊥
apart nodes [] i j d once known before l same = omega arith
apart nodes (p ∷ ps) i zero d once known before l same = omega arith
apart nodes (string t ∷ ps) zero (suc j) d once known before l same =
    found nodes t ps j d (known 0 d (omega arith)) ((or_parts (list_any (bytes_eq t) (texts_of ps)) _ once).0) (omega arith) (known (suc j) d l) (sym same)
apart nodes (string t ∷ ps) (suc i) (suc j) d once known before l same =
    apart nodes ps i j d (or_parts (list_any (bytes_eq t) (texts_of ps)) _ once).1 (λ k e h. known (suc k) e (omega arith)) (omega arith) (omega arith) same
apart nodes (integer z ∷ ps) zero (suc j) d once known before l same = let never : false ≡ true = known 0 d (omega arith) in cc
apart nodes (integer z ∷ ps) (suc i) (suc j) d once known before l same = let never : false ≡ true = known 0 d (omega arith) in cc
apart nodes (float x ∷ ps) zero (suc j) d once known before l same = let never : false ≡ true = known 0 d (omega arith) in cc
apart nodes (float x ∷ ps) (suc i) (suc j) d once known before l same = let never : false ≡ true = known 0 d (omega arith) in cc
apart nodes (boolean b ∷ ps) zero (suc j) d once known before l same = let never : false ≡ true = known 0 d (omega arith) in cc
apart nodes (boolean b ∷ ps) (suc i) (suc j) d once known before l same = let never : false ≡ true = known 0 d (omega arith) in cc
apart nodes (datetime x ∷ ps) zero (suc j) d once known before l same = let never : false ≡ true = known 0 d (omega arith) in cc
apart nodes (datetime x ∷ ps) (suc i) (suc j) d once known before l same = let never : false ≡ true = known 0 d (omega arith) in cc
apart nodes (array x ∷ ps) zero (suc j) d once known before l same = let never : false ≡ true = known 0 d (omega arith) in cc
apart nodes (array x ∷ ps) (suc i) (suc j) d once known before l same = let never : false ≡ true = known 0 d (omega arith) in cc
apart nodes (table x ∷ ps) zero (suc j) d once known before l same = let never : false ≡ true = known 0 d (omega arith) in cc
apart nodes (table x ∷ ps) (suc i) (suc j) d once known before l same = let never : false ≡ true = known 0 d (omega arith) in cc

-- a node is a pool in the instance where its entry is one
pub pool_same : (d : Entries) (n : ℕ) → (node_in (map (node_of d.nodes) d.nodes) n).is_pool ≡ is_pool (entry_at d.nodes n)
pool_same d n = ap (λ (x : Node). x.is_pool) (get_or-map_at (node_of d.nodes) d.nodes n (boolean false))

-- the node of a pool's number is a pool
pool_is : (nodes : List Data) (o : Option ℕ) → is_pool_number nodes o ≡ true → is_pool (entry_at nodes (unwrap_or o 0)) ≡ true
pool_is nodes None h = cc
pool_is nodes (Some n) h = h

-- the choices of a group, one for each pool
abbrev made : List Data → List Data → List Data → List Data → List Choice
made nodes ps ss ls = map (choice_in nodes ps ss ls) (range_with_len 0 (length ps))

choices_len : (nodes ps ss ls : List Data) → length (made nodes ps ss ls) ≡ length ps
choices_len nodes ps ss ls = length-map-range_with_len (choice_in nodes ps ss ls) 0 (length ps)

-- the pool of a choice
choice_pool : (nodes ps ss ls : List Data) (j : ℕ) (c : Choice) → j < length ps → (get_or (made nodes ps ss ls) j c).pool.0 ≡ at_pool nodes (get_or ps j (boolean false))
choice_pool nodes ps ss ls j c l = ap (λ (x : Choice). x.pool.0) (get_or-map-range_with_len (choice_in nodes ps ss ls) 0 (length ps) j j c l (omega arith))

-- and its limit
limit_good : (ls : List Data) (j : ℕ) → All (λ l. (1 ≤ natural l) × (natural l < 2 ^ 32)) ls → (1 ≤ limit_in ls j) × (limit_in ls j < 2 ^ 32)
limit_good [] j h = (omega arith, omega arith)
limit_good (l ∷ ls) zero h = All-head (λ x. (1 ≤ natural x) × (natural x < 2 ^ 32)) l ls h
limit_good (l ∷ ls) (suc j) h = limit_good ls j (All-tail (λ x. (1 ≤ natural x) × (natural x < 2 ^ 32)) l ls h)

choice_limit : (nodes ps ss ls : List Data) (j : ℕ) (c : Choice) → j < length ps → All (λ l. (1 ≤ natural l) × (natural l < 2 ^ 32)) ls → (1 ≤ (get_or (made nodes ps ss ls) j c).limit) × ((get_or (made nodes ps ss ls) j c).limit < 2 ^ 32)
choice_limit nodes ps ss ls j c l h =
    let same : (get_or (made nodes ps ss ls) j c).limit ≡ limit_in ls j = ap (λ (x : Choice). x.limit) (get_or-map-range_with_len (choice_in nodes ps ss ls) 0 (length ps) j j c l (omega arith)) in
    let fits = limit_good ls j h in
    (omega (arith, same, fits.0), omega (arith, same, fits.1))

pub group_good : (d : Entries) (e : Data) → IsSoundGroup d.nodes e → IsGroup (map (node_of d.nodes) d.nodes) (group_of d.nodes e)
group_good d e g =
    let ps = items_in e Pools in
    let ss = items_in e Scores in
    let ls = items_in e Limits in
    let len : length (made d.nodes ps ss ls) ≡ length ps = choices_len d.nodes ps ss ls in
    let nodes_len : length (map (node_of d.nodes) d.nodes) ≡ length d.nodes = length-map d.nodes (node_of d.nodes) in
    record {
      some = g.some;
      fits = g.fits;
      asks = let a = g.asks in omega arith;
      few = let a = g.few in omega arith;
      there = λ j c h.
          let l : j < length ps = omega arith in
          let within : at_pool d.nodes (get_or ps j (boolean false)) < length d.nodes = pool_within d.nodes (get_or ps j (boolean false)) (g.pools j (boolean false) l) in
          let same = choice_pool d.nodes ps ss ls j c l in
          omega arith;
      pools = λ j c h.
          let l : j < length ps = omega arith in
          let same : (get_or (made d.nodes ps ss ls) j c).pool.0 ≡ at_pool d.nodes (get_or ps j (boolean false)) = choice_pool d.nodes ps ss ls j c l in
          ap (λ n. (node_in (map (node_of d.nodes) d.nodes) n).is_pool) same ∙ pool_same d (at_pool d.nodes (get_or ps j (boolean false))) ∙ pool_is d.nodes (pool_number d.nodes (get_or ps j (boolean false))) (g.pools j (boolean false) l);
      limits = λ j c h. choice_limit d.nodes ps ss ls j c (omega arith) g.limits;
      distinct = λ i j c before h.
          let l : j < length ps = omega arith in
          let left = choice_pool d.nodes ps ss ls i c (omega arith) in
          let right = choice_pool d.nodes ps ss ls j c l in
          λ same. apart d.nodes ps i j (boolean false) g.distinct g.pools before l (sym left ∙ same ∙ right);
    }

-- a parent that is no pool
inner_if : (d : Entries) (o : Option ℕ) → IfSome o (λ p. is_pool (entry_at d.nodes p) ≡ false) → IfSome (option_map (λ k. record { 0 = k }) o) (λ (p : NodeId). IsFalse (is_pool_at (market_of d) p.0))
inner_if d None h = tt
inner_if d (Some k) h = pool_same d k ∙ h

map_if : (o : Option ℕ) (n : ℕ) → IfSome o (λ p. p < n) → IfSome (option_map (λ k. record { 0 = k }) o) (λ (p : NodeId). p.0 < n)
map_if None n h = tt
map_if (Some k) n h = h

pub market_good : (d : Entries) → IsSound d → IsMarket (market_of d)
market_good d s =
    let nodes_len : length (map (node_of d.nodes) d.nodes) ≡ length d.nodes = length-map d.nodes (node_of d.nodes) in
    let groups_len : length (map (group_of d.nodes) (units_of d)) ≡ length (units_of d) = length-map (units_of d) (group_of d.nodes) in
    record {
      few_groups = let a = s.few_groups in omega arith;
      few_nodes = let a = s.few_nodes in omega arith;
      groups = All-map_at (group_of d.nodes) (λ g. IsGroup (map (node_of d.nodes) d.nodes) g) (units_of d) (boolean false) (λ n h. group_good d _ (s.groups n h));
      capacities = All-map_at (node_of d.nodes) (λ n. n.capacity ≤ 2 ^ 48) d.nodes (boolean false) (λ n h. s.capacities n h);
      parents = λ n h. let l : n < length d.nodes = omega arith in subst (λ o. IfSome o (λ (p : NodeId). p.0 < n)) (sym (parent_same d n)) (map_if (parent_of d.nodes n) n (s.parents n l));
      inner = λ n h. let l : n < length d.nodes = omega arith in subst (λ o. IfSome o (λ (p : NodeId). IsFalse (is_pool_at (market_of d) p.0))) (sym (parent_same d n)) (inner_if d (parent_of d.nodes n) (s.inner n l));
      shallow = λ n h. let l : n < length d.nodes = omega arith in let a = s.shallow n l in let e = climb_ascend d 9 (Some n) in omega arith;
    }
