-- Room for units that go by hops: at each node that a hop raises.
use Rattle.std.proofs.Common.{◌≡◌, ℕ, ◌+◌, ◌<◌, ◌≤◌, ◌==◌, ◌||◌, not, Bool, true, false, List, [], ◌∷◌, length, map, take, get_or, refl, sym, ap, ◌∙◌, subst, inl, inr, arith}
use Rattle.std.specs.List.{list_any}
use Rattle.std.proofs.lemmas.Bool.{and_parts, eq-eqb, eqb-true, not-true, or_cases}
use Rattle.std.proofs.lemmas.List.Elements.{All-cons, All-head, All-more, All-nil}
use Rattle.std.proofs.lemmas.List.Folds.{list_any_at, list_any_more}
use Rattle.map_model.specs.declared.instance.NodeId.{NodeId}
use Rattle.map_model.specs.Market.{Market, IsMarket, capacity_of, limit_of, path, pool_of}
use Rattle.map_model.specs.Allocation.{IsOffer, amount_at, is_under, load}
use Rattle.map_model.proofs.Paths.{pool_there}
use Rattle.map_model.proofs.Trees.{under_there}
use Rattle.evict.specs.Standing.{Standing}
use Rattle.deferred_accept.specs.declared.circle.Hop.{Hop}
use Rattle.deferred_accept.specs.Turning.{HasRoomFor, raises}

-- whether a list of nodes has one of them
abbrev pub has_node : List NodeId → ℕ → Bool
has_node nodes n = list_any (λ (x : NodeId). x.0 == n) nodes

any_map : (n : ℕ) (nodes : List NodeId) → has_node nodes n ≡ list_any (λ x. x == n) (map (λ (x : NodeId). x.0) nodes)
any_map n [] = refl
any_map n (x ∷ xs) = ap (λ b. (x.0 == n) || b) (any_map n xs)

-- the nodes of a pool's path are those above the pool
pub in_path : (m : Market) (nodes : List NodeId) (pool n : ℕ) → map (λ (x : NodeId). x.0) nodes ≡ path m pool → has_node nodes n ≡ is_under m n pool
in_path m nodes pool n is = any_map n nodes ∙ ap (λ xs. list_any (λ x. x == n) xs) is

-- and each of them is there
pub path_there : (m : Market) → IsMarket m → (nodes : List NodeId) (g k i : ℕ) (d : NodeId) → IsOffer m g k → map (λ (x : NodeId). x.0) nodes ≡ path m (pool_of m g k) → i < length nodes → (get_or nodes i d).0 < length m.nodes
path_there m market nodes g k i d o is l =
    let n : ℕ = (get_or nodes i d).0 in
    under_there m market n (pool_of m g k) (pool_there m market g k o) (sym (in_path m nodes (pool_of m g k) n is) ∙ list_any_at (λ (x : NodeId). x.0 == n) nodes i d l (eq-eqb n n refl))

-- room at one node more
pub rooms_more : (m : Market) (state : Standing) (nodes others : List NodeId) (i was here now : ℕ) (d : NodeId) → i < length nodes → now ≤ was → now ≤ here
    → ((n : ℕ) → has_node (take i nodes) n ≡ true → has_node others n ≡ false → load m state.lines n + was ≤ capacity_of m n)
    → (has_node others (get_or nodes i d).0 ≡ false → load m state.lines (get_or nodes i d).0 + here ≤ capacity_of m (get_or nodes i d).0)
    → (n : ℕ) → has_node (take (i + 1) nodes) n ≡ true → has_node others n ≡ false → load m state.lines n + now ≤ capacity_of m n
rooms_more m state nodes others i was here now d l less less' before this n in' out = elim (or_cases (has_node (take i nodes) n) ((get_or nodes i d).0 == n) (sym (list_any_more (λ (x : NodeId). x.0 == n) nodes i d l) ∙ in')) [
  | inl e ↦ omega (arith, before n e out)
  | inr e ↦
      let same : n ≡ (get_or nodes i d).0 = sym (eqb-true (get_or nodes i d).0 n e) in
      let room : load m state.lines n + here ≤ capacity_of m n = subst (λ x. load m state.lines x + here ≤ capacity_of m x) (sym same) (this (subst (λ x. has_node others x ≡ false) same out)) in
      omega arith
]

-- room at all nodes of the path of a hop's offer that are not on the path of the other
pub hop_room : (m : Market) (state : Standing) (hop : Hop) (nodes others : List NodeId) (units : ℕ) → map (λ (x : NodeId). x.0) nodes ≡ path m (pool_of m hop.offer.group.0 hop.offer.place) → map (λ (x : NodeId). x.0) others ≡ path m (pool_of m hop.rival.offer.group.0 hop.rival.offer.place)
    → units ≤ hop.rival.units → amount_at state.lines hop.offer.group.0 hop.offer.place + units ≤ limit_of m hop.offer.group.0 hop.offer.place → ((n : ℕ) → has_node nodes n ≡ true → has_node others n ≡ false → load m state.lines n + units ≤ capacity_of m n) → HasRoomFor m state (hop ∷ []) units
hop_room m state hop nodes others units is are amount limit rooms = record {
  amounts = All-cons (λ (h : Hop). units ≤ h.rival.units) hop [] amount (All-nil (λ (h : Hop). units ≤ h.rival.units));
  limits = All-cons (λ (h : Hop). amount_at state.lines h.offer.group.0 h.offer.place + units ≤ limit_of m h.offer.group.0 h.offer.place) hop [] limit (All-nil (λ (h : Hop). amount_at state.lines h.offer.group.0 h.offer.place + units ≤ limit_of m h.offer.group.0 h.offer.place));
  rooms = λ n l. All-cons (λ (h : Hop). raises m n h ≡ true → load m state.lines n + units ≤ capacity_of m n) hop [] (room n) (All-nil (λ (h : Hop). raises m n h ≡ true → load m state.lines n + units ≤ capacity_of m n));
}
  where
    room : (n : ℕ) → raises m n hop ≡ true → load m state.lines n + units ≤ capacity_of m n
    room n raised =
        let here : ℕ = pool_of m hop.offer.group.0 hop.offer.place in
        let there : ℕ = pool_of m hop.rival.offer.group.0 hop.rival.offer.place in
        let p = and_parts (is_under m n here) (not (is_under m n there)) raised in
        rooms n (in_path m nodes here n is ∙ p.0) (in_path m others there n are ∙ not-true (is_under m n there) p.1)

-- one hop more
pub room_more : (m : Market) (state : Standing) (hops : List Hop) (i was here now : ℕ) (d : Hop) → i < length hops → now ≤ was → now ≤ here → HasRoomFor m state (take i hops) was → HasRoomFor m state (get_or hops i d ∷ []) here → HasRoomFor m state (take (i + 1) hops) now
room_more m state hops i was here now d l less less' before this = record {
  amounts = All-more (λ (h : Hop). now ≤ h.rival.units) hops i d l (λ k e j. omega (arith, before.amounts k e j)) (omega (arith, All-head (λ (h : Hop). here ≤ h.rival.units) (get_or hops i d) [] this.amounts));
  limits = All-more (λ (h : Hop). amount_at state.lines h.offer.group.0 h.offer.place + now ≤ limit_of m h.offer.group.0 h.offer.place) hops i d l (λ k e j. omega (arith, before.limits k e j)) (omega (arith, All-head (λ (h : Hop). amount_at state.lines h.offer.group.0 h.offer.place + here ≤ limit_of m h.offer.group.0 h.offer.place) (get_or hops i d) [] this.limits));
  rooms = λ n there. All-more (λ (h : Hop). raises m n h ≡ true → load m state.lines n + now ≤ capacity_of m n) hops i d l (λ k e j raised. omega (arith, before.rooms n there k e j raised))
      (λ raised. omega (arith, All-head (λ (h : Hop). raises m n h ≡ true → load m state.lines n + here ≤ capacity_of m n) (get_or hops i d) [] (this.rooms n there) raised));
}

-- fewer units have room too
pub room_less : (m : Market) (state : Standing) (hops : List Hop) (few many : ℕ) → few ≤ many → HasRoomFor m state hops many → HasRoomFor m state hops few
room_less m state hops few many le room = record { amounts = λ k e j. omega (arith, room.amounts k e j); limits = λ k e j. omega (arith, room.limits k e j); rooms = λ n there k e j raised. omega (arith, room.rooms n there k e j raised) }
