-- What the hops of a circle do to loads: none falls at a full node of the circle, and no two hops raise one node.
use Rattle.std.proofs.Common.{◌≡◌, ℕ, ◌+◌, ◌<◌, ◌≤◌, Bool, true, false, not, ◌&&◌, if◌then◌else◌, suc, List, [], ◌∷◌, All, AllPairs, get_or, length, sym, ap, ◌∙◌, subst, inl, inr, arith}
use Rattle.std.proofs.lemmas.Bool.{and_parts, cases_Bool, false≢true, not-true}
use Rattle.std.proofs.lemmas.List.Elements.{All-head, All-tail}
use Rattle.std.proofs.lemmas.List.Sums.{sum_by-cons}
use Rattle.map_model.specs.Market.{Market, IsMarket, capacity_of, pool_of}
use Rattle.map_model.specs.Allocation.{counts_at, is_under, load}
use Rattle.map_model.proofs.Paths.{pool_there}
use Rattle.map_model.proofs.Trees.{comparable, under_there, under_trans}
use Rattle.evict.specs.Standing.{IsReady, Standing}
use Rattle.deferred_accept.specs.declared.circle.Hop.{Hop}
use Rattle.deferred_accept.specs.Turning.{HasRoomFor, IsCircle, IsHop, came, displaced, gone, raises}
use Rattle.deferred_accept.proofs.Circles.{nodes_apart, same_hop}
use Rattle.deferred_accept.proofs.Nearest.{nearest_below, node_one, worst_below, worst_one}

-- the offer of a hop stands under a node, and the one that it displaces
abbrev comes_under : Market → ℕ → Hop → Bool
comes_under m n hop = counts_at m n hop.offer.group.0 hop.offer.place

abbrev goes_under : Market → ℕ → Hop → Bool
goes_under m n hop = counts_at m n hop.rival.offer.group.0 hop.rival.offer.place

-- the pools of a hop's two offers are there
offer_there : (m : Market) (state : Standing) → IsMarket m → (hop : Hop) → IsHop m state hop → pool_of m hop.offer.group.0 hop.offer.place < length m.nodes
offer_there m state market hop h = pool_there m market hop.offer.group.0 hop.offer.place h.offer

rival_there : (m : Market) (state : Standing) → IsMarket m → (hop : Hop) → IsHop m state hop → pool_of m hop.rival.offer.group.0 hop.rival.offer.place < length m.nodes
rival_there m state market hop h = pool_there m market hop.rival.offer.group.0 hop.rival.offer.place h.rival.worst.offer

-- what is above a hop's full node is above both of its offers
over_both : (m : Market) (state : Standing) → IsMarket m → (hop : Hop) → IsHop m state hop → (n : ℕ) → is_under m n hop.rival.node.0 ≡ true → (comes_under m n hop ≡ true) × (goes_under m n hop ≡ true)
over_both m state market hop h n above = (
  under_trans m market n hop.rival.node.0 (pool_of m hop.offer.group.0 hop.offer.place) (offer_there m state market hop h) above h.rival.node.path,
  under_trans m market n hop.rival.node.0 (pool_of m hop.rival.offer.group.0 hop.rival.offer.place) (rival_there m state market hop h) above h.rival.worst.under,
)

-- the full node of a hop is above each node whose load the hop raises, or lowers
above_raised : (m : Market) (state : Standing) → IsMarket m → (hop : Hop) → IsHop m state hop → (n : ℕ) → comes_under m n hop ≡ true → goes_under m n hop ≡ false → is_under m hop.rival.node.0 n ≡ true
above_raised m state market hop h n in' out = elim (comparable m (pool_of m hop.offer.group.0 hop.offer.place) n hop.rival.node.0 in' h.rival.node.path) [
  | inl above ↦ above
  | inr below ↦ absurd (false≢true (sym out ∙ (over_both m state market hop h n below).1))
]

above_lowered : (m : Market) (state : Standing) → IsMarket m → (hop : Hop) → IsHop m state hop → (n : ℕ) → goes_under m n hop ≡ true → comes_under m n hop ≡ false → is_under m hop.rival.node.0 n ≡ true
above_lowered m state market hop h n in' out = elim (comparable m (pool_of m hop.rival.offer.group.0 hop.rival.offer.place) n hop.rival.node.0 in' h.rival.worst.under) [
  | inl above ↦ above
  | inr below ↦ absurd (false≢true (sym out ∙ (over_both m state market hop h n below).0))
]

-- no node is raised by one hop and lowered by another
pub apart_signs : (m : Market) (state : Standing) → IsMarket m → (a b : Hop) → IsHop m state a → IsHop m state b → (n : ℕ) → raises m n a ≡ true → counts_at m n b.rival.offer.group.0 b.rival.offer.place ≡ true → counts_at m n b.offer.group.0 b.offer.place ≡ false → ⊥
apart_signs m state market a b hop other n raised in' out =
    let p = and_parts (comes_under m n a) (not (goes_under m n a)) raised in
    let not_in : goes_under m n a ≡ false = not-true (goes_under m n a) p.1 in
    let high = above_raised m state market a hop n p.0 not_in in
    let low = above_lowered m state market b other n in' out in
    let there = under_there m market n (pool_of m a.offer.group.0 a.offer.place) (offer_there m state market a hop) p.0 in
    let one : (displaced a ≡ displaced b) × (a.rival.offer.place ≡ b.rival.offer.place) = elim (comparable m n a.rival.node.0 b.rival.node.0 high low) [
      | inr above ↦
          let path = under_trans m market b.rival.node.0 n (pool_of m a.offer.group.0 a.offer.place) (offer_there m state market a hop) low p.0 in
          let same : b.rival.node.0 ≡ a.rival.node.0 = hop.rival.node.nearest b.rival.node.0 path above other.rival.node.full in
          node_one m state market a b hop other (sym same)
      | inl above ↦
          let under = under_trans m market a.rival.node.0 n (pool_of m b.rival.offer.group.0 b.rival.offer.place) (rival_there m state market b other) high in' in
          let worst = worst_below m market state.lines b.rival.node.0 a.rival.node.0 b.rival.offer.group.0 b.rival.offer.place b.rival.units (under_there m market a.rival.node.0 n there high) above other.rival.worst under in
          worst_one m market state.lines a.rival.node.0 a.rival.offer.group.0 a.rival.offer.place a.rival.units b.rival.offer.group.0 b.rival.offer.place b.rival.units hop.rival.worst worst
    ] in
    false≢true (sym not_in ∙ ap (λ (g : ℕ). counts_at m n g a.rival.offer.place) one.0 ∙ ap (λ (k : ℕ). counts_at m n b.rival.offer.group.0 k) one.1 ∙ in')

-- two hops that raise one node have one full node
raised_one : (m : Market) (state : Standing) → IsMarket m → (a b : Hop) → IsHop m state a → IsHop m state b → (n : ℕ) → raises m n a ≡ true → raises m n b ≡ true → a.rival.node.0 ≡ b.rival.node.0
raised_one m state market a b hop other n raised also =
    let p = and_parts (comes_under m n a) (not (goes_under m n a)) raised in
    let q = and_parts (comes_under m n b) (not (goes_under m n b)) also in
    let high = above_raised m state market a hop n p.0 (not-true (goes_under m n a) p.1) in
    let low = above_raised m state market b other n q.0 (not-true (goes_under m n b) q.1) in
    elim (comparable m n a.rival.node.0 b.rival.node.0 high low) [
      | inr above ↦ sym (hop.rival.node.nearest b.rival.node.0 (under_trans m market b.rival.node.0 n (pool_of m a.offer.group.0 a.offer.place) (offer_there m state market a hop) low p.0) above other.rival.node.full)
      | inl above ↦ other.rival.node.nearest a.rival.node.0 (under_trans m market a.rival.node.0 n (pool_of m b.offer.group.0 b.offer.place) (offer_there m state market b other) high q.0) above hop.rival.node.full
    ]

-- no two hops of a circle raise one node
pub raised_apart : (m : Market) (state : Standing) → IsMarket m → (first : Hop) (rest : List Hop) (units : ℕ) → IsCircle m state first rest units → (n : ℕ) → AllPairs (λ a b. raises m n a ≡ true → raises m n b ≡ true → ⊥) (first ∷ rest)
raised_apart m state market first rest units circle n i j d l there raised also =
    nodes_apart m state market first rest units circle i j d l there (raised_one m state market (get_or (first ∷ rest) i d) (get_or (first ∷ rest) j d) (circle.hops i d (omega arith)) (circle.hops j d there) n raised also)

-- no full node is raised
pub full_unraised : (m : Market) (state : Standing) → IsMarket m → (hop : Hop) → IsHop m state hop → (n : ℕ) → load m state.lines n ≡ capacity_of m n → counts_at m n hop.offer.group.0 hop.offer.place ≡ true → counts_at m n hop.rival.offer.group.0 hop.rival.offer.place ≡ true
full_unraised m state market hop h n full path = (over_both m state market hop h n (nearest_below m state.lines hop.offer.group.0 hop.offer.place hop.rival.node.0 n h.rival.node path full)).1

-- at the full node of one hop of a circle, the two offers of another hop stand both under it, or neither does
pub level : (m : Market) (state : Standing) → IsMarket m → (first : Hop) (rest : List Hop) (units : ℕ) → IsCircle m state first rest units
    → All (λ f. All (λ h. counts_at m f.rival.node.0 h.offer.group.0 h.offer.place ≡ counts_at m f.rival.node.0 h.rival.offer.group.0 h.rival.offer.place) (first ∷ rest)) (first ∷ rest)
level m state market first rest units circle i d l j e l' =
    let f : Hop = get_or (first ∷ rest) i d in
    let h : Hop = get_or (first ∷ rest) j e in
    let hop = circle.hops i d l in
    let other = circle.hops j e l' in
    elim (cases_Bool (comes_under m f.rival.node.0 h)) [
      | inl in' ↦ in' ∙ sym (full_unraised m state market h other f.rival.node.0 hop.rival.node.full in')
      | inr out ↦ elim (cases_Bool (goes_under m f.rival.node.0 h)) [
        | inr also ↦ out ∙ sym also
        | inl under ↦
            let above = above_lowered m state market h other f.rival.node.0 under out in
            let there = under_there m market f.rival.node.0 (pool_of m f.offer.group.0 f.offer.place) (offer_there m state market f hop) hop.rival.node.path in
            let worst = worst_below m market state.lines h.rival.node.0 f.rival.node.0 h.rival.offer.group.0 h.rival.offer.place h.rival.units there above other.rival.worst under in
            let one = worst_one m market state.lines f.rival.node.0 f.rival.offer.group.0 f.rival.offer.place f.rival.units h.rival.offer.group.0 h.rival.offer.place h.rival.units hop.rival.worst worst in
            let same : f ≡ h = same_hop m state market first rest units circle i j d e l l' one.0 in
            absurd (false≢true (sym out ∙ subst (λ (x : Hop). comes_under m f.rival.node.0 x ≡ true) same hop.rival.node.path))
      ]
    ]

-- where each of some hops has room at a node that it raises, and no two raise it, the node is within its capacity when all are made
within : (m : Market) (n low high units : ℕ) → low ≤ high → (hops : List Hop) → AllPairs (λ a b. raises m n a ≡ true → raises m n b ≡ true → ⊥) hops → All (λ h. raises m n h ≡ true → low + units ≤ high) hops
    → low + came (counts_at m n) units hops ≤ high + gone (counts_at m n) units hops
within m n low high units le [] one room = omega arith
within m n low high units le (x ∷ xs) one room =
    let tail : AllPairs (λ a b. raises m n a ≡ true → raises m n b ≡ true → ⊥) xs = λ i j d l h. one (suc i) (suc j) d (omega arith) (omega arith) in
    let coming = sum_by-cons (λ (h : Hop). if comes_under m n h then units else 0) x xs in
    let going = sum_by-cons (λ (h : Hop). if goes_under m n h then units else 0) x xs in
    elim (cases_Bool (raises m n x)) [
      | inr e ↦ omega (arith, coming, going, no_more (comes_under m n x) (goes_under m n x) e, within m n low high units le xs tail (All-tail (λ h. raises m n h ≡ true → low + units ≤ high) x xs room))
      | inl e ↦
          let more : low + units ≤ high = All-head (λ h. raises m n h ≡ true → low + units ≤ high) x xs room e in
          let rest = within m n (low + units) high units more xs tail (λ k d l r. absurd (one 0 (suc k) d (omega arith) (omega arith) e r)) in
          omega (arith, coming, going, at_most (comes_under m n x), rest)
    ]
  where
    no_more : (b c : Bool) → (b && not c) ≡ false → (if b then units else 0) ≤ (if c then units else 0)
    no_more true true e = omega arith
    no_more true false e = absurd (false≢true (sym e))
    no_more false c e = omega arith

    at_most : (b : Bool) → (if b then units else 0) ≤ units
    at_most true = omega arith
    at_most false = omega arith

-- so many units that there is room for may go round a circle: each node is within its capacity at the end
pub ends_within : (m : Market) (state : Standing) → IsReady m state → (first : Hop) (rest : List Hop) (units : ℕ) → IsCircle m state first rest units → (most : ℕ) → HasRoomFor m state (first ∷ rest) most → (n : ℕ) → n < length m.nodes
    → load m state.lines n + came (counts_at m n) most (first ∷ rest) ≤ capacity_of m n + gone (counts_at m n) most (first ∷ rest)
ends_within m state ready first rest units circle most room n l =
    within m n (load m state.lines n) (capacity_of m n) most (ready.resumable.capacities n l) (first ∷ rest) (raised_apart m state ready.market first rest units circle n) (room.rooms n l)
