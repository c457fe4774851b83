-- The full nodes nearest to nodes, from node to node, and the refusing node of an offer, from full node to full node.
use Rattle.std.proofs.Common.{◌≡◌, ℕ, zero, suc, ◌+◌, ◌<◌, ◌≤◌, ◌==◌, Bool, true, false, ◌&&◌, cond, if◌then◌else◌, List, [], ◌∷◌, ◌++◌, length, Option, None, Some, MatchOption, slice_index_or, refl, sym, ap, ◌∙◌, subst, inl, inr, arith}
use Rattle.std.specs.List.{find}
use Rattle.std.specs.Option.{IfSome, option_map, unwrap_or}
use Rattle.std.specs.Ordering.{is_le, nat_cmp, ordering_then}
use Rattle.std.specs.declared.cmp.Ordering.{Ordering}
use Rattle.std.specs.declared.cmp.Ordering.TheVariants.{Less, Equal, Greater}
use Rattle.std.proofs.lemmas.Bool.{cases_Bool, cases_eq, lt-ltb}
use Rattle.std.proofs.lemmas.List.{get_or_append_left, length-append}
use Rattle.std.proofs.Math.Seq.{get_or-append_seam}
use Rattle.map_model.specs.declared.instance.Key.{Key}
use Rattle.map_model.specs.declared.instance.NodeId.{NodeId}
use Rattle.map_model.specs.declared.lines.By.TheVariants.{Limit, Node}
use Rattle.map_model.specs.declared.lines.MapLine.{MapLine}
use Rattle.map_model.specs.Market.{Market, IsMarket, IsSameShape, capacity_of, climb, key_of, parent_of, path}
use Rattle.map_model.specs.Allocation.{AreLines, is_at_limit, is_full_of_better, key_le, load, none_worse, refuser_of, refusing_node}
use Rattle.map_model.specs.Holding.{IsWorst}
use Rattle.map_model.proofs.Paths.{IsBelow, climb_none, find-climb, parent_below}
use Rattle.map_model.proofs.Shapes.{key_of-shape, shape_sym}
use Rattle.map_model.proofs.Trees.{climb_settled}
use Rattle.evict.proofs.Shaped.{AreLines-shape}
use Rattle.evict.proofs.Worst.{worst_key, worst_none}
use Rattle.deferred_accept.specs.declared.bars.Bar.{Bar}
use Rattle.deferred_accept.specs.Bars.{AreBars, IsBarAt, IsBarTable}

zero_least : (n : ℕ) → is_le (nat_cmp 0 n) ≡ true
zero_least zero = refl
zero_least (suc n) = ap (λ t. is_le (cond t Less (cond (0 == suc n) Equal Greater))) (lt-ltb 0 (suc n) (omega arith))

both_least : (a b c : Ordering) → is_le a ≡ true → is_le b ≡ true → is_le c ≡ true → is_le (ordering_then a (ordering_then b c)) ≡ true
both_least Less b c x y z = refl
both_least Equal Less c x y z = refl
both_least Equal Equal c x y z = z
both_least Equal Greater c x y z = y
both_least Greater b c x y z = x

-- no key is ranked above the first one
pub first_le : (key : Key) → key_le (record { score = 0; group = record { 0 = 0 }; pool = record { 0 = 0 } }) key ≡ true
first_le key = both_least (nat_cmp 0 key.score) (nat_cmp 0 key.group.0) (nat_cmp 0 key.pool.0) (zero_least key.score) (zero_least key.group.0) (zero_least key.pool.0)

-- the ranks from which on a node refuses, if it is full
module _ (from m : Market) (shape : IsSameShape from m) (lines : List MapLine) (form : AreLines m lines) (n : ℕ) where
  form_from : AreLines from lines
  form_from = AreLines-shape m from (shape_sym from m shape) lines form

  pub refuses_worst : (h j units : ℕ) → IsWorst from lines n h j units → (key : Key) → none_worse m lines n key ≡ key_le (key_of m h j) key
  refuses_worst h j units worst key = worst_key from m shape lines n (key_of from h j) key form_from (h, j, units, worst, refl) ∙ ap (λ (x : Key). key_le x key) (sym (key_of-shape from m shape h j))

  pub refuses_all : load from lines n ≡ 0 → (key : Key) → none_worse m lines n key ≡ key_le (record { score = 0; group = record { 0 = 0 }; pool = record { 0 = 0 } }) key
  refuses_all none key = worst_none from m shape lines n key form_from none ∙ sym (first_le key)

-- whether a node is full
abbrev full_at : Market → List MapLine → ℕ → Bool
full_at m lines n = load m lines n == capacity_of m n

-- a full node is the first one of its path
pub bar_here : (m : Market) (lines : List MapLine) (n : ℕ) (key : Key) → (load m lines n == capacity_of m n) ≡ true → ((k : Key) → none_worse m lines n k ≡ key_le key k) → IsBarAt m lines n (Some (record { node = record { 0 = n }; key = key }))
bar_here m lines n key full refuses = record {
  first = sym (find-climb (full_at m lines) m 0 (record { 0 = n }) (omega arith) ∙ ap (λ b. if b then Some n else find (full_at m lines) (climb 7 m (parent_of m n))) full);
  refuses = (omega arith, refuses);
}

-- the path of a parent is the rest of a node's
path_up : (m : Market) → IsMarket m → (n : ℕ) → n < length m.nodes → (p : NodeId) → parent_of m n ≡ Some p → climb 7 m (Some p) ≡ climb 8 m (Some p)
unfolding climb
path_up m market n there p parent =
    let shallow : suc (length (climb 8 m (parent_of m n))) ≤ 8 = market.shallow n there in
    let short : length (climb 8 m (Some p)) ≤ 7 = subst (λ at. length (climb 8 m at) ≤ 7) parent (omega (arith, shallow)) in
    sym (climb_settled m 7 8 (Some p) (omega arith) short)

-- and else it is what is said of the node above
pub bar_up : (m : Market) → IsMarket m → (lines : List MapLine) (n : ℕ) → n < length m.nodes → (load m lines n == capacity_of m n) ≡ false → (above : Option Bar) (bars : List (Option Bar)) → AreBars m lines bars → length bars ≡ n
    → MatchOption (parent_of m n) (above ≡ None) (λ p. (p.0 < n) × (above ≡ slice_index_or bars p.0 None)) → IsBarAt m lines n above
bar_up m market lines n there room above bars are size is = go (parent_of m n) refl is
  where
    step : find (full_at m lines) (path m n) ≡ find (full_at m lines) (climb 7 m (parent_of m n))
    step = find-climb (full_at m lines) m 0 (record { 0 = n }) (omega arith) ∙ ap (λ b. if b then Some n else find (full_at m lines) (climb 7 m (parent_of m n))) room

    lower : (p : NodeId) (bar : Option Bar) → p.0 < n → IfSome bar (λ b. (b.node.0 ≤ p.0) × ((key : Key) → none_worse m lines b.node.0 key ≡ key_le b.key key)) → IfSome bar (λ b. (b.node.0 ≤ n) × ((key : Key) → none_worse m lines b.node.0 key ≡ key_le b.key key))
    lower p None below h = tt
    lower p (Some b) below h = (omega (arith, below, h.0), h.1)

    go : (at : Option NodeId) → parent_of m n ≡ at → MatchOption at (above ≡ None) (λ p. (p.0 < n) × (above ≡ slice_index_or bars p.0 None)) → IsBarAt m lines n above
    go None root none = subst (IsBarAt m lines n) (sym none) (record { first = sym (step ∙ ap (λ at. find (full_at m lines) (climb 7 m at)) root ∙ ap (find (full_at m lines)) (climb_none m 7)); refuses = tt })
    go (Some p) parent x =
        let entry : IsBarAt m lines p.0 above = subst (IsBarAt m lines p.0) (sym x.1) (are p.0 (omega (arith, x.0, size))) in
        record {
          first = entry.first ∙ sym (step ∙ ap (λ at. find (full_at m lines) (climb 7 m at)) parent ∙ ap (find (full_at m lines)) (path_up m market n there p parent));
          refuses = lower p above x.0 entry.refuses;
        }

-- one bar more
pub pushed : (m : Market) (lines : List MapLine) (xs ys : List (Option Bar)) (x : Option Bar) → ys ≡ xs ++ x ∷ [] → AreBars m lines xs → IsBarAt m lines (length xs) x → AreBars m lines ys
pushed m lines xs ys x more all here n l = subst (λ zs. IsBarAt m lines n (slice_index_or zs n None)) (sym more) (elim (cases_eq n (length xs)) [
  | inl e ↦ subst (λ k. IsBarAt m lines k (slice_index_or (xs ++ x ∷ []) k None)) (sym e) (subst (IsBarAt m lines (length xs)) (sym (get_or-append_seam xs x [] None)) here)
  | inr apart ↦
      let low : n < length xs = omega (arith, l, apart, ap length more, length-append xs (x ∷ [])) in
      subst (IsBarAt m lines n) (sym (get_or_append_left xs (x ∷ []) None n low)) (all n low)
])

-- the number of a node and one more; 0 for no node
abbrev pub height : Option NodeId → ℕ
height at = unwrap_or (option_map (λ (n : NodeId). n.0 + 1) at) 0

-- the first full node on the way up from a node, if there is a node, and what it refuses
abbrev pub IsBarFrom : Market → List MapLine → Option NodeId → Option Bar → Type 0
IsBarFrom m lines at found = MatchOption found (find (λ c. load m lines c == capacity_of m c) (climb 8 m at) ≡ None)
    (λ b. (find (λ c. load m lines c == capacity_of m c) (climb 8 m at) ≡ Some b.node.0) × (b.node.0 < height at) × ((key : Key) → none_worse m lines b.node.0 key ≡ key_le b.key key))

-- as a table says it
pub from_table : (m : Market) (lines : List MapLine) (bars : List (Option Bar)) → IsBarTable m lines bars → (at : Option NodeId) (found : Option Bar) → IfSome at (λ n. n.0 < length m.nodes)
    → MatchOption at (found ≡ None) (λ n. found ≡ slice_index_or bars n.0 None) → IsBarFrom m lines at found
from_table m lines bars table None found there is = subst (IsBarFrom m lines None) (sym is) (ap (find (full_at m lines)) (climb_none m 8))
from_table m lines bars table (Some n) found there is = go found (subst (IsBarAt m lines n.0) (sym is) (table.bars_at n.0 (omega (arith, there, table.size))))
  where
    go : (found : Option Bar) → IsBarAt m lines n.0 found → IsBarFrom m lines (Some n) found
    go None entry = sym entry.first
    go (Some b) entry = let low : b.node.0 < n.0 + 1 = omega (arith, entry.refuses.0) in (sym entry.first, low, entry.refuses.1)

-- the table has an entry for the node, if there is one
pub within_table : (m : Market) (lines : List MapLine) (bars : List (Option Bar)) → IsBarTable m lines bars → (at : Option NodeId) → IfSome at (λ n. n.0 < length m.nodes) → IfSome at (λ n. n.0 < length bars)
within_table m lines bars table None there = tt
within_table m lines bars table (Some n) there = let low : n.0 < length bars = omega (arith, there, table.size) in low

some_one : (a b : ℕ) → Some a ≡ Some b → a ≡ b
some_one a b e = cc

none_some : (a : ℕ) → None ≡ Some a → ⊥
none_some a e = cc

some_none : (a : ℕ) → Some a ≡ None → ⊥
some_none a e = cc

-- where no node of a list passes a test, none passes it and another one
none_passes : (full worse : ℕ → Bool) (ns : List ℕ) → find full ns ≡ None → find (λ n. full n && worse n) ns ≡ None
none_passes full worse [] is = refl
none_passes full worse (n ∷ ns) is = elim (cases_Bool (full n)) [
  | inl y ↦ absurd (some_none n (sym (ap (λ t. if t then Some n else find full ns) y) ∙ is))
  | inr room ↦ ap (λ t. if t && worse n then Some n else find (λ x. full x && worse x) ns) room ∙ none_passes full worse ns (sym (ap (λ t. if t then Some n else find full ns) room) ∙ is)
]

-- the first node of a climb that passes two tests is the first one that passes the one, or comes behind it
hop : (m : Market) (full worse : ℕ → Bool) (steps : ℕ) (at : Option NodeId) (b : ℕ) → steps ≤ 8 → length (climb (suc steps) m at) ≤ steps → find full (climb steps m at) ≡ Some b
    → find (λ n. full n && worse n) (climb steps m at) ≡ (if worse b then Some b else find (λ n. full n && worse n) (climb 8 m (parent_of m b)))
unfolding climb
hop m full worse zero at b few short is = absurd (none_some b is)
hop m full worse (suc steps) None b few short is = absurd (none_some b is)
hop m full worse (suc steps) (Some p) b few short is = elim (cases_Bool (full p.0)) [
  | inl y ↦
      let same : p.0 ≡ b = some_one p.0 b (sym (ap (λ t. if t then Some p.0 else find full (climb steps m (parent_of m p.0))) y) ∙ is) in
      let rest : climb steps m (parent_of m p.0) ≡ climb 8 m (parent_of m p.0) = sym (climb_settled m steps 8 (parent_of m p.0) (omega (arith, few)) (omega (arith, short))) in
      subst (λ x. find (λ n. full n && worse n) (climb (suc steps) m (Some p)) ≡ (if worse x then Some x else find (λ n. full n && worse n) (climb 8 m (parent_of m x)))) same
      (ap (λ t. if t && worse p.0 then Some p.0 else find (λ n. full n && worse n) (climb steps m (parent_of m p.0))) y ∙ ap (λ ns. if worse p.0 then Some p.0 else find (λ n. full n && worse n) ns) rest)
  | inr room ↦
      ap (λ t. if t && worse p.0 then Some p.0 else find (λ n. full n && worse n) (climb steps m (parent_of m p.0))) room
      ∙ hop m full worse steps (parent_of m p.0) b (omega (arith, few)) (omega (arith, short)) (sym (ap (λ t. if t then Some p.0 else find full (climb steps m (parent_of m p.0))) room) ∙ is)
]

-- a climb that begins at a node of the instance is over behind eight
short_from : (m : Market) → IsMarket m → (at : Option NodeId) → IfSome at (λ n. n.0 < length m.nodes) → length (climb 9 m at) ≤ 8
short_from m market None there = subst (λ (ns : List ℕ). length ns ≤ 8) (sym (climb_none m 9)) (omega arith)
short_from m market (Some n) there = market.shallow n.0 there

module _ (m : Market) (market : IsMarket m) (lines : List MapLine) (key : Key) (at : Option NodeId) (there : IfSome at (λ n. n.0 < length m.nodes)) where
  -- where the first full node refuses, it is the refusing node
  pub refused_here : (b : Bar) → IsBarFrom m lines at (Some b) → key_le b.key key ≡ true → Some b.node.0 ≡ find (λ n. is_full_of_better m lines n key) (climb 8 m at)
  refused_here b from le = sym (hop m (full_at m lines) (λ n. none_worse m lines n key) 8 at b.node.0 (omega arith) (short_from m market at there) from.0
      ∙ ap (λ t. if t then Some b.node.0 else find (λ n. is_full_of_better m lines n key) (climb 8 m (parent_of m b.node.0))) (from.2 key ∙ le))

  -- and else that is above it
  pub refused_above : (b : Bar) → IsBarFrom m lines at (Some b) → key_le b.key key ≡ false → find (λ n. is_full_of_better m lines n key) (climb 8 m (parent_of m b.node.0)) ≡ find (λ n. is_full_of_better m lines n key) (climb 8 m at)
  refused_above b from better = sym (hop m (full_at m lines) (λ n. none_worse m lines n key) 8 at b.node.0 (omega arith) (short_from m market at there) from.0
      ∙ ap (λ t. if t then Some b.node.0 else find (λ n. is_full_of_better m lines n key) (climb 8 m (parent_of m b.node.0))) (from.2 key ∙ better))

  -- where no node is full, none refuses
  pub refused_nowhere : IsBarFrom m lines at None → None ≡ find (λ n. is_full_of_better m lines n key) (climb 8 m at)
  refused_nowhere from = sym (none_passes (full_at m lines) (λ n. none_worse m lines n key) (climb 8 m at) from)

  -- the first full node is one of the instance
  pub bar_there : (b : Bar) → IsBarFrom m lines at (Some b) → b.node.0 < length m.nodes
  bar_there b from = go at there from.1
    where
      go : (at : Option NodeId) → IfSome at (λ n. n.0 < length m.nodes) → b.node.0 < height at → b.node.0 < length m.nodes
      go None there low = let none : b.node.0 < 0 = low in absurd (omega (arith, none))
      go (Some n) there low = let at : b.node.0 < n.0 + 1 = low in omega (arith, there, at)

  -- the node above it, if there is one, is one too, and has a lower number than the one at which the way began
  up_below : (b : Bar) → IsBarFrom m lines at (Some b) → (up : Option NodeId) → up ≡ parent_of m b.node.0 → IsBelow m b.node.0 up
  up_below b from up is = subst (IsBelow m b.node.0) (sym is) (parent_below m market b.node.0 (bar_there b from))

  pub up_there : (b : Bar) → IsBarFrom m lines at (Some b) → (up : Option NodeId) → up ≡ parent_of m b.node.0 → IfSome up (λ n. n.0 < length m.nodes)
  up_there b from up is = go up (up_below b from up is)
    where
      go : (up : Option NodeId) → IsBelow m b.node.0 up → IfSome up (λ n. n.0 < length m.nodes)
      go None below = tt
      go (Some p) below = below.1

  pub up_lower : (b : Bar) → IsBarFrom m lines at (Some b) → (up : Option NodeId) → up ≡ parent_of m b.node.0 → height up < height at
  up_lower b from up is = go up (up_below b from up is)
    where
      go : (up : Option NodeId) → IsBelow m b.node.0 up → height up < height at
      go None below = let some : 0 < height at = omega (arith, from.1) in some
      go (Some p) below = let low : p.0 + 1 < height at = omega (arith, below.0, from.1) in low

-- what refuses an offer, by cases
pub by_limit : (m : Market) (lines : List MapLine) (g k : ℕ) → is_at_limit m lines g k ≡ true → Some Limit ≡ refuser_of m lines g k
by_limit m lines g k full = sym (ap (λ t. if t then Some Limit else option_map (λ (n : ℕ). Node (record { 0 = n })) (refusing_node m lines g k)) full)

pub by_node : (m : Market) (lines : List MapLine) (g k : ℕ) (found : Option ℕ) → is_at_limit m lines g k ≡ false → found ≡ refusing_node m lines g k → option_map (λ (n : ℕ). Node (record { 0 = n })) found ≡ refuser_of m lines g k
by_node m lines g k found room is =
    ap (option_map (λ (n : ℕ). Node (record { 0 = n }))) is ∙ sym (ap (λ t. if t then Some Limit else option_map (λ (n : ℕ). Node (record { 0 = n })) (refusing_node m lines g k)) room)
