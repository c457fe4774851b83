-- The turns of a walk up a path that gathers the nodes it meets, and the last of some numbers.
use Rattle.std.proofs.Common.{◌≡◌, ℕ, suc, ◌+◌, ◌-◌, ◌<◌, ◌≤◌, List, [], ◌∷◌, ◌++◌, length, Option, None, Some, map, slice_index, append_assoc, append-nil, sym, ap, ◌∙◌, arith}
use Rattle.std.proofs.lemmas.List.{map-append}
use Rattle.map_model.specs.declared.instance.NodeId.{NodeId}
use Rattle.map_model.specs.Market.{Market, climb, parent_of}
use Rattle.map_model.proofs.Paths.{climb_none, climb_step}

-- a turn that meets a node
pub path_turn : (m : Market) (i : ℕ) (p : NodeId) (at at' : Option NodeId) (items : List NodeId) (all : List ℕ) → i < 8 → at ≡ Some p → at' ≡ parent_of m p.0
    → map (λ n. n.0) items ++ climb (8 - i) m at ≡ all → map (λ n. n.0) (items ++ p ∷ []) ++ climb (8 - (i + 1)) m at' ≡ all
path_turn m i p at at' items all h is up so_far =
    let now : map (λ n. n.0) items ++ (p.0 ∷ climb (8 - (i + 1)) m (parent_of m p.0)) ≡ all = ap (λ ns. map (λ n. n.0) items ++ ns) (sym (climb_step m i p h)) ∙ ap (λ x. map (λ n. n.0) items ++ climb (8 - i) m x) (sym is) ∙ so_far in
    ap (λ x. map (λ n. n.0) (items ++ p ∷ []) ++ climb (8 - (i + 1)) m x) up
    ∙ ap (λ ns. ns ++ climb (8 - (i + 1)) m (parent_of m p.0)) (map-append (λ n. n.0) items (p ∷ []))
    ∙ append_assoc (map (λ n. n.0) items) (p.0 ∷ []) (climb (8 - (i + 1)) m (parent_of m p.0)) ∙ now

-- a turn in which the walk is over
pub path_over : (m : Market) (i j : ℕ) (at at' : Option NodeId) (before all : List ℕ) → at ≡ None → at' ≡ at → before ++ climb (8 - i) m at ≡ all → before ++ climb (8 - j) m at' ≡ all
path_over m i j at at' before all is stays so_far =
    ap (λ x. before ++ climb (8 - j) m x) (stays ∙ is) ∙ ap (λ ns. before ++ ns) (climb_none m (8 - j) ∙ sym (climb_none m (8 - i))) ∙ ap (λ x. before ++ climb (8 - i) m x) (sym is) ∙ so_far

pub path_done : (m : Market) (i : ℕ) (at : Option NodeId) (before all : List ℕ) → 8 ≤ i → before ++ climb (8 - i) m at ≡ all → before ≡ all
unfolding climb
path_done m i at before all h so_far = let e : 8 - i ≡ 0 = omega arith in sym (append-nil before) ∙ ap (λ s. before ++ climb s m at) (sym e) ∙ so_far

-- the last of some numbers
unfoldable pub last_of : List ℕ → ℕ
last_of xs = slice_index xs (length xs - 1)

-- an element more in front leaves the last one
pub last_of-cons : (x y : ℕ) (ys : List ℕ) → last_of (x ∷ y ∷ ys) ≡ last_of (y ∷ ys)
unfolding last_of
last_of-cons x y ys =
    let a : length (x ∷ y ∷ ys) - 1 ≡ suc (length ys) = omega arith in
    let b : length (y ∷ ys) - 1 ≡ length ys = omega arith in
    ap (slice_index (x ∷ y ∷ ys)) a ∙ ap (slice_index (y ∷ ys)) (sym b)
