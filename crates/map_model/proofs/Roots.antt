-- The root of a tree: one for all nodes of a path, and there.
use Rattle.std.proofs.Common.{◌≡◌, ℕ, zero, suc, ◌-◌, ◌<◌, ◌≤◌, ◌==◌, true, List, [], ◌∷◌, length, Option, None, Some, slice_index, refl, sym, ap, ◌∙◌, subst, inl, inr, arith}
use Rattle.std.specs.Option.{IfSome}
use Rattle.std.specs.List.{list_any}
use Rattle.std.proofs.lemmas.Bool.{eq-eqb, eqb-true, or_cases, or_left, or_right, false≢true}
use Rattle.map_model.specs.declared.instance.NodeId.{NodeId}
use Rattle.map_model.specs.Market.{Market, IsMarket, climb, parent_of, path}
use Rattle.map_model.specs.Allocation.{is_under}
use Rattle.map_model.specs.Progress.{root_of}
use Rattle.map_model.proofs.Paths.{climb_none, parent_there}
use Rattle.map_model.proofs.Trees.{climb_settled, under_there}
use Rattle.map_model.proofs.Turns.{last_of, last_of-cons}

-- a node has the root of the node right above it
root_up : (m : Market) → IsMarket m → (p q : NodeId) → p.0 < length m.nodes → parent_of m p.0 ≡ Some q → root_of m p.0 ≡ root_of m q.0
unfolding climb last_of
root_up m market p q there e =
    let short : length (p.0 ∷ climb 8 m (Some q)) ≤ 8 = subst (λ at. length (p.0 ∷ climb 8 m at) ≤ 8) e (market.shallow p.0 there) in
    let up : path m p.0 ≡ p.0 ∷ path m q.0 = ap (λ at. p.0 ∷ climb 7 m at) e ∙ ap (λ ns. p.0 ∷ ns) (sym (climb_settled m 7 8 (Some q) (omega arith) (omega (arith, short)))) in
    ap last_of up ∙ last_of-cons p.0 q.0 (climb 7 m (parent_of m q.0))

climb_root : (m : Market) → IsMarket m → (steps : ℕ) (p : NodeId) (n : ℕ) → p.0 < length m.nodes → list_any (λ x. x == n) (climb steps m (Some p)) ≡ true → root_of m p.0 ≡ root_of m n
unfolding climb
climb_root m market zero p n there h = absurd (false≢true h)
climb_root m market (suc steps) p n there h = elim (or_cases (p.0 == n) (list_any (λ x. x == n) (climb steps m (parent_of m p.0))) h) [
  | inl e ↦ ap (root_of m) (eqb-true p.0 n e)
  | inr i ↦ next (λ q l j. climb_root m market steps q n l j) (parent_of m p.0) refl (parent_there m market p.0 there) i
]
  where
    next : ((q : NodeId) → q.0 < length m.nodes → list_any (λ x. x == n) (climb steps m (Some q)) ≡ true → root_of m q.0 ≡ root_of m n) → (at : Option NodeId) → parent_of m p.0 ≡ at → IfSome at (λ q. q.0 < length m.nodes)
        → list_any (λ x. x == n) (climb steps m at) ≡ true → root_of m p.0 ≡ root_of m n
    next same None e l i = absurd (false≢true (sym (ap (list_any (λ x. x == n)) (climb_none m steps)) ∙ i))
    next same (Some q) e l i = root_up m market p q there e ∙ same q l i

-- the nodes of a path have one root
pub root-under : (m : Market) → IsMarket m → (n c : ℕ) → c < length m.nodes → is_under m n c ≡ true → root_of m c ≡ root_of m n
root-under m market n c there h = climb_root m market 8 (record { 0 = c }) n there h

-- the last number of a list that has one is in it
last_in : (x : ℕ) (xs : List ℕ) → list_any (λ y. y == slice_index (x ∷ xs) (length (x ∷ xs) - 1)) (x ∷ xs) ≡ true
last_in x [] = or_left (x == slice_index (x ∷ []) (length (x ∷ []) - 1)) _ (eq-eqb x x refl)
last_in x (y ∷ ys) =
    let same : slice_index (x ∷ y ∷ ys) (length (x ∷ y ∷ ys) - 1) ≡ slice_index (y ∷ ys) (length (y ∷ ys) - 1) = grind arith in
    subst (λ z. list_any (λ w. w == z) (x ∷ y ∷ ys) ≡ true) (sym same) (or_right (x == slice_index (y ∷ ys) (length (y ∷ ys) - 1)) _ (last_in y ys))

-- the root of a node is there
pub root-there : (m : Market) → IsMarket m → (n : ℕ) → n < length m.nodes → root_of m n < length m.nodes
unfolding climb
root-there m market n l = under_there m market (root_of m n) n l (last_in n (climb 7 m (parent_of m n)))
