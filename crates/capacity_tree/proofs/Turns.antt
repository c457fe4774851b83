-- The turns of a walk that changes loads, and of one to the root.
use Rattle.std.proofs.Common.{◌≡◌, ◌≢◌, ℕ, suc, ◌+◌, ◌-◌, ◌<◌, ◌≤◌, Bool, true, false, List, [], ◌∷◌, length, Option, None, Some, slice_index, slice_set, get_or-set_same, get_or-set_other, if◌then◌else◌, refl, sym, ap, ◌∙◌, subst, inl, inr, arith}
use Rattle.std.proofs.lemmas.Bool.{cases_eq, ne_eqb}
use Rattle.map_model.specs.declared.instance.NodeId.{NodeId}
use Rattle.map_model.specs.Market.{Market, IsMarket, climb, parent_of}
use Rattle.map_model.proofs.Paths.{climb_below, climb_none, climb_step, parent_below, touched, touched_here, touched_none, walk_start}
use Rattle.map_model.proofs.Trees.{under_there}
use Rattle.map_model.proofs.Turns.{last_of, last_of-cons}
use Rattle.map_model.specs.Allocation.{is_under}

climb_up : (m : Market) (s t : ℕ) (p : NodeId) → s ≡ suc t → climb s m (Some p) ≡ p.0 ∷ climb t m (parent_of m p.0)
unfolding climb
climb_up m s t p e = ap (λ s. climb s m (Some p)) e

-- the turns of a walk to the root
pub root_turn : (m : Market) (i root : ℕ) (p : NodeId) (all : ℕ) → i < 7 → parent_of m root ≡ Some p
    → slice_index (climb (8 - i) m (Some (record { 0 = root }))) (length (climb (8 - i) m (Some (record { 0 = root }))) - 1) ≡ all
    → slice_index (climb (8 - (i + 1)) m (Some p)) (length (climb (8 - (i + 1)) m (Some p)) - 1) ≡ all
unfolding last_of
root_turn m i root p all h is so_far =
    let more : 8 - (i + 1) ≡ suc (8 - (i + 2)) = omega arith in
    let next : climb (8 - (i + 1)) m (Some p) ≡ p.0 ∷ climb (8 - (i + 2)) m (parent_of m p.0) = climb_up m (8 - (i + 1)) (8 - (i + 2)) p more in
    let now : climb (8 - i) m (Some (record { 0 = root })) ≡ root ∷ (p.0 ∷ climb (8 - (i + 2)) m (parent_of m p.0))
    = climb_step m i (record { 0 = root }) (omega arith) ∙ ap (λ x. root ∷ climb (8 - (i + 1)) m x) is ∙ ap (λ ns. root ∷ ns) next in
    ap last_of next ∙ sym (last_of-cons root p.0 (climb (8 - (i + 2)) m (parent_of m p.0))) ∙ ap last_of (sym now) ∙ so_far

pub root_over : (m : Market) (i root : ℕ) (all : ℕ) → i < 7 → parent_of m root ≡ None
    → slice_index (climb (8 - i) m (Some (record { 0 = root }))) (length (climb (8 - i) m (Some (record { 0 = root }))) - 1) ≡ all
    → slice_index (climb (8 - (i + 1)) m (Some (record { 0 = root }))) (length (climb (8 - (i + 1)) m (Some (record { 0 = root }))) - 1) ≡ all
unfolding last_of
root_over m i root all h is so_far = ap last_of (lone m (i + 1) root (omega arith) is) ∙ ap last_of (sym (lone m i root (omega arith) is)) ∙ so_far
  where
    lone : (m : Market) (i root : ℕ) → i < 8 → parent_of m root ≡ None → climb (8 - i) m (Some (record { 0 = root })) ≡ root ∷ []
    lone m i root h is = climb_step m i (record { 0 = root }) h ∙ ap (λ x. root ∷ climb (8 - (i + 1)) m x) is ∙ ap (λ ns. root ∷ ns) (climb_none m (8 - (i + 1)))

pub root_done : (m : Market) (i root : ℕ) (all : ℕ) → 7 ≤ i → i ≤ 7 → slice_index (climb (8 - i) m (Some (record { 0 = root }))) (length (climb (8 - i) m (Some (record { 0 = root }))) - 1) ≡ all → root ≡ all
unfolding last_of climb
root_done m i root all low high so_far = let e : 8 - i ≡ 1 = omega arith in ap (λ s. last_of (climb s m (Some (record { 0 = root })))) (sym e) ∙ so_far

-- a walk that takes at each node what another walk would give back: past a node, and at it
touched_past : {X : Type 0} (f : X → X) (m : Market) (i : ℕ) (p : NodeId) (n : ℕ) (x : X) → i < 8 → p.0 ≢ n → touched f m (8 - i) (Some p) n x ≡ touched f m (8 - (i + 1)) (parent_of m p.0) n x
unfolding touched
touched_past f m i p n x h ne = rw (climb_step m i p h) (rw (ne_eqb p.0 n ne) refl)

touched_behind : {X : Type 0} (f : X → X) (m : Market) → IsMarket m → (i : ℕ) (p : NodeId) (x : X) → p.0 < length m.nodes → touched f m (8 - (i + 1)) (parent_of m p.0) p.0 x ≡ x
unfolding touched
touched_behind f m market i p x within = rw (climb_below m market (8 - (i + 1)) (parent_of m p.0) p.0 (parent_below m market p.0 within)) refl

pub taken_turn : (m : Market) → IsMarket m → (i : ℕ) (p : NodeId) (at at' : Option NodeId) (old new : List ℕ) (units : ℕ) (target : ℕ → ℕ) → i < 8 → at ≡ Some p → at' ≡ parent_of m p.0 → p.0 < length m.nodes → p.0 < length old
    → new ≡ slice_set old p.0 (slice_index old p.0 - units) → (n : ℕ) → ((n : ℕ) → slice_index old n ≡ touched (λ x. x + units) m (8 - i) at n (target n)) → slice_index new n ≡ touched (λ x. x + units) m (8 - (i + 1)) at' n (target n)
taken_turn m market i p at at' old new units target h is up within size made n so_far = elim (cases_eq p.0 n) [
  | inl e ↦
      let was : slice_index old p.0 ≡ target p.0 + units = so_far p.0 ∙ ap (λ x. touched (λ x. x + units) m (8 - i) x p.0 (target p.0)) is ∙ touched_here (λ x. x + units) m i p (target p.0) h in
      let now : slice_index new p.0 ≡ target p.0 = ap (λ xs. slice_index xs p.0) made ∙ get_or-set_same old p.0 (slice_index old p.0 - units) 0 size ∙ (let d : slice_index old p.0 - units ≡ target p.0 = omega arith in d) in
      subst (λ x. slice_index new x ≡ touched (λ x. x + units) m (8 - (i + 1)) at' x (target x)) e
      (now ∙ sym (ap (λ x. touched (λ x. x + units) m (8 - (i + 1)) x p.0 (target p.0)) up ∙ touched_behind (λ x. x + units) m market i p (target p.0) within))
  | inr ne ↦
      let other : n ≢ p.0 = λ e. ne (sym e) in
      ap (λ xs. slice_index xs n) made ∙ get_or-set_other old p.0 n (slice_index old p.0 - units) 0 other ∙ so_far n ∙ ap (λ x. touched (λ x. x + units) m (8 - i) x n (target n)) is
      ∙ touched_past (λ x. x + units) m i p n (target n) h ne ∙ sym (ap (λ x. touched (λ x. x + units) m (8 - (i + 1)) x n (target n)) up)
]

-- what a node has before its turn is at least what is taken
pub taken_here : (m : Market) (i : ℕ) (p : NodeId) (at : Option NodeId) (units was target : ℕ) → i < 8 → at ≡ Some p → was ≡ touched (λ x. x + units) m (8 - i) at p.0 target → units ≤ was
taken_here m i p at units was target h is so_far =
    let e : was ≡ target + units = so_far ∙ ap (λ x. touched (λ x. x + units) m (8 - i) x p.0 target) is ∙ touched_here (λ x. x + units) m i p target h in
    omega arith

-- before a walk that takes, each node has what is to stay and what is to go
pub taken_start : (m : Market) → IsMarket m → (pool : NodeId) → pool.0 < length m.nodes → (old : List ℕ) (units : ℕ) → ((n : ℕ) → n < length m.nodes → is_under m n pool.0 ≡ true → units ≤ slice_index old n)
    → (n : ℕ) → slice_index old n ≡ touched (λ x. x + units) m 8 (Some pool) n (if is_under m n pool.0 then slice_index old n - units else slice_index old n)
taken_start m market pool within old units held n =
    sym (walk_start (λ x. x + units) m pool n _ ∙ each (is_under m n pool.0) (λ e. held n (under_there m market n pool.0 within e) e))
  where
    each : (b : Bool) → (b ≡ true → units ≤ slice_index old n) → (if b then (if b then slice_index old n - units else slice_index old n) + units else (if b then slice_index old n - units else slice_index old n)) ≡ slice_index old n
    each true h = let l : units ≤ slice_index old n = h refl in omega arith
    each false h = refl

-- a turn in which that walk is over
pub taken_over : (m : Market) (i j : ℕ) (at at' : Option NodeId) (n was now target units : ℕ) → at ≡ None → at' ≡ at → now ≡ was → was ≡ touched (λ x. x + units) m (8 - i) at n target → now ≡ touched (λ x. x + units) m (8 - j) at' n target
taken_over m i j at at' n was now target units is stays same so_far =
    same ∙ so_far ∙ ap (λ x. touched (λ x. x + units) m (8 - i) x n target) is ∙ touched_none (λ x. x + units) m (8 - i) n target
    ∙ sym (ap (λ x. touched (λ x. x + units) m (8 - j) x n target) (stays ∙ is) ∙ touched_none (λ x. x + units) m (8 - j) n target)
