-- Worked rows of reached and spread trees: two crossed groups over two roots, and a third group over a root of its own.
use Rattle.std.proofs.Common.{◌≡◌, ◌≢◌, ℕ, zero, suc, ◌<◌, nat_lt, ◌==◌, Bool, true, false, List, [], ◌∷◌, length, refl, sym, subst, arith}
use Rattle.std.proofs.lemmas.Bool.{eqb-true, false≢true}
use Rattle.map_model.specs.declared.lines.MapLine.{MapLine}
use Rattle.map_model.specs.Market.{Market, capacity_of, choices_of, climb, demand_of}
use Rattle.map_model.specs.Allocation.{IsOffer, is_wanted}
use Rattle.map_model.specs.Progress.{IsClosedUnderRepair, IsReached, IsSpread, root_of, tree_of}
use Rattle.map_model.proofs.Decide.{is_not}
use Rattle.map_model.proofs.Rows.{crossed, line, lone_pool}

-- each group is at its second place, and wants its first
abbrev crossed_lines : List MapLine
crossed_lines = line 0 1 1 ∷ line 1 1 1 ∷ line 2 0 1 ∷ []

-- each group is at its first place, and wants nothing
abbrev settled_lines : List MapLine
settled_lines = line 0 0 1 ∷ line 1 0 1 ∷ line 2 0 1 ∷ []

-- with one unit more of capacity at the first root
abbrev widened : Market
widened = record (crossed 1) { nodes = lone_pool 2 ∷ lone_pool 1 ∷ lone_pool 5 ∷ [] }

-- what holds at each of the five offers holds at all
offers : (P : ℕ → ℕ → Type 0) → P 0 0 → P 0 1 → P 1 0 → P 1 1 → P 2 0 → (g k : ℕ) → IsOffer (crossed 1) g k → P g k
offers P a b c d e zero zero o = a
offers P a b c d e zero (suc zero) o = b
offers P a b c d e zero (suc (suc k)) o = absurd (omega (arith, o.place))
offers P a b c d e (suc zero) zero o = c
offers P a b c d e (suc zero) (suc zero) o = d
offers P a b c d e (suc zero) (suc (suc k)) o = absurd (omega (arith, o.place))
offers P a b c d e (suc (suc zero)) zero o = e
offers P a b c d e (suc (suc zero)) (suc k) o = absurd (omega (arith, o.place))
offers P a b c d e (suc (suc (suc g))) k o = absurd (omega (arith, o.group))

at : (g k : ℕ) → g < 3 → k < length (choices_of (crossed 1) g) → IsOffer (crossed 1) g k
at g k l p = record { group = l; place = p }

no : false ≡ true → ⊥
no e = false≢true e

-- of the nodes the first alone has another capacity
wider : (trees : ℕ → Bool) → trees 0 ≡ true → (n : ℕ) → n < 3 → capacity_of widened n ≢ capacity_of (crossed 1) n → trees (root_of (crossed 1) n) ≡ true
unfolding climb
wider trees first zero l differs = first
wider trees first (suc zero) l differs = absurd (differs refl)
wider trees first (suc (suc zero)) l differs = absurd (differs refl)
wider trees first (suc (suc (suc n))) l differs = absurd (omega (arith, l))

-- the tree whose capacity differs is reached
reached-first : IsReached (crossed 1) crossed_lines widened 0
unfolding climb
reached-first trees closed = closed.capacity 0 (omega arith) (is_not 2 1 refl)

-- so is one in which a group holds units that wants a place there
reached-second : IsReached (crossed 1) crossed_lines widened 1
unfolding climb
reached-second trees closed = closed.wanting 0 0 1 (omega arith) (reached-first trees closed) (0, at 0 0 (omega arith) (omega arith), refl, refl) (1, at 0 1 (omega arith) (omega arith), refl, omega arith)

-- and no other tree is
first_two : (g k : ℕ) → IsOffer (crossed 1) g k → (j : ℕ) → IsOffer (crossed 1) g j → is_wanted (crossed 1) crossed_lines g j ≡ true → nat_lt (tree_of (crossed 1) g k) 2 ≡ true
unfolding climb
first_two = offers (λ g k. (j : ℕ) → IsOffer (crossed 1) g j → is_wanted (crossed 1) crossed_lines g j ≡ true → nat_lt (tree_of (crossed 1) g k) 2 ≡ true) (λ j o w. refl) (λ j o w. refl) (λ j o w. refl) (λ j o w. refl) third
  where
    third : (j : ℕ) → IsOffer (crossed 1) 2 j → is_wanted (crossed 1) crossed_lines 2 j ≡ true → nat_lt (tree_of (crossed 1) 2 0) 2 ≡ true
    third zero o w = absurd (no w)
    third (suc j) o w = absurd (omega (arith, o.place))

third-not-reached : IsReached (crossed 1) crossed_lines widened 2 → ⊥
third-not-reached reached = no (reached (λ n. nat_lt n 2) (record {
  capacity = wider (λ n. nat_lt n 2) refl;
  lowered = λ g root l lower held. absurd (omega (arith, lower));
  wanting = λ g from to l inside wants holds. subst (λ t. nat_lt t 2 ≡ true) holds.2 (first_two g holds.0 holds.1 wants.0 wants.1 wants.3);
}))

-- where no place is wanted it ends with the tree whose capacity differs
none_wanted : (g k : ℕ) → IsOffer (crossed 1) g k → is_wanted (crossed 1) settled_lines g k ≡ true → ⊥
none_wanted = offers (λ g k. is_wanted (crossed 1) settled_lines g k ≡ true → ⊥) no no no no no

alone : IsClosedUnderRepair (crossed 1) settled_lines widened (λ n. n == 0)
alone = record {
  capacity = wider (λ n. n == 0) refl;
  lowered = λ g root l lower held. absurd (omega (arith, lower));
  wanting = λ g from to l inside wants holds. absurd (none_wanted g wants.0 wants.1 wants.3);
}

second-not-reached : IsReached (crossed 1) settled_lines widened 1 → ⊥
second-not-reached reached = no (reached (λ n. n == 0) alone)

-- a lowered demand reaches the trees in which the group holds units, a raised one none
lowered-reached : IsReached (crossed 2) (line 0 0 1 ∷ line 1 0 1 ∷ line 2 0 2 ∷ []) (crossed 1) 2
unfolding climb
lowered-reached trees closed = closed.lowered 2 2 (omega arith) (omega arith) (0, record { group = omega arith; place = omega arith }, refl, omega arith)

not_lower : (g : ℕ) → g < 3 → demand_of (crossed 2) g < demand_of (crossed 1) g → ⊥
not_lower zero l lower = absurd (omega (arith, lower))
not_lower (suc zero) l lower = absurd (omega (arith, lower))
not_lower (suc (suc zero)) l lower = absurd (omega (arith, lower))
not_lower (suc (suc (suc g))) l lower = absurd (omega (arith, l))

raised-reaches-nothing : (root : ℕ) → IsReached (crossed 1) crossed_lines (crossed 2) root → ⊥
raised-reaches-nothing root reached = no (reached (λ n. false) (record {
  capacity = λ n l differs. absurd (differs refl);
  lowered = λ g r l lower held. absurd (not_lower g l lower);
  wanting = λ g from to l inside wants holds. inside;
}))

-- but the changes can spread to the trees of its list, and to no other
raised-spread : IsSpread (crossed 1) crossed_lines (crossed 2) 2
unfolding climb
raised-spread trees closed = closed.raised 2 0 (at 2 0 (omega arith) (omega arith)) (omega arith)

first-not-spread : IsSpread (crossed 1) crossed_lines (crossed 2) 0 → ⊥
unfolding climb
first-not-spread spread = no (spread (λ n. n == 2) (record {
  reached = λ root reached. absurd (raised-reaches-nothing root reached);
  raised = offers (λ g k. demand_of (crossed 1) g < demand_of (crossed 2) g → (tree_of (crossed 1) g k == 2) ≡ true) (λ l. absurd (omega (arith, l))) (λ l. absurd (omega (arith, l))) (λ l. absurd (omega (arith, l))) (λ l. absurd (omega (arith, l))) (λ l. refl);
  lists = λ g k j o p. offers (λ g k. (j : ℕ) → IsOffer (crossed 1) g j → (tree_of (crossed 1) g k == 2) ≡ true → (tree_of (crossed 1) g j == 2) ≡ true) (λ j p h. absurd (no h)) (λ j p h. absurd (no h)) (λ j p h. absurd (no h)) (λ j p h. absurd (no h)) third g k o j p;
}))
  where
    third : (j : ℕ) → IsOffer (crossed 1) 2 j → (tree_of (crossed 1) 2 0 == 2) ≡ true → (tree_of (crossed 1) 2 j == 2) ≡ true
    third zero p h = refl
    third (suc j) p h = absurd (omega (arith, p.place))

-- a tree of a list with a reached tree is one to which they can spread, though it is not reached
linked-spread : IsSpread (crossed 1) settled_lines widened 1
unfolding climb
linked-spread trees closed = closed.lists 0 0 1 (at 0 0 (omega arith) (omega arith)) (at 0 1 (omega arith) (omega arith)) (closed.reached 0 first)
  where
    first : IsReached (crossed 1) settled_lines widened 0
    first trees closed = closed.capacity 0 (omega arith) (is_not 2 1 refl)

third-not-spread : IsSpread (crossed 1) settled_lines widened 2 → ⊥
unfolding climb
third-not-spread spread = no (spread (λ n. nat_lt n 2) (record {
  reached = λ root reached. subst (λ r. nat_lt r 2 ≡ true) (sym (eqb-true root 0 (reached (λ n. n == 0) alone))) refl;
  raised = λ g k o higher. absurd (omega (arith, higher));
  lists = λ g k j o p. offers (λ g k. (j : ℕ) → IsOffer (crossed 1) g j → nat_lt (tree_of (crossed 1) g k) 2 ≡ true → nat_lt (tree_of (crossed 1) g j) 2 ≡ true) (λ j p h. first j p) (λ j p h. first j p) (λ j p h. second j p) (λ j p h. second j p) (λ j p h. absurd (no h)) g k o j p;
}))
  where
    first : (j : ℕ) → IsOffer (crossed 1) 0 j → nat_lt (tree_of (crossed 1) 0 j) 2 ≡ true
    first zero p = refl
    first (suc zero) p = refl
    first (suc (suc j)) p = absurd (omega (arith, p.place))

    second : (j : ℕ) → IsOffer (crossed 1) 1 j → nat_lt (tree_of (crossed 1) 1 j) 2 ≡ true
    second zero p = refl
    second (suc zero) p = refl
    second (suc (suc j)) p = absurd (omega (arith, p.place))
