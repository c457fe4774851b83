-- The trees to which changes can spread, as a set that can be told.
use Rattle.std.proofs.Common.{◌≡◌, ℕ, zero, suc, ◌+◌, ◌<◌, ◌≤◌, Bool, true, false, ◌*◌, if◌then◌else◌, List, length, slice_set, refl, sym, ap, ◌∙◌, subst, inl, inr, ◌⊎◌, arith}
use Rattle.std.proofs.Math.ListN.{length-set}
use Rattle.std.proofs.lemmas.Bool.{cases_Bool, cases_eq, cases_lt, false≢true}
use Rattle.std.proofs.lemmas.List.Sums.{sum_by-set}
use Rattle.map_model.specs.declared.lines.MapLine.{MapLine}
use Rattle.map_model.specs.Market.{Market, IsMarket, IsSameShape, choices_of, demand_of, pool_of}
use Rattle.map_model.specs.Allocation.{IsOffer}
use Rattle.map_model.specs.Progress.{IsClosedUnderSpread, IsReached, IsSpread, tree_of}
use Rattle.map_model.proofs.Paths.{pool_there}
use Rattle.map_model.proofs.Roots.{root-there}
use Rattle.map_repair.specs.Marks.{AreReached, is_on, unmarked}
use Rattle.evict.specs.Standing.{Standing}
use Rattle.deferred_accept.specs.Runs.{HasRun}
use Rattle.deferred_accept.specs.Spreading.{HoldsWork, StaysInside}
use Rattle.best_laws.proofs.Sums.{sum-le}
use Rattle.map_repair.specs.Repaired.{IsLocal, IsWithinSpread, most_inside}
use Rattle.map_repair.proofs.Middle.{IsLocalOutside, IsMiddle, IsReopened, bounded, holds_work, local}
use Rattle.map_repair.proofs.Marking.{on_from_set, on_set}

-- whether something is so of a number below a bound, where that can be told of each
any_below : (P : ℕ → Type 0) → ((x : ℕ) → P x ⊎ (P x → ⊥)) → (n : ℕ) → ((x : ℕ) × (x < n) × P x) ⊎ ((x : ℕ) → x < n → P x → ⊥)
any_below P told zero = inr (λ x l p. absurd (omega arith))
any_below P told (suc n) = elim (told n) [
  | inl p ↦ inl (n, omega arith, p)
  | inr none ↦ elim (any_below P told n) [
    | inl w ↦ inl (w.0, omega (arith, w.1), w.2)
    | inr no_lower ↦ inr (λ x l p. elim (cases_eq x n) [ inl e ↦ none (subst P e p) | inr ne ↦ no_lower x (omega (arith, l, ne)) p ])
  ]
]

told_both : (A B : Type 0) → A ⊎ (A → ⊥) → B ⊎ (B → ⊥) → (A × B) ⊎ (A × B → ⊥)
told_both A B (inl a) (inl b) = inl (a, b)
told_both A B (inl a) (inr no_b) = inr (λ p. no_b p.1)
told_both A B (inr no_a) b = inr (λ p. no_a p.0)

told_bool : (b c : Bool) → (b ≡ c) ⊎ (b ≡ c → ⊥)
told_bool true true = inl refl
told_bool true false = inr (λ e. false≢true (sym e))
told_bool false true = inr (λ e. false≢true e)
told_bool false false = inl refl

told_less : (a b : ℕ) → (a < b) ⊎ (a < b → ⊥)
told_less a b = elim (cases_lt a b) [ inl l ↦ inl l | inr le ↦ inr (λ l. absurd (omega (arith, l, le))) ]

module _ (old : Market) (lines : List MapLine) (new : Market) (market : IsMarket old) where
  -- a set of trees with a tree of a list of a group that has to be in it and is not: the group's demand is raised, or it has another tree in the set
  abbrev Lacks : List Bool → ℕ → ℕ → Type 0
  Lacks marks g j = ((demand_of old g < demand_of new g) × (is_on marks (tree_of old g j) ≡ false)) ⊎ ((k : ℕ) × (k < length (choices_of old g)) × ((is_on marks (tree_of old g k) ≡ true) × (is_on marks (tree_of old g j) ≡ false)))

  told_lacks : (marks : List Bool) (g j : ℕ) → Lacks marks g j ⊎ (Lacks marks g j → ⊥)
  told_lacks marks g j = elim (told_both _ _ (told_less (demand_of old g) (demand_of new g)) (told_bool (is_on marks (tree_of old g j)) false)) [
    | inl raised ↦ inl (inl raised)
    | inr not_raised ↦ elim (any_below (λ k. (is_on marks (tree_of old g k) ≡ true) × (is_on marks (tree_of old g j) ≡ false)) (λ k. told_both _ _ (told_bool (is_on marks (tree_of old g k)) true) (told_bool (is_on marks (tree_of old g j)) false)) (length (choices_of old g))) [
      | inl w ↦ inl (inr w)
      | inr none ↦ inr (λ l. elim l [ inl r ↦ not_raised r | inr w ↦ none w.0 w.1 w.2 ])
    ]
  ]

  -- a set of trees that holds the reached ones, and spread ones alone
  record IsSoFar (marks : List Bool) : Type 0 where
    size : length marks ≡ length old.nodes
    reached : (root : ℕ) → IsReached old lines new root → is_on marks root ≡ true
    sound : (n : ℕ) → is_on marks n ≡ true → IsSpread old lines new n

  -- such a set is closed, or has room for one more
  step : (marks : List Bool) → IsSoFar marks → IsClosedUnderSpread old lines new (λ x. is_on marks x) ⊎ ((made : List Bool) × (unmarked made + 1 ≤ unmarked marks) × IsSoFar made)
  step marks so_far = elim (any_below (λ g. (j : ℕ) × (j < length (choices_of old g)) × Lacks marks g j) (λ g. any_told g) (length old.groups)) [
    | inr none ↦ inl (closed none)
    | inl w ↦
        let g : ℕ = w.0 in
        let j : ℕ = w.2.0 in
        let o : IsOffer old g j = record { group = w.1; place = w.2.1 } in
        let r : ℕ = tree_of old g j in
        let there : r < length marks = omega (arith, so_far.size, root-there old market (pool_of old g j) (pool_there old market g j o)) in
        let off : is_on marks r ≡ false = elim w.2.2 [ inl raised ↦ raised.1 | inr other ↦ other.2.1 ] in
        let one : IsSpread old lines new r = elim w.2.2 [
          | inl raised ↦ λ trees closed. closed.raised g j o raised.0
          | inr other ↦ λ trees closed. closed.lists g other.0 j (record { group = w.1; place = other.1 }) o (so_far.sound (tree_of old g other.0) other.2.0 trees closed)
        ] in
        let more : IsSoFar (slice_set marks r true) = record {
          size = length-set marks r true ∙ so_far.size;
          reached = λ root is. on_set marks r root there (so_far.reached root is);
          sound = λ x on. elim (on_from_set marks r x on) [ inl e ↦ subst (IsSpread old lines new) (sym e) one | inr was ↦ so_far.sound x was ];
        } in
        inr (slice_set marks r true, fewer marks r there off, more)
  ]
    where
      any_told : (g : ℕ) → ((j : ℕ) × (j < length (choices_of old g)) × Lacks marks g j) ⊎ ((j : ℕ) × (j < length (choices_of old g)) × Lacks marks g j → ⊥)
      any_told g = elim (any_below (λ j. Lacks marks g j) (told_lacks marks g) (length (choices_of old g))) [ inl w ↦ inl w | inr none ↦ inr (λ w. none w.0 w.1 w.2) ]

      closed : ((g : ℕ) → g < length old.groups → (j : ℕ) × (j < length (choices_of old g)) × Lacks marks g j → ⊥) → IsClosedUnderSpread old lines new (λ x. is_on marks x)
      closed none = record {
        reached = so_far.reached;
        raised = λ g k o raised. elim (cases_Bool (is_on marks (tree_of old g k))) [ inl y ↦ y | inr off ↦ absurd (none g o.group (k, o.place, inl (raised, off))) ];
        lists = λ g k j ok oj on. elim (cases_Bool (is_on marks (tree_of old g j))) [ inl y ↦ y | inr off ↦ absurd (none g ok.group (j, oj.place, inr (k, ok.place, (on, off)))) ];
      }

      fewer : (ms : List Bool) (r : ℕ) → r < length ms → is_on ms r ≡ false → unmarked (slice_set ms r true) + 1 ≤ unmarked ms
      fewer ms r there off =
          let one_unless : Bool → ℕ = λ b. if b then 0 else 1 in
          let was : one_unless (is_on ms r) ≡ one_unless false = ap one_unless off in
          let is : one_unless false ≡ suc zero = refl in
          let none : one_unless true ≡ zero = refl in
          omega (arith, sum_by-set one_unless ms r true false there, was, is, none)

  grow : (n : ℕ) (marks : List Bool) → unmarked marks ≤ n → IsSoFar marks → (made : List Bool) × IsClosedUnderSpread old lines new (λ x. is_on made x) × ((x : ℕ) → is_on made x ≡ true → IsSpread old lines new x)
  grow zero marks few so_far = elim (step marks so_far) [
    | inl done ↦ (marks, done, so_far.sound)
    | inr w ↦ absurd (omega (arith, few, w.1))
  ]
  grow (suc n) marks few so_far = elim (step marks so_far) [
    | inl done ↦ (marks, done, so_far.sound)
    | inr w ↦ grow n w.0 (omega (arith, few, w.1)) w.2
  ]

  -- The spread trees are a set that can be told.
  pub spread_set : (marks : List Bool) → AreReached old lines new marks → (made : List Bool) × IsClosedUnderSpread old lines new (λ x. is_on made x) × ((x : ℕ) → is_on made x ≡ true → IsSpread old lines new x)
  spread_set marks are = grow (unmarked marks) marks (omega arith) (record {
    size = are.size;
    reached = λ root is. is (λ n. is_on marks n) are.closed;
    sound = λ n on. λ trees closed. closed.reached n (are.least n on);
  })

-- what holds of each set of trees that is closed under spread holds of the spread trees
local_spread : (old : Market) (lines : List MapLine) (new : Market) (repaired : List MapLine) → IsMarket old → (marks : List Bool) → AreReached old lines new marks
    → ((trees : ℕ → Bool) → IsClosedUnderSpread old lines new trees → IsLocalOutside old lines new repaired trees) → IsLocal old lines new repaired
local_spread old lines new repaired market marks are each =
    let w = spread_set old lines new market marks are in
    let outside = each (λ x. is_on w.0 x) w.1 in
    let off : (root : ℕ) → (IsSpread old lines new root → ⊥) → is_on w.0 root ≡ false = λ root apart. elim (cases_Bool (is_on w.0 root)) [ inr n ↦ n | inl y ↦ absurd (apart (w.2 root y)) ] in
    record { amounts = λ g k o apart. outside.amounts g k o (off (tree_of old g k) apart); names = λ g k o apart. outside.names g k o (off (tree_of old g k) apart) }

within_spread : (old : Market) (lines : List MapLine) (new : Market) (before after : ℕ) → IsMarket old → IsSameShape old new → (marks : List Bool) → AreReached old lines new marks
    → ((trees : ℕ → Bool) → IsClosedUnderSpread old lines new trees → after ≤ before + most_inside new trees) → IsWithinSpread old lines new before after
within_spread old lines new before after market shape marks are each = λ trees all.
    let w = spread_set old lines new market marks are in
    let less = sum-le (λ g. if is_on w.0 (tree_of new g 0) then length (choices_of new g) * (demand_of new g + 1) else 0) (λ g. if trees (tree_of new g 0) then length (choices_of new g) * (demand_of new g + 1) else 0) (length new.groups) 0
    (λ g low high. one (is_on w.0 (tree_of new g 0)) (trees (tree_of new g 0)) (length (choices_of new g) * (demand_of new g + 1)) (λ y. all (tree_of new g 0) (w.2 (tree_of new g 0) y))) in
    omega (arith, each (λ x. is_on w.0 x) w.1, less)
  where
    one : (b c : Bool) (n : ℕ) → (b ≡ true → c ≡ true) → (if b then n else 0) ≤ (if c then n else 0)
    one true true n h = omega arith
    one true false n h = absurd (false≢true (h refl))
    one false c n h = omega arith

-- A run from what was opened in marked trees alone changes nothing outside the spread trees, and its proposals are within those of the groups there.
module _ (old new : Market) (s mid : Standing) (marks : List Bool) (k : IsMiddle old new s mid marks) (opened : Standing) (ro : IsReopened new marks mid opened) (final : Standing) (before after : ℕ) where
  abbrev Stays : Type 0
  Stays = (trees : ℕ → Bool) → HoldsWork new trees opened → StaysInside new trees opened final before after

  stays : Stays → (trees : ℕ → Bool) → IsClosedUnderSpread old s.lines new trees → StaysInside new trees opened final before after
  stays inside trees spread = inside trees (holds_work old new s mid marks k opened ro trees spread)

  pub stays_local : HasRun new opened final → Stays → IsLocal old s.lines new final.lines
  stays_local run inside = local_spread old s.lines new final.lines k.of.ready.market marks k.reached (λ trees spread. local old new s mid marks k opened ro trees spread final before after run.ready (stays inside trees spread))

  pub stays_within : Stays → IsWithinSpread old s.lines new before after
  stays_within inside = within_spread old s.lines new before after k.of.ready.market k.shape marks k.reached (λ trees spread. bounded old new s mid marks k opened ro trees spread final before after (stays inside trees spread))
