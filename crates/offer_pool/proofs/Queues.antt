-- What stands in queues as seats come and go.
use Rattle.std.proofs.Common.{◌≡◌, ◌≢◌, ℕ, zero, suc, ◌+◌, ◌<◌, ◌==◌, Bool, true, false, ◌||◌, List, [], ◌∷◌, length, take, drop, Contains, slice_index_or, slice_set, get_or-set_same, get_or-set_other, None, Some, slice_get, refl, sym, ap, ◌∙◌, subst, arith, ◌⊎◌, inl, inr}
use Rattle.std.specs.List.{list_any}
use Rattle.std.specs.List.Sorted.{IsPermutation}
use Rattle.std.proofs.lemmas.Bool.{cases_eq, eq-eqb, eqb-true, or_cases, or_parts, true≢false}
use Rattle.std.proofs.lemmas.List.{get_or_default, take_more, take-append-drop}
use Rattle.std.proofs.lemmas.List.Folds.{list_any-append}
use Rattle.std.proofs.lemmas.List.Sorted.{Contains-permutation, IsPermutation-sym}
use Rattle.std.proofs.lemmas.Option.{get_or_from_slice_get, slice_get_within}
use Rattle.std.proofs.Math.Bool.{or-false, or-true}
use Rattle.map_model.specs.declared.instance.NodeId.{NodeId}
use Rattle.offer_pool.specs.declared.queue.Seat.{Seat}
use Rattle.offer_pool.specs.Filed.{queue_at}

-- an element that is not the one that left is still there
pub Contains-without : {X : Type 0} (xs ys : List X) (w s : X) → IsPermutation xs (w ∷ ys) → Contains xs s → (s ≡ w → ⊥) → Contains ys s
Contains-without xs ys w s p h ne = past (Contains-permutation xs (w ∷ ys) s p h)
  where
    past : Contains (w ∷ ys) s → Contains ys s
    past (zero, l, e) = absurd (ne (sym e))
    past (suc k, l, e) = (k, omega arith, e)

Contains-cons : {X : Type 0} (xs : List X) (w s : X) → Contains xs s → Contains (w ∷ xs) s
Contains-cons xs w s (k, l, e) = (suc k, omega arith, e)

cons_cases : {X : Type 0} (xs : List X) (w s : X) → Contains (w ∷ xs) s → Contains xs s ⊎ (s ≡ w)
cons_cases xs w s (zero, l, e) = inr (sym e)
cons_cases xs w s (suc k, l, e) = inl (k, omega arith, e)

-- what is left was there
pub Contains-left : {X : Type 0} (xs ys : List X) (w s : X) → IsPermutation xs (w ∷ ys) → Contains ys s → Contains xs s
Contains-left xs ys w s p h = Contains-permutation (w ∷ ys) xs s (IsPermutation-sym xs (w ∷ ys) p) (Contains-cons ys w s h)

-- an element that came
pub Contains-came : {X : Type 0} (xs ys : List X) (w s : X) → IsPermutation (w ∷ xs) ys → Contains xs s → Contains ys s
Contains-came xs ys w s p h = Contains-permutation (w ∷ xs) ys s p (Contains-cons xs w s h)

pub came_itself : {X : Type 0} (xs ys : List X) (w : X) → IsPermutation (w ∷ xs) ys → Contains ys w
came_itself xs ys w p = Contains-permutation (w ∷ xs) ys w p (0, omega arith, refl)

pub came_cases : {X : Type 0} (xs ys : List X) (w s : X) → IsPermutation (w ∷ xs) ys → Contains ys s → Contains xs s ⊎ (s ≡ w)
came_cases xs ys w s p h = cons_cases xs w s (Contains-permutation ys (w ∷ xs) s (IsPermutation-sym (w ∷ xs) ys p) h)

-- the first one is there
pub Contains-first : {X : Type 0} (xs : List X) (x : X) → slice_get xs 0 ≡ Some x → Contains xs x
Contains-first xs x is = (0, slice_get_within xs 0 x is, get_or_from_slice_get xs 0 x x is)

-- where none is first, none is there
pub Contains-none : {X : Type 0} (xs : List X) (x : X) → slice_get xs 0 ≡ None → Contains xs x → ⊥
Contains-none [] x e (k, l, f) = omega arith
Contains-none (y ∷ xs) x e h = cc

-- what holds at one place and at all others holds everywhere
pub everywhere : (P : ℕ → Type 0) (at : ℕ) → P at → ((n : ℕ) → n ≢ at → P n) → (n : ℕ) → P n
everywhere P at here others n = elim (cases_eq n at) [
  | inl e ↦ subst P (sym e) here
  | inr ne ↦ others n ne
]

-- queues of which one was changed
pub queue-same : (queues : List (List Seat)) (at : ℕ) (q : List Seat) → at < length queues → slice_index_or queues at q ≡ queue_at queues at
queue-same queues at q within = get_or_default queues at q [] within

pub queue-set : (queues : List (List Seat)) (at : ℕ) (q : List Seat) → at < length queues → queue_at (slice_set queues at q) at ≡ q
queue-set queues at q within = get_or-set_same queues at q [] within

pub queue-set_other : (queues : List (List Seat)) (at n : ℕ) (q : List Seat) → n ≢ at → queue_at (slice_set queues at q) n ≡ queue_at queues n
queue-set_other queues at n q other = get_or-set_other queues at n q [] other

-- nodes one further
abbrev pub is_among : ℕ → List NodeId → Bool
is_among n nodes = list_any (λ x. x.0 == n) nodes

among_more : (nodes : List NodeId) (i n : ℕ) (d : NodeId) → i < length nodes → is_among n (take (i + 1) nodes) ≡ (is_among n (take i nodes) || ((slice_index_or nodes i d).0 == n))
among_more nodes i n d within = ap (is_among n) (take_more nodes i d within) ∙ list_any-append (λ x. x.0 == n) (take i nodes) (slice_index_or nodes i d ∷ []) ∙ ap (λ b. is_among n (take i nodes) || b) (or-false ((slice_index_or nodes i d).0 == n))

pub among_cases : (nodes : List NodeId) (i n : ℕ) (d : NodeId) → i < length nodes → is_among n (take (i + 1) nodes) ≡ true → (is_among n (take i nodes) ≡ true) ⊎ (n ≡ (slice_index_or nodes i d).0)
among_cases nodes i n d within h = elim (or_cases (is_among n (take i nodes)) ((slice_index_or nodes i d).0 == n) (sym (among_more nodes i n d within) ∙ h)) [
  | inl before ↦ inl before
  | inr now ↦ inr (sym (eqb-true (slice_index_or nodes i d).0 n now))
]

pub not_among : (nodes : List NodeId) (i n : ℕ) (d : NodeId) → i < length nodes → is_among n (take (i + 1) nodes) ≡ false → (is_among n (take i nodes) ≡ false) × (n ≢ (slice_index_or nodes i d).0)
not_among nodes i n d within h =
    let (before, now) = or_parts (is_among n (take i nodes)) ((slice_index_or nodes i d).0 == n) (sym (among_more nodes i n d within) ∙ h) in (before, λ e. true≢false (sym (eq-eqb (slice_index_or nodes i d).0 n (sym e)) ∙ now))

-- a node of the list is among its nodes
pub among_itself : (nodes : List NodeId) (i : ℕ) (d : NodeId) → i < length nodes → is_among (slice_index_or nodes i d).0 nodes ≡ true
among_itself [] i d within = absurd (omega arith)
among_itself (x ∷ xs) zero d within = ap (λ b. b || is_among x.0 xs) (eq-eqb x.0 x.0 refl)
among_itself (x ∷ xs) (suc i) d within = ap (λ b. (x.0 == (slice_index_or xs i d).0) || b) (among_itself xs i d (omega arith)) ∙ or-true (x.0 == (slice_index_or xs i d).0)

pub not_among_all : (nodes : List NodeId) (i n : ℕ) (d : NodeId) → i < length nodes → is_among n nodes ≡ false → (is_among n (take i nodes) ≡ false) × (n ≢ (slice_index_or nodes i d).0)
not_among_all nodes i n d within h =
    not_among nodes i n d within (or_parts (is_among n (take (i + 1) nodes)) (is_among n (drop (i + 1) nodes)) (sym (list_any-append (λ x. x.0 == n) (take (i + 1) nodes) (drop (i + 1) nodes)) ∙ ap (is_among n) (take-append-drop (i + 1) nodes) ∙ h)).0

-- the first of a list of nodes, all of them
pub live_step : (P : List Seat → Type 0) (nodes : List NodeId) (i n : ℕ) (d : NodeId) (old new : List (List Seat)) → i < length nodes → (is_among n (take i nodes) ≡ true → P (queue_at old n)) → P (queue_at new (slice_index_or nodes i d).0)
    → ((k : ℕ) → k ≢ (slice_index_or nodes i d).0 → queue_at new k ≡ queue_at old k) → is_among n (take (i + 1) nodes) ≡ true → P (queue_at new n)
live_step P nodes i n d old new within before now others h = elim (cases_eq n (slice_index_or nodes i d).0) [
  | inl e ↦ subst (λ (k : ℕ). P (queue_at new k)) (sym e) now
  | inr ne ↦ subst P (sym (others n ne)) (before (past (among_cases nodes i n d within h) ne))
]
  where
    past : (is_among n (take i nodes) ≡ true) ⊎ (n ≡ (slice_index_or nodes i d).0) → n ≢ (slice_index_or nodes i d).0 → is_among n (take i nodes) ≡ true
    past (inl e) ne = e
    past (inr e) ne = absurd (ne e)

pub came_from : (A B C : Type 0) → B ⊎ C → (B → A ⊎ C) → A ⊎ C
came_from A B C (inl b) f = f b
came_from A B C (inr c) f = inr c
