-- Marks that come, and what they say of trees.
use Rattle.std.proofs.Common.{◌≡◌, ℕ, zero, suc, ◌+◌, ◌<◌, ◌≤◌, Bool, true, false, if◌then◌else◌, List, [], ◌∷◌, ◌++◌, length, Contains, replicate, All, get_or, slice_set, get_or-set_same, get_or-set_other, refl, sym, ap, ◌∙◌, subst, inl, inr, ◌⊎◌, arith}
use Rattle.std.proofs.Math.ListN.{length-set}
use Rattle.std.proofs.lemmas.Bool.{cases_eq, false≢true}
use Rattle.std.proofs.lemmas.List.{length_push, set-get_or}
use Rattle.std.proofs.lemmas.List.Elements.{All-push, Contains-append_left, Contains-push, Contains-push_cases}
use Rattle.std.proofs.lemmas.List.Sums.{sum_by-set}
use Rattle.map_model.specs.declared.instance.NodeId.{NodeId}
use Rattle.map_model.specs.declared.lines.MapLine.{MapLine}
use Rattle.map_model.specs.Market.{Market, IsMarket, pool_of}
use Rattle.map_model.specs.Progress.{root_of, tree_of}
use Rattle.map_model.proofs.Paths.{pool_there}
use Rattle.evict.specs.Standing.{IsReady, Standing}
use Rattle.reopen.specs.Cutting.{CanCut}
use Rattle.map_repair.specs.Marks.{AreDone, AreMarkedTo, HoldsInMarked, IsClosedForAll, IsMarking, IsPending, IsSettled, Marking, is_on, left_of, unmarked}

-- no mark came
pub marking_none : (a : Marking) → IsMarking a a
marking_none a = record { count = refl; kept = λ n on. on; came = λ n on. inl on; waits = λ n p. p; fewer = omega arith }

-- marks came, and then some more
pub marking_trans : (a b c : Marking) → IsMarking a b → IsMarking b c → IsMarking a c
marking_trans a b c first then_ = record {
  count = then_.count ∙ first.count;
  kept = λ n on. then_.kept n (first.kept n on);
  came = λ n on. elim (then_.came n on) [
    | inl was ↦ elim (first.came n was) [ inl before ↦ inl before | inr waits ↦ inr (then_.waits n waits) ]
    | inr waits ↦ inr waits
  ];
  waits = λ n waits. then_.waits n (first.waits n waits);
  fewer = omega (arith, first.fewer, then_.fewer);
}

-- a node that is marked is marked, and all others are as before
pub on_set : (marks : List Bool) (r n : ℕ) → r < length marks → is_on marks n ≡ true → is_on (slice_set marks r true) n ≡ true
on_set marks r n there on = elim (cases_eq n r) [
  | inl e ↦ ap (is_on (slice_set marks r true)) e ∙ get_or-set_same marks r true false there
  | inr ne ↦ get_or-set_other marks r n true false ne ∙ on
]

pub on_from_set : (marks : List Bool) (r n : ℕ) → is_on (slice_set marks r true) n ≡ true → (n ≡ r) ⊎ (is_on marks n ≡ true)
on_from_set marks r n on = elim (cases_eq n r) [
  | inl e ↦ inl e
  | inr ne ↦ inr (sym (get_or-set_other marks r n true false ne) ∙ on)
]

abbrev one_unless : Bool → ℕ
one_unless b = if b then 0 else 1

-- a root is marked, and is then to be looked at
pub marking_one : (a : Marking) (r : NodeId) → r.0 < length a.on → is_on a.on r.0 ≡ false → IsMarking a (record { on = slice_set a.on r.0 true; pending = a.pending ++ r ∷ [] })
marking_one a r there off = record {
  count = length-set a.on r.0 true;
  kept = λ n on. on_set a.on r.0 n there on;
  came = λ n on. elim (on_from_set a.on r.0 n on) [
    | inl e ↦ inr (subst (λ x. Contains (a.pending ++ r ∷ []) (record { 0 = x })) (sym e) (Contains-push a.pending r))
    | inr was ↦ inl was
  ];
  waits = λ n waits. Contains-append_left a.pending (r ∷ []) (record { 0 = n }) waits;
  fewer = fewer;
}
  where
    fewer : left_of (record { on = slice_set a.on r.0 true; pending = a.pending ++ r ∷ [] }) ≤ left_of a
    fewer =
        let set : unmarked (slice_set a.on r.0 true) + one_unless (is_on a.on r.0) ≡ unmarked a.on + one_unless true = omega (arith, sum_by-set one_unless a.on r.0 true false there) in
        let was : one_unless (is_on a.on r.0) ≡ 1 = ap one_unless off in
        let none : one_unless true ≡ 0 = refl in
        omega (arith, set, was, none, length_push a.pending r)

-- what is done stays done as marks come
pub done_on : (m : Market) (lines : List MapLine) (a b : Marking) (done : List Bool) → IsMarking a b → AreDone m lines a.on done → AreDone m lines b.on done
done_on m lines a b done marking are g d k o some = marking.kept (tree_of m g k) (are g d k o some)

-- one group more is done
pub done_more : (m : Market) (lines : List MapLine) (on done : List Bool) (g : ℕ) → AreDone m lines on done → HoldsInMarked m lines on g → AreDone m lines on (slice_set done g true)
done_more m lines on done g are holds h d = elim (on_from_set done g h d) [
  | inl e ↦ subst (λ x. HoldsInMarked m lines on x) (sym e) holds
  | inr was ↦ are h was
]

-- a tree that was looked at stays settled as marks come
pub settled_on : (m : Market) (s : Standing) (a b : Marking) (n : ℕ) → IsMarking a b → IsSettled m s a.on n → IsSettled m s b.on n
settled_on m s a b n marking settled g k o at before j oj some = marking.kept (tree_of m g j) (settled g k o at before j oj some)

-- marks of which none is to be looked at are closed
pub closed_all : (m : Market) (s : Standing) (a : Marking) → a.pending ≡ [] → ((n : ℕ) → is_on a.on n ≡ true → IsPending a n ⊎ IsSettled m s a.on n) → IsClosedForAll m s (λ n. is_on a.on n)
closed_all m s a none all g l k j ok before on oj some = elim (all (tree_of m g k) on) [
  | inl waits ↦ absurd (nothing (subst (λ (ps : List NodeId). Contains ps (record { 0 = tree_of m g k })) none waits))
  | inr settled ↦ settled g k ok refl before j oj some
]
  where
    nothing : {x : NodeId} → Contains [] x → ⊥
    nothing (i, l, e) = absurd (omega (arith, l))

-- so are marks at each tree
pub closed_whole : (m : Market) (s : Standing) (on : List Bool) → IsMarket m → AreMarkedTo m on (length m.nodes) → IsClosedForAll m s (λ n. is_on on n)
closed_whole m s on market all g l k j ok before there oj some = all (pool_of m g j) (pool_there m market g j oj)

-- and then each tree is settled
pub settled_whole : (m : Market) (s : Standing) (on : List Bool) (root : ℕ) → IsMarket m → AreMarkedTo m on (length m.nodes) → IsSettled m s on root
settled_whole m s on root market all g k o at before j oj some = all (pool_of m g j) (pool_there m market g j oj)

-- marks at the trees of the nodes before one stay as marks come
pub marked_on : (m : Market) (a b : Marking) (end : ℕ) → IsMarking a b → AreMarkedTo m a.on end → AreMarkedTo m b.on end
marked_on m a b end marking all n l = marking.kept (root_of m n) (all n l)

-- the next one to be looked at is taken out
pub pending_rest : (ps rest : List NodeId) (r : NodeId) (n : ℕ) → ps ≡ rest ++ r ∷ [] → Contains ps (record { 0 = n }) → Contains rest (record { 0 = n }) ⊎ (n ≡ r.0)
pending_rest ps rest r n is waits = elim (Contains-push_cases rest r (record { 0 = n }) (subst (λ (xs : List NodeId). Contains xs (record { 0 = n })) is waits)) [
  | inl there ↦ inl there
  | inr e ↦ inr (ap (λ (x : NodeId). x.0) (sym e))
]

pub none_on : (n k : ℕ) → is_on (replicate n false) k ≡ true → ⊥
none_on zero k h = false≢true h
none_on (suc n) zero h = false≢true h
none_on (suc n) (suc k) h = none_on n k h
