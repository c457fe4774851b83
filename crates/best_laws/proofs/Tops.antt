-- The topmost node of a path that passes a test.
use Rattle.std.proofs.Common.{◌≡◌, ℕ, zero, suc, ◌+◌, ◌<◌, ◌≤◌, ◌==◌, Bool, true, false, if◌then◌else◌, List, [], ◌∷◌, ◌++◌, length, Option, None, Some, refl, sym, ap, ◌∙◌, subst, inl, inr, arith}
use Rattle.std.specs.Option.{is_some}
use Rattle.std.specs.List.{list_any}
use Rattle.std.proofs.Math.Bool.{or-true}
use Rattle.std.proofs.lemmas.Bool.{eq-eqb, eqb-true, or_cases, false≢true}
use Rattle.map_model.specs.declared.instance.NodeId.{NodeId}
use Rattle.map_model.specs.Market.{Market, IsMarket, climb, path, parent_of}
use Rattle.map_model.specs.Allocation.{is_under}
use Rattle.best_laws.specs.Tops.{later, top_of}
use Rattle.map_model.proofs.Trees.{climb_settled, under_itself, under_there}

some_is : (a b : ℕ) → Some a ≡ Some b → a ≡ b
some_is a b e = cc

-- the top is on the list, and passes
pub top_passes : (closed : ℕ → Bool) (ns : List ℕ) (t : ℕ) → top_of closed ns ≡ Some t → (list_any (λ x. x == t) ns ≡ true) × (closed t ≡ true)
top_passes closed [] t e = absurd (no e)
  where
    no : None ≡ Some t → ⊥
    no h = cc
top_passes closed (n ∷ ns) t e = go (top_of closed ns) refl e (λ h. top_passes closed ns t h)
  where
    own : (b : Bool) → closed n ≡ b → (if b then Some n else None) ≡ Some t → (list_any (λ x. x == t) (n ∷ ns) ≡ true) × (closed t ≡ true)
    own true is h = let same : n ≡ t = some_is n t h in (rw (eq-eqb n t same) refl, subst (λ x. closed x ≡ true) same is)
    own false is h = absurd (none h)
      where
        none : None ≡ Some t → ⊥
        none i = cc

    go : (o : Option ℕ) → top_of closed ns ≡ o → later o (if closed n then Some n else None) ≡ Some t → (top_of closed ns ≡ Some t → (list_any (λ x. x == t) ns ≡ true) × (closed t ≡ true)) → (list_any (λ x. x == t) (n ∷ ns) ≡ true) × (closed t ≡ true)
    go None is h again = own (closed n) refl h
    go (Some u) is h again = let r = again (is ∙ h) in (rw r.0 (or-true (n == t)), r.1)

-- some node passes
pub top_some : (closed : ℕ → Bool) (ns : List ℕ) (n : ℕ) → list_any (λ x. x == n) ns ≡ true → closed n ≡ true → is_some (top_of closed ns) ≡ true
top_some closed [] n h p = absurd (false≢true h)
top_some closed (x ∷ xs) n h p = elim (or_cases (x == n) (list_any (λ y. y == n) xs) h) [
  | inl e ↦ first (top_of closed xs) (closed x) (subst (λ y. closed y ≡ true) (sym (eqb-true x n e)) p)
  | inr t ↦ rest (top_of closed xs) (if closed x then Some x else None) (top_some closed xs n t p)
]
  where
    first : (o : Option ℕ) (b : Bool) → b ≡ true → is_some (later o (if b then Some x else None)) ≡ true
    first None true e = refl
    first None false e = e
    first (Some t) b e = refl

    rest : (o q : Option ℕ) → is_some o ≡ true → is_some (later o q) ≡ true
    rest None q e = absurd (false≢true e)
    rest (Some t) q e = refl

-- what stands before a part with a top leaves the top
pub top-append : (closed : ℕ → Bool) (pre ns : List ℕ) (t : ℕ) → top_of closed ns ≡ Some t → top_of closed (pre ++ ns) ≡ Some t
top-append closed [] ns t e = e
top-append closed (x ∷ pre) ns t e = ap (λ o. later o (if closed x then Some x else None)) (top-append closed pre ns t e)

-- a path goes on as the path of each node on it
pub climb_suffix : (m : Market) (steps total : ℕ) (at : Option NodeId) (n : ℕ) → list_any (λ x. x == n) (climb steps m at) ≡ true → steps + 8 ≤ total → (pre : List ℕ) × (s : ℕ) × (8 ≤ s) × (climb total m at ≡ pre ++ climb s m (Some (record { 0 = n })))
unfolding climb
climb_suffix m zero total at n h l = absurd (false≢true h)
climb_suffix m (suc steps) total None n h l = absurd (false≢true h)
climb_suffix m (suc steps) zero (Some p) n h l = absurd (omega arith)
climb_suffix m (suc steps) (suc total) (Some p) n h l = elim (or_cases (p.0 == n) (list_any (λ x. x == n) (climb steps m (parent_of m p.0))) h) [
  | inl e ↦ ([], suc total, omega arith, ap (λ x. climb (suc total) m (Some (record { 0 = x }))) (eqb-true p.0 n e))
  | inr t ↦ let r = climb_suffix m steps total (parent_of m p.0) n t (omega arith) in (p.0 ∷ r.0, r.1, r.2, ap (λ ns. p.0 ∷ ns) r.3)
]

pub path_suffix : (m : Market) → IsMarket m → (n pool : ℕ) → pool < length m.nodes → is_under m n pool ≡ true → (pre : List ℕ) × (path m pool ≡ pre ++ path m n)
path_suffix m market n pool there h =
    let r = climb_suffix m 8 16 (Some (record { 0 = pool })) n h (omega arith) in
    let in_n = under_there m market n pool there h in (
      r.0,
      sym (climb_settled m 8 16 (Some (record { 0 = pool })) (omega arith) (market.shallow pool there)) ∙ r.3
          ∙ ap (λ ns. r.0 ++ ns) (climb_settled m 8 r.1 (Some (record { 0 = n })) r.2 (market.shallow n in_n)),
    )

-- the top over a pool is the top over itself, and of each pool under it
pub top_itself : (m : Market) → IsMarket m → (closed : ℕ → Bool) (n pool : ℕ) → pool < length m.nodes → top_of closed (path m pool) ≡ Some n → top_of closed (path m n) ≡ Some n
top_itself m market closed n pool there e =
    let p = top_passes closed (path m pool) n e in
    let suffix = path_suffix m market n pool there p.0 in
    go (top_of closed (path m n)) refl (top_some closed (path m n) n (under_itself m n) p.1) suffix.0 suffix.1
  where
    go : (o : Option ℕ) → top_of closed (path m n) ≡ o → is_some (top_of closed (path m n)) ≡ true → (pre : List ℕ) → path m pool ≡ pre ++ path m n → o ≡ Some n
    go None is s pre same = absurd (false≢true (ap is_some (sym is) ∙ s))
    go (Some t) is s pre same = sym (top-append closed pre (path m n) t is) ∙ ap (top_of closed) (sym same) ∙ e

pub top_below : (m : Market) → IsMarket m → (closed : ℕ → Bool) (n pool : ℕ) → pool < length m.nodes → is_under m n pool ≡ true → top_of closed (path m n) ≡ Some n → top_of closed (path m pool) ≡ Some n
top_below m market closed n pool there h e =
    let suffix = path_suffix m market n pool there h in
    ap (top_of closed) suffix.1 ∙ top-append closed suffix.0 (path m n) n e
