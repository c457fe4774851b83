-- Going up from a node, at most nine steps.
use Rattle.std.proofs.Common.{◌≡◌, ℕ, ◌+◌, ◌-◌, ◌<◌, ◌≤◌, suc, false, List, length, Option, None, Some, is_some, nat_lt, refl, ap, sym, ◌∙◌, arith}
use Rattle.std.proofs.lemmas.Bool.Decides.{nat_tests}
use Rattle.toml.specs.Data.{Data}
use Rattle.topology_text.specs.Names.{ascend, is_deep, parent_of}

up_more : (nodes : List Data) (k : ℕ) (n : ℕ) → length (ascend (suc k) nodes (Some n)) ≡ suc (length (ascend k nodes (parent_of nodes n)))
unfolding ascend
up_more nodes k n = refl

up_none : (nodes : List Data) (k : ℕ) → length (ascend (suc k) nodes None) ≡ 0
unfolding ascend
up_none nodes k = refl

up_last : (nodes : List Data) (at : Option ℕ) → nat_lt 8 (8 + length (ascend 1 nodes at)) ≡ is_some at
unfolding ascend
up_last nodes None = refl
up_last nodes (Some n) = refl

pub deep_step : (nodes : List Data) (i step n : ℕ) (at : Option ℕ) → step < 8 → at ≡ Some n
    → length (ascend 9 nodes (Some i)) ≡ step + length (ascend (9 - step) nodes at)
    → length (ascend 9 nodes (Some i)) ≡ (step + 1) + length (ascend (9 - (step + 1)) nodes (parent_of nodes n))
deep_step nodes i step n at below is before =
    let e : 9 - step ≡ suc (9 - (step + 1)) = omega arith in
    let more : length (ascend (9 - step) nodes at) ≡ suc (length (ascend (9 - (step + 1)) nodes (parent_of nodes n))) = rw (is, e) (up_more nodes (9 - (step + 1)) n) in
    omega arith

pub deep_top : (nodes : List Data) (i step : ℕ) (at : Option ℕ) → step < 8 → at ≡ None
    → length (ascend 9 nodes (Some i)) ≡ step + length (ascend (9 - step) nodes at) → false ≡ is_deep nodes i
deep_top nodes i step at below is before =
    let e : 9 - step ≡ suc (9 - (step + 1)) = omega arith in
    let none : length (ascend (9 - step) nodes at) ≡ 0 = rw (is, e) (up_none nodes (9 - (step + 1))) in
    let small : length (ascend 9 nodes (Some i)) ≤ 8 = omega arith in
    grind (arith, nat_tests)

pub deep_end : (nodes : List Data) (i step : ℕ) (at : Option ℕ) → step ≡ 8
    → length (ascend 9 nodes (Some i)) ≡ step + length (ascend (9 - step) nodes at) → is_some at ≡ is_deep nodes i
deep_end nodes i step at e before =
    let l : length (ascend 9 nodes (Some i)) ≡ 8 + length (ascend 1 nodes at) = before ∙ rw e refl in
    sym (up_last nodes at) ∙ sym (ap (nat_lt 8) l)
