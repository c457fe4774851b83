-- What a sort by first number, length and group says of any two blocks.
use Rattle.std.proofs.Common.{◌≡◌, ℕ, zero, suc, ◌+◌, ◌<◌, ◌≤◌, Bool, false, cond, List, length, refl, sym, ap, subst, ◌∙◌, arith, inl, inr, eq-eqb}
use Rattle.std.specs.Prelude.{nat_eq}
use Rattle.std.proofs.Common.{Ordering, Less, Equal, Greater, nat_cmp, is_lt}
use Rattle.std.specs.Ordering.{ordering_then}
use Rattle.std.proofs.lemmas.Bool.{cases_lt, lt-ltb, le-ltb, false≢true}
use Rattle.prefix_lookup.specs.declared.block.Block.{Block}
use Rattle.prefix_lookup.specs.Blocks.{IsInOrder, block_at}

not_less : (x y : ℕ) (o : Ordering) → is_lt (ordering_then (nat_cmp x y) o) ≡ false → y ≤ x
not_less x y o h = elim (cases_lt x y) [
  | inr le ↦ le
  | inl lt ↦ absurd (false≢true (sym h ∙ ap (λ (r : Ordering). is_lt (ordering_then r o)) (ap (λ (b : Bool). cond b Less (cond (nat_eq x y) Equal Greater)) (lt-ltb x y lt))))
]

tied_then : (x : ℕ) (o : Ordering) → ordering_then (nat_cmp x x) o ≡ o
tied_then x o = ap (λ (b : Bool). ordering_then (cond b Less (cond (nat_eq x x) Equal Greater)) o) (le-ltb x x (omega arith)) ∙ ap (λ (b : Bool). ordering_then (cond b Equal Greater) o) (eq-eqb x x refl)

-- not less by its first number and its length
pub in_order : (b c : Block) (o : Ordering) → is_lt (ordering_then (nat_cmp c.first b.first) (ordering_then (nat_cmp c.len b.len) o)) ≡ false → IsInOrder b c
in_order b c o h = record {
  first = not_less c.first b.first _ h;
  tied = λ e. not_less c.len b.len o (sym (ap is_lt (tied_then c.first (ordering_then (nat_cmp c.len b.len) o))) ∙ subst (λ (n : ℕ). is_lt (ordering_then (nat_cmp c.first n) (ordering_then (nat_cmp c.len b.len) o)) ≡ false) e h);
}

same_order : (b : Block) → IsInOrder b b
same_order b = record { first = omega arith; tied = λ _. omega arith }

through : (b c d : Block) → IsInOrder b c → IsInOrder c d → IsInOrder b d
through b c d one two = record {
  first = omega (arith, one.first, two.first);
  tied = λ e. omega (arith, one.tied (omega (arith, one.first, two.first)), two.tied (omega (arith, one.first, two.first)));
}

-- each block and any later one
pub rising : (blocks : List Block) → ((k : ℕ) → k + 1 < length blocks → IsInOrder (block_at blocks k) (block_at blocks (k + 1))) → (i d : ℕ) → i + d < length blocks → IsInOrder (block_at blocks i) (block_at blocks (i + d))
rising blocks next i zero lt = let e : i + 0 ≡ i = omega arith in subst (λ (n : ℕ). IsInOrder (block_at blocks i) (block_at blocks n)) (sym e) (same_order (block_at blocks i))
rising blocks next i (suc d) lt =
    let e : i + suc d ≡ i + d + 1 = omega arith in
    subst (λ (n : ℕ). IsInOrder (block_at blocks i) (block_at blocks n)) (sym e) (through _ _ _ (rising blocks next i d (omega arith)) (next (i + d) (omega arith)))
