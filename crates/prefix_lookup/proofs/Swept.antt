-- The walk over the blocks: what each of its steps keeps.
use Rattle.std.proofs.Common.{◌≡◌, ℕ, ◌+◌, ◌-◌, ◌<◌, ◌≤◌, List, [], ◌∷◌, ◌++◌, length, refl, sym, ap, subst, ◌∙◌, arith, inl, inr, length-append}
use Rattle.std.specs.Prelude.{Contains, max}
use Rattle.std.proofs.lemmas.Bool.{cases_lt}
use Rattle.std.proofs.lemmas.List.{get_or_append_left, get_or_push}
use Rattle.prefix_lookup.specs.declared.block.Block.{Block}
use Rattle.prefix_lookup.specs.declared.family.Family.{Family}
use Rattle.prefix_lookup.specs.Blocks.{AreBlocks, IsBlock, IsInOrder, block_at, end_of, entry_of}
use Rattle.prefix_lookup.specs.Sweep.{AllAhead, AllGoOn, AllLongest, AreOpen, IsOuter}
use Rattle.prefix_lookup.specs.Table.{IsTable}
use Rattle.prefix_lookup.proofs.Intervals.{nested}
use Rattle.prefix_lookup.proofs.Longest.{Entry}
use Rattle.prefix_lookup.proofs.Unique.{longest_is}

abbrev push : List Block → Block → List Block
push rest b = rest ++ b ∷ []

old_at : (rest : List Block) (b : Block) (k : ℕ) → k < length rest → block_at (push rest b) k ≡ block_at rest k
old_at rest b k lt = get_or_append_left rest (b ∷ []) _ k lt

new_at : (rest : List Block) (b : Block) (k : ℕ) → length rest ≡ k → block_at (push rest b) k ≡ b
new_at rest b k is = get_or_push rest b _ k is

longer : (rest : List Block) (b : Block) → length (push rest b) ≡ length rest + 1
longer rest b = length-append rest (b ∷ [])

-- an open block is one of the blocks
pub its_block : (family : Family) (table : List Entry) (blocks opened : List Block) (i stop k : ℕ) → AreBlocks family table blocks → AreOpen family blocks i stop opened → i ≤ length blocks → k < length opened → IsBlock family (block_at opened k) × Contains table (entry_of family (block_at opened k))
its_block family table blocks opened i stop k are o le lt =
    let m = o.among k lt in
    (subst (IsBlock family) m.2 (are.each m.0 _ (omega (arith, m.1))), subst (λ (b : Block). Contains table (entry_of family b)) m.2 (are.among m.0 (omega (arith, m.1))))

-- up to where it goes on and nothing begins, the innermost open block has the longest prefix
pub innermost : (family : Family) (table : List Entry) (blocks opened : List Block) (i stop to : ℕ) (b : Block) → IsTable table → AreBlocks family table blocks → AreOpen family blocks i stop opened → i ≤ length blocks → 0 < length opened → block_at opened (length opened - 1) ≡ b → to ≤ end_of family b → AllAhead blocks i to → AllLongest family table b stop to
innermost family table blocks opened i stop to b t are o le some is before ahead = λ n from below.
    let k : ℕ = length opened - 1 in
    let its = its_block family table blocks opened i stop k are o le (omega arith) in
    let begun : b.first ≤ stop = subst (λ (x : Block). x.first ≤ stop) is (o.begun k (omega arith)) in
    longest_is family table blocks b n t are (subst (λ (x : Block). Contains table (entry_of family x)) is its.1) (subst (IsBlock family) is its.0) (omega arith) (omega arith)
    (λ m lt first end. elim (cases_lt m i) [
      | inr later ↦ (let a : to ≤ (block_at blocks m).first = ahead m later lt in absurd (omega arith))
      | inl earlier ↦ elim (o.done m earlier) [
        | inr ended ↦ absurd (omega arith)
        | inl at ↦ (
            let outer = o.nested at.0 k (omega (arith, at.1)) (omega arith) in
            let len : (block_at opened at.0).len ≤ b.len = subst (λ (x : Block). (block_at opened at.0).len ≤ x.len) is outer.len in
            subst (λ (x : Block). x.len ≤ b.len) at.2 len)
      ]
    ])

-- the innermost block has ended
pub popped : (family : Family) (blocks rest : List Block) (i stop limit : ℕ) (b : Block) → AreOpen family blocks i stop (rest ++ b ∷ []) → AllAhead blocks i limit → end_of family b ≤ limit → AreOpen family blocks i (max stop (end_of family b)) rest
popped family blocks rest i stop limit b o ahead ends = record {
  among = λ k lt. let m = o.among k (omega (arith, lt, longer rest b)) in (m.0, m.1, m.2 ∙ old_at rest b k lt);
  begun = λ k lt. let h : (block_at rest k).first ≤ stop = subst (λ (x : Block). x.first ≤ stop) (old_at rest b k lt) (o.begun k (omega (arith, lt, longer rest b))) in omega arith;
  nested = λ j k le lt. subst (λ (x : Block). IsOuter family x (block_at rest k)) (old_at rest b j (omega arith)) (subst (λ (x : Block). IsOuter family (block_at (push rest b) j) x) (old_at rest b k lt) (o.nested j k le (omega (arith, lt, longer rest b))));
  done = λ m lt. elim (o.done m lt) [
    | inr ended ↦ inr (omega arith)
    | inl at ↦ elim (cases_lt at.0 (length rest)) [
      | inl before ↦ inl (at.0, before, sym (old_at rest b at.0 before) ∙ at.2)
      | inr last ↦ inr (let same : b ≡ block_at blocks m = sym (new_at rest b at.0 (omega (arith, at.1, longer rest b))) ∙ at.2 in subst (λ (x : Block). end_of family x ≤ max stop (end_of family b)) same (omega arith))
    ]
  ];
  ahead = λ m le lt. let one = o.ahead m le lt in let two = ahead m le lt in omega arith;
}

-- where nothing begins, the walk goes on
pub advanced : (family : Family) (blocks opened : List Block) (i stop to : ℕ) → AreOpen family blocks i stop opened → stop ≤ to → AllAhead blocks i to → AreOpen family blocks i to opened
advanced family blocks opened i stop to o le ahead = record {
  among = o.among;
  begun = λ k lt. let h = o.begun k lt in omega arith;
  nested = o.nested;
  done = λ m lt. elim (o.done m lt) [ inl at ↦ inl at | inr ended ↦ inr (omega arith) ];
  ahead = ahead;
}

-- a further block is open
pub opens : (family : Family) (table : List Entry) (blocks opened : List Block) (i stop : ℕ) (b : Block) → AreBlocks family table blocks → AreOpen family blocks i stop opened → i < length blocks → block_at blocks i ≡ b → b.first ≡ stop → AllGoOn family stop opened → AreOpen family blocks (i + 1) stop (opened ++ b ∷ [])
opens family table blocks opened i stop b are o lt is first on = record {
  among = λ k up. elim (cases_lt k (length opened)) [
    | inl before ↦ (let m = o.among k before in (m.0, omega (arith, m.1), m.2 ∙ sym (old_at opened b k before)))
    | inr last ↦ (i, omega arith, is ∙ sym (new_at opened b k (omega (arith, up, longer opened b))))
  ];
  begun = λ k up. elim (cases_lt k (length opened)) [
    | inl before ↦ subst (λ (x : Block). x.first ≤ stop) (sym (old_at opened b k before)) (o.begun k before)
    | inr last ↦ subst (λ (x : Block). x.first ≤ stop) (sym (new_at opened b k (omega (arith, up, longer opened b)))) (omega arith)
  ];
  nested = λ j k le up. elim (cases_lt k (length opened)) [
    | inl before ↦ subst (λ (x : Block). IsOuter family x (block_at (push opened b) k)) (sym (old_at opened b j (omega arith))) (subst (λ (x : Block). IsOuter family (block_at opened j) x) (sym (old_at opened b k before)) (o.nested j k le before))
    | inr last ↦ subst (λ (x : Block). IsOuter family (block_at (push opened b) j) x) (sym (new_at opened b k (omega (arith, up, longer opened b)))) (elim (cases_lt j (length opened)) [
      | inl before ↦ subst (λ (x : Block). IsOuter family x b) (sym (old_at opened b j before)) (within j before)
      | inr also ↦ subst (λ (x : Block). IsOuter family x b) (sym (new_at opened b j (omega (arith, up, le, longer opened b)))) (record { len = omega arith; end = omega arith })
    ])
  ];
  done = λ m up. elim (cases_lt m i) [
    | inl before ↦ elim (o.done m before) [
      | inl at ↦ inl (at.0, omega (arith, at.1, longer opened b), old_at opened b at.0 at.1 ∙ at.2)
      | inr ended ↦ inr ended
    ]
    | inr last ↦ inl (length opened, omega (arith, longer opened b), new_at opened b (length opened) refl ∙ sym is ∙ ap (block_at blocks) (same_place m last up))
  ];
  ahead = λ m le up. let order = are.rising i m (omega arith) up in let h : b.first ≤ (block_at blocks m).first = subst (λ (x : Block). x.first ≤ (block_at blocks m).first) is order.first in omega arith;
}
  where
    same_place : (m : ℕ) → i ≤ m → m < i + 1 → i ≡ m
    same_place m le up = omega arith

    within : (j : ℕ) → j < length opened → IsOuter family (block_at opened j) b
    within j before =
        let m = o.among j before in
        let its = its_block family table blocks opened i stop j are o (omega arith) before in
        let order : IsInOrder (block_at opened j) b = subst (λ (x : Block). IsInOrder (block_at opened j) x) is (subst (λ (x : Block). IsInOrder x (block_at blocks i)) m.2 (are.rising m.0 i (omega (arith, m.1)) lt)) in
        let goes : stop < end_of family (block_at opened j) = on j before in
        nested family (block_at opened j) b its.0 (subst (IsBlock family) is (are.each i _ lt)) order.first (omega arith) order.tied
