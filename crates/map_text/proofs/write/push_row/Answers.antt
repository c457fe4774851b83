use Rattle.std.proofs.Common.{◌++◌, ◌∷◌, [], ℕ, List, length, ap, ◌∙◌, arith}
use Rattle.map_text.proofs.Copied.{row_four}
use Rattle.map_text.proofs.write.push_row.Goals as goal

pub add-requires : goal.add-requires
add-requires c = omega (arith, ap (λ (xs : List ℕ). length xs) c.clear.ensures)

pub add-requires-2 : goal.add-requires-2
add-requires-2 c = omega (arith, ap (λ (xs : List ℕ). length xs) c.clear.ensures, c.add.ensures.short)

pub add-requires-3 : goal.add-requires-3
add-requires-3 c = omega (arith, ap (λ (xs : List ℕ). length xs) c.clear.ensures, c.add.ensures.short, c.add-2.ensures.short)

pub add-requires-4 : goal.add-requires-4
add-requires-4 c = omega (arith, ap (λ (xs : List ℕ). length xs) c.clear.ensures, c.add.ensures.short, c.add-2.ensures.short, c.add-3.ensures.short)

pub returns : goal.returns
returns c =
    c.in_ok-extend_from_slice.ensures.items
    ∙ ap (λ (xs : List ℕ). c.args.text.now.items ++ xs) (c.as_slice.ensures ∙ row_four c.args.keyword.now c.args.group.now c.args.pool.now c.args.last.now c.add.new.self c.add-2.new.self c.add-3.new.self c.add-4.new.self
    (c.add.ensures.text ∙ ap (λ (xs : List ℕ). (xs ++ c.args.keyword.now) ++ 32 ∷ []) c.clear.ensures) c.add-2.ensures.text c.add-3.ensures.text c.add-4.ensures.text)
