use Rattle.std.proofs.Common.{◌++◌, ◌∷◌, List, [], take, slice_index, sym, ap, ◌∙◌, arith, append-nil}
use Rattle.std.proofs.lemmas.List.{take_all}
use Rattle.map_model.specs.declared.lines.MapLine.{MapLine}
use Rattle.offer_pool.specs.Table.{line_of, lines_in}
use Rattle.offer_pool.proofs.Tables.{line_none, line_some, lines_empty, lines_more}
use Rattle.offer_pool.proofs.table.lines_of.Goals as goal
use Rattle.offer_pool.proofs.table.lines_of.Goals.{then-amount-gt0+in_ok-push, else-amount-gt0}

pub loop-i-init : goal.loop-i-init
loop-i-init c = c.new-lines.ensures.items ∙ sym (lines_empty 0)

pub loop-i-preserved : goal.loop-i-preserved
loop-i-preserved c =
    let i = c.loop-i.i in
    let x = slice_index c.args.amounts.now i in
    let more = lines_more c.args.amounts.now i c.loop-i-test.true in
    elim c.if-amount-gt0.branch [
      | then-amount-gt0+in_ok-push w ↦
          ap (λ v. v.items) w.lines-is ∙ w.in_ok-push.ensures.items
          ∙ ap (λ (ls : List MapLine). ls ++ line_of i x ∷ []) c.loop-i.invariant ∙ ap (λ (ls : List MapLine). lines_in (take i c.args.amounts.now) ++ ls) (sym (line_some i x w.if-amount-gt0.true)) ∙ sym more
      | else-amount-gt0 w ↦
          ap (λ v. v.items) w.lines-is ∙ c.loop-i.invariant
          ∙ sym (ap (λ (ls : List MapLine). lines_in (take i c.args.amounts.now) ++ ls) (line_none i x (omega (arith, w.if-amount-gt0.false))) ∙ append-nil (lines_in (take i c.args.amounts.now))) ∙ sym more
    ]

pub returns : goal.returns
returns c = c.loop-i.invariant ∙ ap lines_in (take_all _ c.args.amounts.now c.loop-i-test.false)
