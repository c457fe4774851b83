use Rattle.std.proofs.Common.{◌≡◌, ◌+◌, ◌≤◌, length, arith, drop}
use Rattle.byteorder.specs.Endian.{big_number}
use Rattle.answer_core.proofs.Words.{word_on}
use Rattle.answer_core.proofs.names.same_words.Goals as goal

pub loop-at-preserved : goal.loop-at-preserved
loop-at-preserved c =
    let fits : c.loop-at.at + 8 ≤ length c.args.name.now = omega (arith, c.loop-at-test.true, c.loop-at.invariant.0) in
    let same : big_number 8 (drop c.loop-at.at c.args.name.now) ≡ big_number 8 (drop c.loop-at.at c.args.other.now) = omega (arith, c.word.ensures, c.word-in-loop-at.ensures, c.if-word.false) in
    (fits, word_on c.args.name.now c.args.other.now c.loop-at.at _ fits c.requires (λ i. omega (arith, c.type_inv.name i)) (λ i. omega (arith, c.type_inv.other i)) same c.loop-at.invariant.1)
