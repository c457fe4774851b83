use Rattle.std.proofs.Common.{sym, ◌∙◌, arith}
use Rattle.demand_feed.proofs.Spaces.{words_last, words_none, words_some}
use Rattle.demand_feed.proofs.words.next_word.Goals as goal

pub returns-then-not-is_empty-clause-words : goal.returns-then-not-is_empty-clause-words
returns-then-not-is_empty-clause-words c =
    c.words.invariant.0 ∙ words_some c.words.rest.now c.in-Some.word.now c.in-Some.behind.now c.in-Some.ensures.parts (sym c.is_empty.ensures ∙ c.if-not-is_empty.true)

pub words-preserved : goal.words-preserved
words-preserved c =
    (c.words.invariant.0 ∙ words_none c.words.rest.now c.in-Some.word.now c.in-Some.behind.now c.in-Some.ensures.parts (sym c.is_empty.ensures ∙ c.if-not-is_empty.false), omega (arith, c.in-Some.ensures.shorter, c.words.invariant.1))

pub returns-else-is_empty-clause-words : goal.returns-else-is_empty-clause-words
returns-else-is_empty-clause-words c =
    c.words.invariant.0 ∙ words_last c.words.rest.now c.in_default.ensures.parts (sym c.is_empty-2.ensures ∙ c.if-is_empty.false)
