use Rattle.std.proofs.Common.{ℕ, List, [], length, slice_index_or, ap, ◌∙◌, arith}
use Rattle.map_text.proofs.lexicon.node_word.Goals as goal

pub word_at-requires : goal.word_at-requires
word_at-requires c = omega (arith, c.requires.node, c.instance-instance.ensures.plan.nodes.as_many, ap (λ (ns : List (List ℕ)). length ns) (c.as_slice.ensures.value ∙ c.requires.words.nodes))

pub returns : goal.returns
returns c = c.word_at.ensures ∙ ap (λ (ns : List (List ℕ)). slice_index_or ns c.args.node.0 []) (c.as_slice.ensures.value ∙ c.requires.words.nodes)
