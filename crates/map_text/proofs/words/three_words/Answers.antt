use Rattle.std.proofs.Common.{◌∙◌, ap, ◌∷◌}
use Rattle.map_text.specs.Words.{three_of}
use Rattle.map_text.proofs.Splits.{four_or_more}
use Rattle.map_text.proofs.words.three_words.Goals as goal

pub returns-in-Some : goal.returns-in-Some
returns-in-Some c =
    let k = c.in_ok-keyword.keyword.now in
    let g = c.in_ok-group.group.now in
    ap three_of c.in_ok-keyword.ensures.parts
    ∙ ap (λ x. three_of (k ∷ x)) c.in_ok-group.ensures.parts
    ∙ ap (λ x. three_of (k ∷ g ∷ x)) c.in-Some.ensures.parts
    ∙ four_or_more k g c.in-Some.field-0.0.now 32 c.in-Some.field-0.1.now
