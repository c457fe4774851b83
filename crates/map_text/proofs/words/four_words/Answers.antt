use Rattle.std.proofs.Common.{◌∙◌, ap, ◌∷◌}
use Rattle.map_text.specs.Words.{four_of}
use Rattle.map_text.proofs.Splits.{five_parts}
use Rattle.map_text.proofs.words.four_words.Goals as goal

pub returns-in-Some : goal.returns-in-Some
returns-in-Some c =
    let k = c.in_ok-keyword.keyword.now in
    let g = c.in_ok-group.group.now in
    let p = c.in_ok-pool.pool.now in
    ap four_of c.in_ok-keyword.ensures.parts
    ∙ ap (λ x. four_of (k ∷ x)) c.in_ok-group.ensures.parts
    ∙ ap (λ x. four_of (k ∷ g ∷ x)) c.in_ok-pool.ensures.parts
    ∙ ap (λ x. four_of (k ∷ g ∷ p ∷ x)) c.in-Some.ensures.parts
    ∙ five_parts k g p c.in-Some.field-0.0.now 32 c.in-Some.field-0.1.now
