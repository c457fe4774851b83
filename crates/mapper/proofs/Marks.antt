-- The marks of feeds.
use Rattle.std.proofs.Common.{◌≡◌, ℕ, ◌+◌, ◌<◌, [], ◌∷◌, ◌++◌, ap, ◌∙◌, arith}
use Rattle.std.proofs.lemmas.Fmt.{decimal_digit}
use Rattle.mapper.specs.Texts.{mark_of}

pub mark_is : (feeder : ℕ) → feeder < 4 → mark_of feeder ≡ (49 + feeder) ∷ 32 ∷ []
mark_is feeder few = unfold mark_of in ap (λ l. l ++ 32 ∷ []) (decimal_digit (feeder + 1) (omega (arith, few))) ∙ ap (λ n. n ∷ 32 ∷ []) (one feeder)
  where
    one : (n : ℕ) → 48 + (n + 1) ≡ 49 + n
    one n = omega arith
