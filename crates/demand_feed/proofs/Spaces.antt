-- Words between spaces.
use Rattle.std.proofs.Common.{◌≡◌, ℕ, List, [], ◌∷◌, length, true, false, not, ap, ◌∙◌, ◌==◌, cond}
use Rattle.std.specs.List.{filter}
use Rattle.text_parts.specs.Parts.{parts}
use Rattle.demand_feed.specs.Line.{words_of}

words_cut : (text word behind : List ℕ) → parts 32 text ≡ word ∷ parts 32 behind → words_of text ≡ cond (not (length word == 0)) (word ∷ words_of behind) (words_of behind)
words_cut text word behind h = ap (filter (λ word. not (length word == 0))) h

-- what stands before a space is a word unless it is empty
pub words_some : (text word behind : List ℕ) → parts 32 text ≡ word ∷ parts 32 behind → (length word == 0) ≡ false → words_of text ≡ word ∷ words_of behind
words_some text word behind h e = words_cut text word behind h ∙ ap (λ b. cond (not b) (word ∷ words_of behind) (words_of behind)) e

pub words_none : (text word behind : List ℕ) → parts 32 text ≡ word ∷ parts 32 behind → (length word == 0) ≡ true → words_of text ≡ words_of behind
words_none text word behind h e = words_cut text word behind h ∙ ap (λ b. cond (not b) (word ∷ words_of behind) (words_of behind)) e

-- without a space the text is one word unless it is empty
pub words_last : (text : List ℕ) → parts 32 text ≡ text ∷ [] → (length text == 0) ≡ false → words_of text ≡ text ∷ []
words_last text h e = ap (filter (λ word. not (length word == 0))) h ∙ ap (λ b. cond (not b) (text ∷ []) []) e
