-- A line of control text, as a value of the code.
use Rattle.std.specs.Prelude.{ℕ, List, option_map}
use Rattle.mapper.specs.declared.saying.Saying.{Saying}
use Rattle.mapper.specs.declared.saying.Saying.TheVariants.{Refused, Published, Spoiled, NoMemory, Answer, Show}
use Rattle.mapper.specs.Texts as text

-- its text
abbrev pub text_of : Saying → List ℕ
text_of (Refused number why) = text.refused number why
text_of (Published serial) = text.published serial
text_of (Spoiled lines) = text.spoiled lines
text_of NoMemory = text.memory
text_of (Answer serial reply) = text.answer serial (option_map (λ r. r.items) reply)
text_of (Show serial totals) = text.show serial totals
