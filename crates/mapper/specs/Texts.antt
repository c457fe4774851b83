-- The lines of the control text.
use Rattle.std.specs.Prelude.{ℕ, ◌+◌, List, [], ◌∷◌, ◌++◌, Option, None, Some, codes}
use Rattle.std.specs.Fmt.{decimal}
use Rattle.hex.specs.Hex.{encode_lower}
use Rattle.demand_feed.specs.Texts.{refusal_words}
use Rattle.demand_feed.specs.declared.fault.Refusal.{Refusal}
use Rattle.mapper.specs.declared.saying.Totals.{Totals}

-- a text and the end of its line
abbrev pub line : List ℕ → List ℕ
line text = text ++ 10 ∷ []

-- the line of that number is refused
unfoldable pub refused : ℕ → Refusal → List ℕ
refused number why = line (codes "refused " ++ decimal number ++ codes " " ++ refusal_words why)

-- that version is the newest
unfoldable pub published : ℕ → List ℕ
published serial = line (codes "published " ++ decimal serial)

-- so many lines were refused since the last commit line
unfoldable pub spoiled : ℕ → List ℕ
spoiled lines = line (codes "refused commit lines " ++ decimal lines)

-- memory was wanting in the commit
unfoldable pub memory : List ℕ
memory = line (codes "refused commit memory")

-- a reply as hexadecimal digits in lower case, or a dash where there is none
abbrev pub digits_of : Option (List ℕ) → List ℕ
digits_of None = codes "-"
digits_of (Some octets) = encode_lower octets

-- the reply of that version
unfoldable pub answer : ℕ → Option (List ℕ) → List ℕ
answer serial reply = line (codes "answer " ++ decimal serial ++ codes " " ++ digits_of reply)

-- the totals of that version
unfoldable pub show : ℕ → Totals → List ℕ
show serial totals = line (codes "show " ++ decimal serial ++ codes " placed " ++ decimal totals.placed ++ codes " unplaced " ++ decimal totals.unplaced ++ codes " full " ++ decimal totals.full)

-- where there are several feeds, the mark of the lines of one: its number, from 1, and a space
unfoldable pub mark_of : ℕ → List ℕ
mark_of feeder = decimal (feeder + 1) ++ 32 ∷ []

-- a line behind its feed's mark, if it has one
abbrev pub marked : Option ℕ → List ℕ → List ℕ
marked None text = text
marked (Some feeder) text = mark_of feeder ++ text
