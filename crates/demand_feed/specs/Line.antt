-- What one line of a feed says.
use Rattle.std.specs.Prelude.{ℕ, ◌%◌, Bool, not, ◌&&◌, ◌==◌, nat_le, if◌then◌else◌, List, [], ◌∷◌, length, codes, Option, None, Some, Result, Ok, Err}
use Rattle.std.specs.Char.{is_ascii_digit}
use Rattle.std.specs.List.{filter, list_all}
use Rattle.std.specs.Str.{bytes_eq}
use Rattle.std.specs.Str.Parse.{digits_value}
use Rattle.hex.specs.Hex.{is_hex_digit}
use Rattle.addr_text.specs.declared.address.Addr.{Addr}
use Rattle.addr_text.specs.Addresses.{addr_of}
use Rattle.text_parts.specs.Parts.{parts}
use Rattle.demand_feed.specs.Limits.{longest_line}
use Rattle.demand_feed.specs.declared.fault.LineFault.{LineFault}
use Rattle.demand_feed.specs.declared.fault.LineFault.TheVariants.{TooLong, BadByte, UnknownWord, WrongCount, BadNumber, BadAddress, BadHex}

-- a line: a change of a group or of a node by its name, the end of a batch, a query with its hexadecimal digits, or a word alone
pub data Said : Type 0 where
  demand : List ℕ → ℕ → Said
  capacity : List ℕ → ℕ → Said
  commit : Said
  ask : Addr → List ℕ → Said
  show : Said
  stop : Said

-- the words of a line: the runs of octets other than space
abbrev pub words_of : List ℕ → List (List ℕ)
words_of line = filter (λ word. not (length word == 0)) (parts 32 line)

-- a space, a letter or another visible octet of ASCII
abbrev pub is_visible : ℕ → Bool
is_visible b = nat_le 32 b && nat_le b 126

-- 1 to 19 decimal digits; leading zeros are allowed
abbrev pub is_number : List ℕ → Bool
is_number word = nat_le 1 (length word) && nat_le (length word) 19 && list_all is_ascii_digit word

-- an even number of hexadecimal digits of either case
abbrev pub is_hex : List ℕ → Bool
is_hex word = (length word % 2 == 0) && list_all is_hex_digit word

-- a line of one word
abbrev pub alone : Said → List (List ℕ) → Result Said LineFault
alone said [] = Ok said
alone said _ = Err WrongCount

-- two words, where there are no more and no fewer
abbrev pub two_of : List (List ℕ) → Option (List ℕ × List ℕ)
two_of (first ∷ second ∷ []) = Some (first, second)
two_of _ = None

-- a line of a name and a number
abbrev pub change_of : (List ℕ → ℕ → Said) → Option (List ℕ × List ℕ) → Result Said LineFault
change_of said None = Err WrongCount
change_of said (Some words) = if is_number words.1 then Ok (said words.0 (digits_value 10 words.1)) else Err BadNumber

-- a query from an address
abbrev pub query_of : Option Addr → List ℕ → Result Said LineFault
query_of None digits = Err BadAddress
query_of (Some addr) digits = if is_hex digits then Ok (ask addr digits) else Err BadHex

-- a line of an address and digits
abbrev pub ask_of : Option (List ℕ × List ℕ) → Result Said LineFault
ask_of None = Err WrongCount
ask_of (Some words) = query_of (addr_of words.0) words.1

-- a line by its first word and the others
abbrev pub by_word : List ℕ → List (List ℕ) → Result Said LineFault
by_word word others =
    if bytes_eq word (codes "demand") then change_of demand (two_of others)
    else if bytes_eq word (codes "capacity") then change_of capacity (two_of others)
    else if bytes_eq word (codes "commit") then alone commit others
    else if bytes_eq word (codes "ask") then ask_of (two_of others)
    else if bytes_eq word (codes "show") then alone show others
    else if bytes_eq word (codes "stop") then alone stop others
    else Err UnknownWord

-- a line by its words
abbrev pub by_words : List (List ℕ) → Result Said LineFault
by_words [] = Err UnknownWord
by_words (word ∷ others) = by_word word others

-- a line, or the first of its faults
unfoldable pub line_of : List ℕ → Result Said LineFault
line_of line =
    if not (nat_le (length line) longest_line) then Err TooLong
    else if not (list_all is_visible line) then Err BadByte
    else by_words (words_of line)
