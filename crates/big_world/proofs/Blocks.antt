-- The lines of a document, block by block: a text with an empty line behind each block is one with an empty line ahead of each header but the first.
use Rattle.std.proofs.Common.{◌≡◌, ◌+◌, ◌&&◌, ◌++◌, true, false, codes, List, [], ◌∷◌, drop, map, nat_lt, length, ℕ, zero, suc, refl, sym, ap, ◌∙◌, append_assoc, append-nil}
use Rattle.std.specs.List.{list_all, range_with_len}
use Rattle.toml_parser.specs.Lexical.{is_bare}
use Rattle.toml_parser.specs.Strings.{Key}
use Rattle.toml_writer.specs.Text.{dotted_text, key_text}
use Rattle.toml.specs.Data.{Data, table, Members}
use Rattle.toml.specs.Tables.{array_table, key_value, Expression}
use Rattle.toml.specs.Text.{are_tables, elements, header_close, header_open, IsLinesText, IsLineText, IsValueText, pairs, sections}
use Rattle.big_world.specs.World.{array_of}
use Rattle.big_world.proofs.Joined.{joined}

lines_joined : (es fs : List Expression) (s t : List ℕ) → IsLinesText false true es s → IsLinesText false true fs t → IsLinesText false true (es ++ fs) (s ++ t)
lines_joined [] fs s t front back = rw front back
lines_joined (e ∷ es) fs s t front back =
    let (this, rest, whole, first, more) = front in
    (this, rest ++ t, ap (λ text. text ++ t) whole ∙ append_assoc this rest t, first, lines_joined es fs rest t more back)

-- a document that begins with a header has no empty line ahead of it
lines_at_start : (key : Key) (es : List Expression) (text : List ℕ) → IsLinesText false true ((key, array_table) ∷ es) (10 ∷ text) → IsLinesText false false ((key, array_table) ∷ es) text
lines_at_start key es text lines =
    let (this, rest, whole, first, more) = lines in
    let header = header_open true ++ (dotted_text key ++ header_close true) in
    let begun : 10 ∷ text ≡ 10 ∷ (header ++ rest) = whole ∙ ap (λ line. line ++ rest) first in
    (header, rest, ap (λ t. drop 1 t) begun, refl, more)

-- a line with a bare key
pub pair_line : (key : List ℕ) (d : Data) (value : List ℕ) → (nat_lt 0 (length key) && list_all is_bare key) ≡ true → IsValueText false d value → IsLineText false true ([], key) (key_value d) (key ++ (codes " = " ++ (value ++ 10 ∷ [])))
unfolding key_text
pair_line key d value bare text = (value, rw bare refl, text)

-- a header of one of many, with a bare key
pub header_line : (key : List ℕ) → (nat_lt 0 (length key) && list_all is_bare key) ≡ true → IsLineText false true ([], key) array_table (codes "\n[[" ++ (key ++ codes "]]\n"))
unfolding key_text
header_line key bare = rw bare refl

-- texts, one behind the other
abbrev pub join : List (List ℕ) → List ℕ
join [] = []
join (t ∷ ts) = t ++ join ts

pub two_joined : (a b : List ℕ) → a ++ b ≡ join (a ∷ b ∷ [])
two_joined a b = ap (λ t. a ++ t) (sym (append-nil b))

pub five_joined : (a b c d e : List ℕ) → (((a ++ b) ++ c) ++ d) ++ e ≡ join (a ∷ b ∷ c ∷ d ∷ e ∷ [])
five_joined a b c d e = simp (append_assoc, append-nil)

-- a line with a bare key
abbrev pub pair : List ℕ → Data → Expression
pair key d = (([], key), key_value d)

-- each text is the line of its expression
abbrev pub AreLines : List Expression → List (List ℕ) → Type 0
AreLines [] [] = Unit
AreLines [] (t ∷ ts) = ⊥
AreLines (e ∷ es) [] = ⊥
AreLines (e ∷ es) (t ∷ ts) = IsLineText false true e.0 e.1 t × AreLines es ts

pub lines_text : (es : List Expression) (ts : List (List ℕ)) (text : List ℕ) → text ≡ join ts → AreLines es ts → IsLinesText false true es text
lines_text [] [] text is are = is
lines_text [] (t ∷ ts) text is are = absurd are
lines_text (e ∷ es) [] text is are = absurd are
lines_text (e ∷ es) (t ∷ ts) text is are = (t, join ts, is, are.0, lines_text es ts (join ts) refl are.1)

-- the text holds the table's lines under a header of its own, and an empty line behind them
abbrev pub IsBlock : Key → Data → List ℕ → Type 0
IsBlock key d text = (ms : Members) × (lines : List ℕ) × (d ≡ table ms) × (text ≡ lines ++ 10 ∷ [])
    × IsLinesText false true ((key, array_table) ∷ (pairs ms ++ sections (key.0 ++ key.1 ∷ []) ms)) (10 ∷ lines)

module _ (key : Key) (data_at : ℕ → Data) (text_at : ℕ → List ℕ) (blocks : (i : ℕ) → IsBlock key (data_at i) (text_at i)) where
  pub blocks_are_tables : (a k : ℕ) → are_tables (array_of (map data_at (range_with_len a k))) ≡ true
  blocks_are_tables a zero = refl
  blocks_are_tables a (suc k) = rw (blocks a).2 (blocks_are_tables (a + 1) k)

  pub blocks_lines : (es : List Expression) (rest : List ℕ) → IsLinesText false true es (10 ∷ rest) → (a k : ℕ)
      → IsLinesText false true (elements key (array_of (map data_at (range_with_len a k))) ++ es) (10 ∷ (joined text_at a k ++ rest))
  blocks_lines es rest after a zero = after
  blocks_lines es rest after a (suc k) =
      let (ms, lines, same, whole, here) = blocks a in
      let block = (key, array_table) ∷ (pairs ms ++ sections (key.0 ++ key.1 ∷ []) ms) in
      let others = elements key (array_of (map data_at (range_with_len (a + 1) k))) in
      let texts = joined text_at (a + 1) k in
      let more = lines_joined block (others ++ es) (10 ∷ lines) (10 ∷ (texts ++ rest)) here (blocks_lines es rest after (a + 1) k) in
      let expressions : elements key (array_of (map data_at (range_with_len a (suc k)))) ++ es ≡ block ++ (others ++ es) = rw same (append_assoc block others es) in
      let text : (text_at a ++ texts) ++ rest ≡ lines ++ (10 ∷ (texts ++ rest)) =
      ap (λ t. (t ++ texts) ++ rest) whole ∙ (append_assoc (lines ++ 10 ∷ []) texts rest ∙ append_assoc lines (10 ∷ []) (texts ++ rest)) in
      rw (expressions, text) more

  -- lines that begin with a block, ahead of which an empty line would stand
  pub blocks_at_start : (es : List Expression) (text : List ℕ) (a k : ℕ)
      → IsLinesText false true (elements key (array_of (map data_at (range_with_len a (suc k)))) ++ es) (10 ∷ text)
      → IsLinesText false false (elements key (array_of (map data_at (range_with_len a (suc k)))) ++ es) text
  blocks_at_start es text a k =
      let (ms, lines, same, whole, here) = blocks a in
      let others = elements key (array_of (map data_at (range_with_len (a + 1) k))) in
      rw same (λ h. lines_at_start key (((pairs ms ++ sections (key.0 ++ key.1 ∷ []) ms) ++ others) ++ es) text h)
