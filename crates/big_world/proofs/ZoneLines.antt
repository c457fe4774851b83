-- The zone of a world, as the last table of its text.
use Rattle.std.proofs.Common.{◌≡◌, ◌&&◌, ◌++◌, true, false, codes, pos, List, [], ◌∷◌, ℕ, nat_lt, length, refl, arith}
use Rattle.std.specs.Fmt.{decimal, digits}
use Rattle.std.specs.List.{list_all}
use Rattle.toml.specs.Data.{array, Data, integer, item, no_items, string, table}
use Rattle.toml.specs.Tables.{Expression, key_value}
use Rattle.toml.specs.Text.{IsLinesText, IsValueText, section}
use Rattle.toml_parser.specs.Lexical.{is_bare}
use Rattle.toml_parser.specs.Strings.{Key}
use Rattle.toml_writer.specs.Text.{key_text}
use Rattle.big_world.specs.declared.TheConstants.{ZONE}
use Rattle.big_world.specs.World.{zone_data}
use Rattle.big_world.proofs.Blocks.{pair_line}
use Rattle.big_world.proofs.Values.{array_value, number_value, string_value}

-- a line's key, its value, and what the value is written as
pub record Pair : Type 0 where
  pub key : List ℕ
  pub value : Data
  pub text : List ℕ

abbrev lines_of : List Pair → List Expression
lines_of [] = []
lines_of (p ∷ ps) = (([], p.key), key_value p.value) ∷ lines_of ps

abbrev texts_of : List Pair → List ℕ
texts_of [] = []
texts_of (p ∷ ps) = (p.key ++ (codes " = " ++ (p.text ++ 10 ∷ []))) ++ texts_of ps

abbrev AreWritten : List Pair → Type 0
AreWritten [] = Unit
AreWritten (p ∷ ps) = ((nat_lt 0 (length p.key) && list_all is_bare p.key) ≡ true) × IsValueText false p.value p.text × AreWritten ps

pairs_lines : (ps : List Pair) → AreWritten ps → IsLinesText false true (lines_of ps) (texts_of ps)
pairs_lines [] h = refl
pairs_lines (p ∷ ps) h = (p.key ++ (codes " = " ++ (p.text ++ 10 ∷ [])), texts_of ps, refl, pair_line p.key p.value p.text h.0 h.1, pairs_lines ps h.2)

abbrev string_pair : List ℕ → List ℕ → Pair
string_pair key s = record { key = key; value = string s; text = 34 ∷ (s ++ 34 ∷ []) }

abbrev number_pair : List ℕ → ℕ → Pair
number_pair key m = record { key = key; value = integer (pos m); text = decimal m }

abbrev zone_pairs : List Pair
zone_pairs =
    string_pair (codes "apex") (codes "cdn.example")
    ∷ number_pair (codes "expire") 86400
    ∷ number_pair (codes "minimum") 60
    ∷ string_pair (codes "mname") (codes "ns1.ops.example")
    ∷ record { key = codes "ns"; value = array (item (string (codes "ns1.ops.example")) (item (string (codes "ns2.ops.example")) no_items)); text = codes "[\"ns1.ops.example\", \"ns2.ops.example\"]" }
    ∷ number_pair (codes "refresh") 3600
    ∷ number_pair (codes "retry") 600
    ∷ string_pair (codes "rname") (codes "admin.ops.example")
    ∷ number_pair (codes "serial") 1
    ∷ record { key = codes "services"; value = array (item (string (codes "www")) no_items); text = codes "[\"www\"]" }
    ∷ number_pair (codes "ttl") 20
    ∷ []

zone_written : AreWritten zone_pairs
zone_written = (
  refl,
  string_value (codes "cdn.example") refl,
  (
    refl,
    number_value 86400 (omega arith),
    (
      refl,
      number_value 60 (omega arith),
      (
        refl,
        string_value (codes "ns1.ops.example") refl,
        (
          refl,
          array_value (item (string (codes "ns1.ops.example")) (item (string (codes "ns2.ops.example")) no_items)) (codes "\"ns1.ops.example\", \"ns2.ops.example\"]") (
            codes "\"ns1.ops.example\"",
            codes ", \"ns2.ops.example\"]",
            refl,
            string_value (codes "ns1.ops.example") refl,
            (codes "\"ns2.ops.example\"", codes "]", refl, string_value (codes "ns2.ops.example") refl, refl),
          ),
          (
            refl,
            number_value 3600 (omega arith),
            (
              refl,
              number_value 600 (omega arith),
              (
                refl,
                string_value (codes "admin.ops.example") refl,
                (
                  refl,
                  number_value 1 (omega arith),
                  (
                    refl,
                    array_value (item (string (codes "www")) no_items) (codes "\"www\"]") (codes "\"www\"", codes "]", refl, string_value (codes "www") refl, refl),
                    (refl, number_value 20 (omega arith), tt),
                  ),
                ),
              ),
            ),
          ),
        ),
      ),
    ),
  ),
)

abbrev pub zone_key : Key
zone_key = ([], codes "zone")

pub zone_lines : IsLinesText false true (section zone_key (table zone_data)) (10 ∷ ZONE.now)
unfolding key_text digits
zone_lines = (codes "\n[zone]\n", texts_of zone_pairs, refl, refl, pairs_lines zone_pairs zone_written)
