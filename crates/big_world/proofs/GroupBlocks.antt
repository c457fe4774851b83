-- The groups of a world, as blocks of its text.
use Rattle.std.proofs.Common.{◌≡◌, ◌+◌, ◌/◌, ◌%◌, ◌<◌, ◌≤◌, ◌==◌, ◌^◌, ◌++◌, if◌then◌else◌, Bool, true, false, codes, pos, List, [], ◌∷◌, ℕ, zero, suc, refl, ap, arith}
use Rattle.std.specs.Fmt.{decimal}
use Rattle.toml.specs.Data.{array, integer, Items, string}
use Rattle.toml.specs.Tables.{array_table, key_value, Expression}
use Rattle.toml.specs.Text.{are_tables, has_items, IsItemsText, IsLinesText, IsLineText}
use Rattle.toml_parser.specs.Strings.{Key}
use Rattle.big_world.specs.Numbers.{behind, draw}
use Rattle.big_world.specs.Topology.{block_text, demand_line, entry_text, group_name, group_text, length_at, line, listed_pool, name_line, name_of_pool, pools_line, pools_of, pools_text, prefixes_line, prefixes_text, quoted, score_at, scores_line, scores_text}
use Rattle.big_world.specs.World.{array_of, entry_data, group_data, pools_data, prefixes_data, scores_data}
use Rattle.big_world.proofs.Blocks.{five_joined, header_line, IsBlock, lines_text, pair, pair_line}
use Rattle.big_world.proofs.NodeBlocks.{name_pair, pool_plain}
use Rattle.big_world.proofs.Plain.{AllPass, AllPass-append, is_plain, with_number}
use Rattle.big_world.proofs.Values.{array_value, draw_below, listed_value, number_value, string_value}

abbrev pub group_key : Key
group_key = ([], codes "group")

pub group_plain : (i : ℕ) → AllPass is_plain (group_name i)
group_plain i = with_number [] (codes "g") i refl refl

pub block_plain : (i : ℕ) → AllPass is_plain (block_text i)
block_plain i =
    let first = codes "100." ++ decimal (64 + i / 256) in
    let second = first ++ codes "." ++ decimal (i % 256) in
    let first_plain = with_number [] (codes "100.") (64 + i / 256) refl refl in
    let second_plain = with_number first (codes ".") (i % 256) first_plain refl in
    AllPass-append is_plain second (codes ".0/24") second_plain refl

-- an array stands on a line of its own where it has items and these are no tables
abbrev pub IsInline : Items → Type 0
IsInline ds = (has_items ds ≡ true) × (are_tables ds ≡ false)

pools_inline : (n s length : ℕ) → 1 ≤ length → IsInline (array_of (pools_data n s length))
pools_inline n s zero h = absurd (omega arith)
pools_inline n s (suc k) h = (refl, refl)

scores_inline : (x length : ℕ) → 1 ≤ length → IsInline (array_of (scores_data x length))
scores_inline x zero h = absurd (omega arith)
scores_inline x (suc k) h = (refl, refl)

prefixes_inline : (i : ℕ) → IsInline (array_of (prefixes_data i))
unfolding prefixes_data
prefixes_inline i = by (i == 0)
  where
    by : (b : Bool) → IsInline (array_of (if b then string (codes "0.0.0.0/0") ∷ string (codes "::/0") ∷ [] else string (block_text i) ∷ []))
    by true = (refl, refl)
    by false = (refl, refl)

-- the lines of a group
demand_pair : (demand : ℕ) → demand < 2 ^ 63 → IsLineText false true ([], codes "demand") (key_value (integer (pos demand))) (demand_line demand)
unfolding demand_line
demand_pair demand small = pair_line (codes "demand") (integer (pos demand)) (decimal demand) refl (number_value demand small)

pools_pair : (n s length : ℕ) → IsLineText false true ([], codes "pools") (key_value (array (array_of (pools_data n s length)))) (pools_line n s length)
unfolding pools_line pools_text
pools_pair n s length =
    let value = listed_value (λ t. string (name_of_pool (listed_pool n s t))) (λ t. quoted (name_of_pool (listed_pool n s t)))
    (λ t. let q = listed_pool n s t in string_value (name_of_pool q) (pool_plain (q / 4) (q % 4))) length in
    pair_line (codes "pools") (array (array_of (pools_data n s length))) (91 ∷ (pools_text n s length ++ 93 ∷ [])) refl value

scores_pair : (x length : ℕ) → IsLineText false true ([], codes "scores") (key_value (array (array_of (scores_data x length)))) (scores_line x length)
unfolding scores_line scores_text
scores_pair x length =
    let value = listed_value (λ t. integer (pos (score_at x t))) (λ t. decimal (score_at x t))
    (λ t. number_value (score_at x t) (omega (arith, draw_below x (1 + t) 1000 (omega arith)))) length in
    pair_line (codes "scores") (array (array_of (scores_data x length))) (91 ∷ (scores_text x length ++ 93 ∷ [])) refl value

prefixes_items : (i : ℕ) → IsItemsText false false true (array_of (prefixes_data i)) (prefixes_text i ++ 93 ∷ [])
unfolding prefixes_data prefixes_text
prefixes_items i = by (i == 0)
  where
    by : (b : Bool) → IsItemsText false false true (array_of (if b then string (codes "0.0.0.0/0") ∷ string (codes "::/0") ∷ [] else string (block_text i) ∷ []))
        ((if b then codes "\"0.0.0.0/0\", \"::/0\"" else quoted (block_text i)) ++ 93 ∷ [])
    by true = (quoted (codes "0.0.0.0/0"), codes ", \"::/0\"]", refl, string_value (codes "0.0.0.0/0") refl, (quoted (codes "::/0"), codes "]", refl, string_value (codes "::/0") refl, refl))
    by false = (quoted (block_text i), codes "]", refl, string_value (block_text i) (block_plain i), refl)

prefixes_pair : (i : ℕ) → IsLineText false true ([], codes "prefixes") (key_value (array (array_of (prefixes_data i)))) (prefixes_line i)
unfolding prefixes_line
prefixes_pair i =
    let ds = array_of (prefixes_data i) in
    let items = prefixes_text i ++ 93 ∷ [] in
    pair_line (codes "prefixes") (array ds) (91 ∷ items) refl (array_value ds items (prefixes_items i))

entry_block : (n i demand s length x : ℕ) → demand < 2 ^ 63 → 1 ≤ length → IsBlock group_key (entry_data n i demand s length x) (entry_text n i demand s length x)
unfolding entry_data entry_text
entry_block n i demand s length x small some =
    let header = codes "\n[[group]]\n" in
    let first = demand_line demand in
    let second = name_line (group_name i) in
    let third = pools_line n s length in
    let fourth = prefixes_line i in
    let last = scores_line x length in
    let pools = pools_inline n s length some in
    let prefixes = prefixes_inline i in
    let scores = scores_inline x length some in
    let lines = line (codes "[[group]]") ++ first ++ second ++ third ++ fourth ++ last in
    let es : List Expression =
    (group_key, array_table)
    ∷ pair (codes "demand") (integer (pos demand))
    ∷ pair (codes "name") (string (group_name i))
    ∷ pair (codes "pools") (array (array_of (pools_data n s length)))
    ∷ pair (codes "prefixes") (array (array_of (prefixes_data i)))
    ∷ pair (codes "scores") (array (array_of (scores_data x length)))
    ∷ [] in
    let written : IsLinesText false true es (10 ∷ lines) =
    lines_text es (header ∷ first ∷ second ∷ third ∷ fourth ∷ last ∷ []) (10 ∷ lines) (ap (λ t. header ++ t) (five_joined first second third fourth last))
    (header_line (codes "group") refl, (demand_pair demand small, (name_pair (group_name i) (group_plain i), (pools_pair n s length, (prefixes_pair i, (scores_pair x length, tt)))))) in
    (_, lines, refl, refl, rw (pools.0, pools.1, prefixes.0, prefixes.1, scores.0, scores.1) written)

pub group_block : (n i x : ℕ) → IsBlock group_key (group_data n i x) (group_text n i x)
unfolding group_data group_text
group_block n i x = entry_block n i (1 + draw x 1 15) (draw x 3 (pools_of n)) (length_at n x) (behind x 3) (omega (arith, draw_below x 1 15 (omega arith))) (omega arith)
