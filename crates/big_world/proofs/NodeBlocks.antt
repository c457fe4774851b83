-- The nodes of a world, as blocks of its text.
use Rattle.std.proofs.Common.{◌+◌, ◌-◌, ◌/◌, ◌%◌, ◌<◌, ◌==◌, ◌^◌, ◌++◌, if◌then◌else◌, Bool, true, false, codes, pos, List, [], ◌∷◌, ℕ, refl, ap, arith}
use Rattle.std.specs.Fmt.{decimal}
use Rattle.toml.specs.Data.{array, boolean, integer, string, item, no_items}
use Rattle.toml.specs.Tables.{array_table, key_value, Expression}
use Rattle.toml.specs.Text.{IsLineText}
use Rattle.toml_parser.specs.Strings.{Key}
use Rattle.big_world.specs.Numbers.{draw}
use Rattle.big_world.specs.Topology.{address_line, capacity_line, capacity_of, host_text, name_line, node_text, parent_line, pool_name, pool_text, quoted, region_name, region_text, line}
use Rattle.big_world.specs.World.{node_data, pool_data, region_data}
use Rattle.big_world.proofs.Blocks.{five_joined, header_line, IsBlock, lines_text, pair, pair_line, two_joined}
use Rattle.big_world.proofs.Plain.{AllPass, is_plain, with_number}
use Rattle.big_world.proofs.Values.{array_value, draw_below, number_value, string_value}

capacity_small : (p x : ℕ) → capacity_of p x < 80
unfolding capacity_of
capacity_small p x = by (p % 5 == 0)
  where
    by : (b : Bool) → (if b then 40 + draw x 1 40 else 10 + draw x 1 20) < 80
    by true = omega (arith, draw_below x 1 40 (omega arith))
    by false = omega (arith, draw_below x 1 20 (omega arith))

-- plain names
pub region_plain : (i : ℕ) → AllPass is_plain (region_name i)
region_plain i = with_number [] (codes "r") i refl refl

pub pool_plain : (i j : ℕ) → AllPass is_plain (pool_name i j)
pool_plain i j = with_number (region_name i) (codes "-") j (region_plain i) refl

pub host_plain : (i j : ℕ) → AllPass is_plain (host_text i j)
host_plain i j =
    let first = codes "10." ++ decimal (i / 256) in
    let second = first ++ codes "." ++ decimal (i % 256) in
    let first_plain = with_number [] (codes "10.") (i / 256) refl refl in
    let second_plain = with_number first (codes ".") (i % 256) first_plain refl in
    with_number second (codes ".") (j + 1) second_plain refl

abbrev pub node_key : Key
node_key = ([], codes "node")

-- the lines that nodes have
capacity_pair : (capacity : ℕ) → capacity < 2 ^ 63 → IsLineText false true ([], codes "capacity") (key_value (integer (pos capacity))) (capacity_line capacity)
unfolding capacity_line
capacity_pair capacity small = pair_line (codes "capacity") (integer (pos capacity)) (decimal capacity) refl (number_value capacity small)

pub name_pair : (name : List ℕ) → AllPass is_plain name → IsLineText false true ([], codes "name") (key_value (string name)) (name_line name)
unfolding name_line
name_pair name plain = pair_line (codes "name") (string name) (quoted name) refl (string_value name plain)

parent_pair : (i : ℕ) → IsLineText false true ([], codes "parent") (key_value (string (region_name i))) (parent_line i)
unfolding parent_line
parent_pair i = pair_line (codes "parent") (string (region_name i)) (quoted (region_name i)) refl (string_value (region_name i) (region_plain i))

address_pair : (i j : ℕ) → IsLineText false true ([], codes "a") (key_value (array (item (string (host_text i j)) no_items))) (address_line i j)
unfolding address_line
address_pair i j =
    let host = quoted (host_text i j) in
    let value = array_value (item (string (host_text i j)) no_items) (host ++ 93 ∷ []) (host, 93 ∷ [], refl, string_value (host_text i j) (host_plain i j), refl) in
    pair_line (codes "a") (array (item (string (host_text i j)) no_items)) (91 ∷ (host ++ 93 ∷ [])) refl value

region_block : (i capacity : ℕ) → capacity < 2 ^ 63 → IsBlock node_key (region_data i capacity) (region_text i capacity)
unfolding region_data region_text
region_block i capacity small =
    let header = codes "\n[[node]]\n" in
    let first = capacity_line capacity in
    let last = name_line (region_name i) in
    let lines = line (codes "[[node]]") ++ first ++ last in
    let es : List Expression = (node_key, array_table) ∷ pair (codes "capacity") (integer (pos capacity)) ∷ pair (codes "name") (string (region_name i)) ∷ [] in (
      _,
      lines,
      refl,
      refl,
      lines_text es (header ∷ first ∷ last ∷ []) (10 ∷ lines) (ap (λ t. header ++ t) (two_joined first last))
          (header_line (codes "node") refl, (capacity_pair capacity small, (name_pair (region_name i) (region_plain i), tt))),
    )

pool_block : (i j capacity : ℕ) → capacity < 2 ^ 63 → IsBlock node_key (pool_data i j capacity) (pool_text i j capacity)
unfolding pool_data pool_text
pool_block i j capacity small =
    let header = codes "\n[[node]]\n" in
    let first = address_line i j in
    let second = capacity_line capacity in
    let third = name_line (pool_name i j) in
    let fourth = parent_line i in
    let last = line (codes "pool = true") in
    let lines = line (codes "[[node]]") ++ first ++ second ++ third ++ fourth ++ last in
    let flag : IsLineText false true ([], codes "pool") (key_value (boolean true)) last = pair_line (codes "pool") (boolean true) (codes "true") refl refl in
    let es : List Expression =
    (node_key, array_table)
    ∷ pair (codes "a") (array (item (string (host_text i j)) no_items))
    ∷ pair (codes "capacity") (integer (pos capacity))
    ∷ pair (codes "name") (string (pool_name i j))
    ∷ pair (codes "parent") (string (region_name i))
    ∷ pair (codes "pool") (boolean true)
    ∷ [] in (
      _,
      lines,
      refl,
      refl,
      lines_text es (header ∷ first ∷ second ∷ third ∷ fourth ∷ last ∷ []) (10 ∷ lines) (ap (λ t. header ++ t) (five_joined first second third fourth last))
          (header_line (codes "node") refl, (address_pair i j, (capacity_pair capacity small, (name_pair (pool_name i j) (pool_plain i j), (parent_pair i, (flag, tt)))))),
    )

pub node_block : (p x : ℕ) → IsBlock node_key (node_data p x) (node_text p x)
unfolding node_data node_text
node_block p x = by (p % 5 == 0)
  where
    small : capacity_of p x < 2 ^ 63
    small = omega (arith, capacity_small p x)

    by : (b : Bool) → IsBlock node_key (if b then region_data (p / 5) (capacity_of p x) else pool_data (p / 5) (p % 5 - 1) (capacity_of p x)) (if b then region_text (p / 5) (capacity_of p x) else pool_text (p / 5) (p % 5 - 1) (capacity_of p x))
    by true = region_block (p / 5) (capacity_of p x) small
    by false = pool_block (p / 5) (p % 5 - 1) (capacity_of p x) small
