-- What the values of a world are written as.
use Rattle.std.proofs.Common.{◌≡◌, ◌+◌, ◌<◌, ◌==◌, ◌^◌, ◌++◌, if◌then◌else◌, true, false, pos, List, [], ◌∷◌, map, ℕ, zero, suc, refl, sym, ◌∙◌, arith, append_assoc, ne_eqb}
use Rattle.std.specs.Fmt.{decimal}
use Rattle.std.specs.List.{range_with_len}
use Rattle.toml.specs.Data.{Data, array, integer, string, Items, no_items, item}
use Rattle.toml.specs.Text.{breaks_lines, IsItemsText, IsValueText}
use Rattle.big_world.specs.Numbers.{draw}
use Rattle.big_world.specs.Pieces.{listed}
use Rattle.big_world.specs.Topology.{quoted}
use Rattle.big_world.specs.World.{array_of}
use Rattle.big_world.proofs.Joined.{joined, texts_below_joined}
use Rattle.big_world.proofs.Plain.{AllPass, is_plain, string_plain}

-- a draw is below its bound
pub draw_below : (x k m : ℕ) → 0 < m → draw x k m < m
unfolding draw
draw_below x k m h = omega arith

pub string_value : (s : List ℕ) → AllPass is_plain s → IsValueText false (string s) (quoted s)
string_value s h = sym (string_plain s h)

pub number_value : (m : ℕ) → m < 2 ^ 63 → IsValueText false (integer (pos m)) (decimal m)
number_value m h = (refl, record { sfits = h })

keeps_lines : (ds : Items) → breaks_lines false ds ≡ false
keeps_lines no_items = refl
keeps_lines (item d no_items) = refl
keeps_lines (item d (item e ds)) = refl

-- an array on one line
pub array_value : (ds : Items) (items : List ℕ) → IsItemsText false false true ds items → IsValueText false (array ds) (91 ∷ items)
array_value ds items text = (items, refl, rw (keeps_lines ds) text)

module _ (data_at : ℕ → Data) (text_at : ℕ → List ℕ) (values : (t : ℕ) → IsValueText false (data_at t) (text_at t)) where
  items_text : (a k : ℕ) → IsItemsText false false (a == 0) (array_of (map data_at (range_with_len a k))) (joined (λ t. (if t == 0 then [] else (44 ∷ 32 ∷ [])) ++ text_at t) a k ++ 93 ∷ [])
  items_text a zero = refl
  items_text a (suc k) =
      let ahead : List ℕ = if a == 0 then [] else (44 ∷ 32 ∷ []) in
      let rest = joined (λ t. (if t == 0 then [] else (44 ∷ 32 ∷ [])) ++ text_at t) (a + 1) k in
      let later : (a + 1 == 0) ≡ false = ne_eqb (a + 1) 0 (λ e. omega arith) in
      (text_at a, rest ++ 93 ∷ [], append_assoc (ahead ++ text_at a) rest (93 ∷ []) ∙ append_assoc ahead (text_at a) (rest ++ 93 ∷ []), values a, rw later at (items_text (a + 1) k))

  pub listed_value : (k : ℕ) → IsValueText false (array (array_of (map data_at (range_with_len 0 k)))) (91 ∷ (listed text_at k ++ 93 ∷ []))
  listed_value k = array_value _ _ (rw (texts_below_joined (λ t. (if t == 0 then [] else (44 ∷ 32 ∷ [])) ++ text_at t) k) (items_text 0 k))
