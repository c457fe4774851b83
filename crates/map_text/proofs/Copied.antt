-- Copies of words into a row, and rows that are put together word by word.
use Rattle.std.proofs.Common.{◌≡◌, ℕ, ◌+◌, ◌<◌, ◌≤◌, ◌&&◌, nat_le, IsTrue, List, [], ◌∷◌, ◌++◌, length, take, set, refl, sym, ap, ◌∙◌, arith, append_assoc, length-take-le, take-add, take-take, take_at, drop_at}
use Rattle.std.proofs.lemmas.Bool.{and_parts}
use Rattle.std.proofs.lemmas.Bool.Decides.{nat_tests}
use Rattle.std.proofs.lemmas.List.{take_more_set}
use Rattle.std.proofs.lemmas.Slice.{take-put_mid}
use Rattle.std.specs.List.{list_all}
use borrow.Rule.Slice.PartMut.{put_mid}
use Rattle.topology_text.specs.Texts.{is_name, is_name_byte}
use Rattle.map_text.specs.Writing.{ended, four, three}

-- of octets that were copied to a place, the first ones stand behind what stood before it
pub put_front : (a k : ℕ) (xs ys : List ℕ) (n : ℕ) → n ≤ length ys → a ≤ length xs → take (a + n) (put_mid a k xs ys) ≡ take a xs ++ take n ys
put_front a k xs ys n few within =
    let front = length-take-le a xs within in
    sym (take-take (a + n) (a + length ys) (put_mid a k xs ys) (omega arith)) ∙ ap (take (a + n)) (take-put_mid a k xs ys (a + length ys) refl within)
    ∙ take-add a n (take a xs ++ ys) ∙ (λ i. take_at (take a xs) ys a front i ++ take n (drop_at (take a xs) ys a front i))

-- an octet that is written behind the first ones comes behind them
pub front_set : (xs front : List ℕ) (at b : ℕ) → at < length xs → take at xs ≡ front → take (at + 1) (set xs at b) ≡ front ++ b ∷ []
front_set xs front at b within is = take_more_set xs at b within ∙ ap (λ ys. ys ++ b ∷ []) is

-- a word behind a row with a space
behind : (row was word : List ℕ) → row ≡ was ++ 32 ∷ [] → row ++ word ≡ was ++ 32 ∷ word
behind row was word is = ap (λ xs. xs ++ word) is ∙ append_assoc was (32 ∷ []) word

-- four words, one after another
pub row_four : (k g p l a b c d : List ℕ) → a ≡ k ++ 32 ∷ [] → b ≡ (a ++ g) ++ 32 ∷ [] → c ≡ (b ++ p) ++ 32 ∷ [] → d ≡ (c ++ l) ++ 10 ∷ [] → d ≡ ended (four k g p l)
row_four k g p l a b c d first second third fourth =
    let two : b ≡ (k ++ 32 ∷ g) ++ 32 ∷ [] = second ∙ ap (λ xs. xs ++ 32 ∷ []) (behind a k g first) in
    let three : c ≡ ((k ++ 32 ∷ g) ++ 32 ∷ p) ++ 32 ∷ [] = third ∙ ap (λ xs. xs ++ 32 ∷ []) (behind b (k ++ 32 ∷ g) p two) in
    fourth ∙ ap (λ xs. xs ++ 10 ∷ []) (behind c ((k ++ 32 ∷ g) ++ 32 ∷ p) l three)

-- and three
pub row_three : (k g p a b c : List ℕ) → a ≡ k ++ 32 ∷ [] → b ≡ (a ++ g) ++ 32 ∷ [] → c ≡ (b ++ p) ++ 10 ∷ [] → c ≡ ended (three k g p)
row_three k g p a b c first second third =
    let two : b ≡ (k ++ 32 ∷ g) ++ 32 ∷ [] = second ∙ ap (λ xs. xs ++ 32 ∷ []) (behind a k g first) in
    third ∙ ap (λ xs. xs ++ 10 ∷ []) (behind b (k ++ 32 ∷ g) p two)

-- a name fits into a word
pub short_name : (name : List ℕ) → IsTrue (is_name name) → length name ≤ 32
short_name name is =
    let p = and_parts (nat_le 1 (length name) && nat_le (length name) 32) (list_all is_name_byte name) is in
    let q = and_parts (nat_le 1 (length name)) (nat_le (length name) 32) p.0 in
    grind (arith, nat_tests)
