-- Texts in lines, lines in words, and what each line of a feed says.
use Rattle.std.proofs.Common.{◌≡◌, ℕ, ◌+◌, ◌<◌, ◌≤◌, ◌==◌, ◌&&◌, Bool, true, false, not, cond, nat_le, List, [], ◌∷◌, ◌++◌, length, append_assoc, length-append, codes, refl, ap, sym, subst, ◌∙◌, arith}
use Rattle.std.specs.Prelude.{Some, Ok, Err}
use Rattle.std.proofs.lemmas.Bool.{and_from, and_parts, ne_eqb}
use Rattle.std.proofs.lemmas.Bool.Decides.{nat_tests}
use Rattle.std.proofs.lemmas.Fmt.{decimal_is_IsNumeral}
use Rattle.std.proofs.lemmas.List.Folds.{list_all-append}
use Rattle.std.specs.Char.{is_ascii_digit}
use Rattle.std.specs.Fmt.{decimal}
use Rattle.std.specs.List.{AllByRecursion, filter, list_all}
use Rattle.std.specs.Str.Parse.{digits_value}
use Rattle.addr_text.proofs.Splits.{Lacks, lacks-append, split_alone, split_part}
use Rattle.text_parts.specs.Parts.{whole_lines}
use Rattle.text_parts.proofs.Lines.{nothing_whole, whole_first}
use Rattle.big_world.specs.Topology.{group_name, pool_name, region_name}
use Rattle.demand_feed.specs.Limits.{longest_line}
use Rattle.demand_feed.specs.Line.{Said, by_word, by_words, capacity, change_of, commit, demand, is_number, is_visible, line_of, stop, words_of}
use Rattle.demand_feed.specs.declared.fault.LineFault.TheVariants.{BadByte, BadNumber, TooLong}
use Rattle.big_world_read.proofs.Decimals.{decimal_five, decimal_passes, decimal_some}

-- some texts, each followed by LF
abbrev pub ended : List (List ℕ) → List ℕ
ended [] = []
ended (line ∷ lines) = line ++ 10 ∷ ended lines

pub ended-append : (lines more : List (List ℕ)) → ended (lines ++ more) ≡ ended lines ++ ended more
ended-append [] more = refl
ended-append (line ∷ lines) more = ap (λ text. line ++ 10 ∷ text) (ended-append lines more) ∙ sym (append_assoc line (10 ∷ ended lines) (ended more))

-- the lines of these texts, each followed by LF, are these texts, where none of them has an LF
pub whole_lines-ended : (lines : List (List ℕ)) → AllByRecursion (Lacks 10) lines → whole_lines (ended lines) ≡ lines
whole_lines-ended [] are = nothing_whole
whole_lines-ended (line ∷ lines) are =
    whole_first (ended (line ∷ lines)) line (ended lines) (split_part 10 line (ended lines) are.0) ∙ ap (λ ls. line ∷ ls) (whole_lines-ended lines are.1)

-- a text that is not empty
is_some : (word : List ℕ) → 1 ≤ length word → (length word == 0) ≡ false
is_some word some = ne_eqb (length word) 0 (λ e. omega arith)

next_word : (word behind : List ℕ) → 1 ≤ length word → Lacks 32 word → words_of (word ++ 32 ∷ behind) ≡ word ∷ words_of behind
next_word word behind some lacks =
    ap (filter (λ word. not (length word == 0))) (split_part 32 word behind lacks)
    ∙ ap (λ b. cond (not b) (word ∷ words_of behind) (words_of behind)) (is_some word some)

-- the words of a line of one word, and of three
pub words_of_one : (word : List ℕ) → 1 ≤ length word → Lacks 32 word → words_of word ≡ word ∷ []
words_of_one word some lacks =
    ap (filter (λ word. not (length word == 0))) (split_alone 32 word lacks) ∙ ap (λ b. cond (not b) (word ∷ []) []) (is_some word some)

pub words_of_three : (a b c : List ℕ) → 1 ≤ length a → 1 ≤ length b → 1 ≤ length c → Lacks 32 a → Lacks 32 b → Lacks 32 c → words_of (a ++ 32 ∷ b ++ 32 ∷ c) ≡ a ∷ b ∷ c ∷ []
words_of_three a b c some_a some_b some_c lacks_a lacks_b lacks_c =
    ap words_of (append_assoc a (32 ∷ b) (32 ∷ c)) ∙ next_word a (b ++ 32 ∷ c) some_a lacks_a ∙ ap (λ ws. a ∷ ws) (next_word b c some_b lacks_b ∙ ap (λ ws. b ∷ ws) (words_of_one c some_c lacks_c))

-- a visible octet other than space
abbrev pub is_graphic : ℕ → Bool
is_graphic b = nat_le 33 b && nat_le b 126

-- a word of at most that many graphic octets
pub record IsWord (most : ℕ) (word : List ℕ) : Type 0 where
  pub some : 1 ≤ length word
  pub short : length word ≤ most
  pub graphic : list_all is_graphic word ≡ true

graphic_lacks : (c : ℕ) (word : List ℕ) → c ≤ 32 → list_all is_graphic word ≡ true → Lacks c word
graphic_lacks c [] low all = tt
graphic_lacks c (b ∷ bs) low all =
    let both = and_parts (is_graphic b) (list_all is_graphic bs) all in
    let apart : (b == c) ≡ false = grind (arith, nat_tests, both.0) in
    (apart, graphic_lacks c bs low both.1)

graphic_visible : (word : List ℕ) → list_all is_graphic word ≡ true → list_all is_visible word ≡ true
graphic_visible [] all = refl
graphic_visible (b ∷ bs) all =
    let both = and_parts (is_graphic b) (list_all is_graphic bs) all in
    let here : is_visible b ≡ true = grind (arith, nat_tests, both.0) in
    and_from (is_visible b) (list_all is_visible bs) here (graphic_visible bs both.1)

-- a word has no space and no LF
pub no_space : (most : ℕ) (word : List ℕ) → IsWord most word → Lacks 32 word
no_space most word is = graphic_lacks 32 word (omega arith) is.graphic

pub no_lf : (most : ℕ) (word : List ℕ) → IsWord most word → Lacks 10 word
no_lf most word is = graphic_lacks 10 word (omega arith) is.graphic

-- two words as one
pub word-append : (i j : ℕ) (a b : List ℕ) → IsWord i a → IsWord j b → IsWord (i + j) (a ++ b)
word-append i j a b left right = record {
  some = omega (arith, length-append a b, left.some);
  short = omega (arith, length-append a b, left.short, right.short);
  graphic = list_all-append is_graphic a b ∙ and_from (list_all is_graphic a) (list_all is_graphic b) left.graphic right.graphic;
}

-- a number of at most five digits, and its value
pub decimal_word : (n : ℕ) → n < 100000 → IsWord 5 (decimal n)
decimal_word n low = record {
  some = decimal_some n (omega arith);
  short = decimal_five n low;
  graphic = decimal_passes is_graphic (λ d h. grind (arith, nat_tests)) n (omega arith);
}

pub decimal_value : (n : ℕ) → n < 100000 → digits_value 10 (decimal n) ≡ n
decimal_value n low = (decimal_is_IsNumeral n (omega arith)).1

decimal_number : (n : ℕ) → n < 100000 → is_number (decimal n) ≡ true
decimal_number n low =
    let word = decimal_word n low in
    let some : nat_le 1 (length (decimal n)) ≡ true = grind (arith, nat_tests, word.some) in
    let few : nat_le (length (decimal n)) 19 ≡ true = grind (arith, nat_tests, word.short) in
    and_from (nat_le 1 (length (decimal n)) && nat_le (length (decimal n)) 19) (list_all is_ascii_digit (decimal n)) (and_from (nat_le 1 (length (decimal n))) (nat_le (length (decimal n)) 19) some few) (decimal_passes is_ascii_digit (λ d h. grind (arith, nat_tests)) n (omega arith))

-- the names of groups and pools
pub group_word : (i : ℕ) → i < 100000 → IsWord 6 (group_name i)
group_word i low = word-append 1 5 (codes "g") (decimal i) (record { some = omega arith; short = omega arith; graphic = refl }) (decimal_word i low)

pub pool_word : (i j : ℕ) → i < 100000 → j < 100000 → IsWord 12 (pool_name i j)
pool_word i j low_i low_j =
    let region = word-append 1 5 (codes "r") (decimal i) (record { some = omega arith; short = omega arith; graphic = refl }) (decimal_word i low_i) in
    let dashed = word-append 6 1 (region_name i) (codes "-") region (record { some = omega arith; short = omega arith; graphic = refl }) in
    word-append 7 5 (region_name i ++ codes "-") (decimal j) dashed (decimal_word j low_j)

line_is : (line : List ℕ) → line_of line ≡ cond (not (nat_le (length line) longest_line)) (Err TooLong) (cond (not (list_all is_visible line)) (Err BadByte) (by_words (words_of line)))
line_is line = unfold line_of in refl

-- a line that is short and visible
line_by : (line : List ℕ) → length line ≤ 8300 → list_all is_visible line ≡ true → line_of line ≡ by_words (words_of line)
line_by line short visible =
    let few : nat_le (length line) longest_line ≡ true = grind (arith, nat_tests) in
    line_is line
    ∙ ap (λ b. cond (not b) (Err TooLong) (cond (not (list_all is_visible line)) (Err BadByte) (by_words (words_of line)))) few
    ∙ ap (λ b. cond (not b) (Err BadByte) (by_words (words_of line))) visible

-- a line of one word, and of three
pub line_of_one : (most : ℕ) (word : List ℕ) → IsWord most word → most ≤ 8300 → line_of word ≡ by_word word []
line_of_one most word is few =
    line_by word (omega (arith, is.short)) (graphic_visible word is.graphic) ∙ ap by_words (words_of_one word is.some (no_space most word is))

visible_three : (a b c : List ℕ) → list_all is_graphic a ≡ true → list_all is_graphic b ≡ true → list_all is_graphic c ≡ true → list_all is_visible (a ++ 32 ∷ b ++ 32 ∷ c) ≡ true
visible_three a b c all_a all_b all_c =
    let front = list_all-append is_visible a (32 ∷ b) ∙ and_from (list_all is_visible a) (list_all is_visible b) (graphic_visible a all_a) (graphic_visible b all_b) in
    list_all-append is_visible (a ++ 32 ∷ b) (32 ∷ c) ∙ and_from (list_all is_visible (a ++ 32 ∷ b)) (list_all is_visible c) front (graphic_visible c all_c)

length_three : (a b c : List ℕ) → length (a ++ 32 ∷ b ++ 32 ∷ c) ≡ length a + length b + length c + 2
length_three a b c = omega (arith, length-append (a ++ 32 ∷ b) (32 ∷ c), length-append a (32 ∷ b))

pub line_of_three : (i j k : ℕ) (a b c : List ℕ) → IsWord i a → IsWord j b → IsWord k c → i + j + k ≤ 8298 → line_of (a ++ 32 ∷ b ++ 32 ∷ c) ≡ by_word a (b ∷ c ∷ [])
line_of_three i j k a b c is_a is_b is_c few =
    line_by (a ++ 32 ∷ b ++ 32 ∷ c) (omega (arith, length_three a b c, is_a.short, is_b.short, is_c.short)) (visible_three a b c is_a.graphic is_b.graphic is_c.graphic)
    ∙ ap by_words (words_of_three a b c is_a.some is_b.some is_c.some (no_space i a is_a) (no_space j b is_b) (no_space k c is_c))

lacks_three : (a b c : List ℕ) → Lacks 10 a → Lacks 10 b → Lacks 10 c → Lacks 10 (a ++ 32 ∷ b ++ 32 ∷ c)
lacks_three a b c lacks_a lacks_b lacks_c = lacks-append 10 (a ++ 32 ∷ b) (32 ∷ c) (lacks-append 10 a (32 ∷ b) lacks_a (refl, lacks_b)) (refl, lacks_c)

-- a name and a number of at most five digits
said_number : (said : List ℕ → ℕ → Said) (name : List ℕ) (n : ℕ) → n < 100000 → change_of said (Some (name, decimal n)) ≡ Ok (said name n)
said_number said name n low =
    ap (λ b. cond b (Ok (said name (digits_value 10 (decimal n)))) (Err BadNumber)) (decimal_number n low) ∙ ap (λ (v : ℕ). Ok (said name v)) (decimal_value n low)

demand_is_word : IsWord 6 (codes "demand")
demand_is_word = record { some = omega arith; short = omega arith; graphic = refl }

capacity_is_word : IsWord 8 (codes "capacity")
capacity_is_word = record { some = omega arith; short = omega arith; graphic = refl }

-- another demand of a group
abbrev pub demand_line : ℕ → ℕ → List ℕ
demand_line a b = codes "demand g" ++ decimal a ++ codes " " ++ decimal b

demand_in_three : (a b : ℕ) → demand_line a b ≡ codes "demand" ++ 32 ∷ group_name a ++ 32 ∷ decimal b
demand_in_three a b = append_assoc (codes "demand g" ++ decimal a) (codes " ") (decimal b)

pub demand_says : (a b : ℕ) → a < 100000 → b < 100000 → line_of (codes "demand g" ++ decimal a ++ codes " " ++ decimal b) ≡ Ok (demand (group_name a) b)
demand_says a b low_a low_b =
    ap line_of (demand_in_three a b) ∙ line_of_three 6 6 5 (codes "demand") (group_name a) (decimal b) demand_is_word (group_word a low_a) (decimal_word b low_b) (omega arith) ∙ said_number demand (group_name a) b low_b

pub demand_lacks : (a b : ℕ) → a < 100000 → b < 100000 → Lacks 10 (demand_line a b)
demand_lacks a b low_a low_b =
    subst (Lacks 10) (sym (demand_in_three a b)) (lacks_three (codes "demand") (group_name a) (decimal b) (no_lf 6 (codes "demand") demand_is_word) (no_lf 6 (group_name a) (group_word a low_a)) (no_lf 5 (decimal b) (decimal_word b low_b)))

-- another capacity of a pool
abbrev pub capacity_line : ℕ → ℕ → ℕ → List ℕ
capacity_line i j c = codes "capacity " ++ pool_name i j ++ codes " " ++ decimal c

capacity_in_three : (i j c : ℕ) → capacity_line i j c ≡ codes "capacity" ++ 32 ∷ pool_name i j ++ 32 ∷ decimal c
capacity_in_three i j c = append_assoc (codes "capacity " ++ pool_name i j) (codes " ") (decimal c)

pub capacity_says : (i j c : ℕ) → i < 100000 → j < 100000 → c < 100000 → line_of (codes "capacity " ++ pool_name i j ++ codes " " ++ decimal c) ≡ Ok (capacity (pool_name i j) c)
capacity_says i j c low_i low_j low_c =
    ap line_of (capacity_in_three i j c) ∙ line_of_three 8 12 5 (codes "capacity") (pool_name i j) (decimal c) capacity_is_word (pool_word i j low_i low_j) (decimal_word c low_c) (omega arith) ∙ said_number capacity (pool_name i j) c low_c

pub capacity_lacks : (i j c : ℕ) → i < 100000 → j < 100000 → c < 100000 → Lacks 10 (capacity_line i j c)
capacity_lacks i j c low_i low_j low_c =
    subst (Lacks 10) (sym (capacity_in_three i j c)) (lacks_three (codes "capacity") (pool_name i j) (decimal c) (no_lf 8 (codes "capacity") capacity_is_word) (no_lf 12 (pool_name i j) (pool_word i j low_i low_j)) (no_lf 5 (decimal c) (decimal_word c low_c)))

-- a word that is a line: what it says, and that no LF is in it
pub record IsSaid (word : List ℕ) (said : Said) : Type 0 where
  pub says : line_of word ≡ Ok said
  pub lacks : Lacks 10 word

one_said : (most : ℕ) (word : List ℕ) (said : Said) → IsWord most word → most ≤ 8300 → by_word word [] ≡ Ok said → IsSaid word said
one_said most word said is few by = record { says = line_of_one most word is few ∙ by; lacks = no_lf most word is }

-- the end of a batch, and of the feed
pub commit_said : IsSaid (codes "commit") commit
commit_said = one_said 6 (codes "commit") commit (record { some = omega arith; short = omega arith; graphic = refl }) (omega arith) refl

pub stop_said : IsSaid (codes "stop") stop
stop_said = one_said 4 (codes "stop") stop (record { some = omega arith; short = omega arith; graphic = refl }) (omega arith) refl
