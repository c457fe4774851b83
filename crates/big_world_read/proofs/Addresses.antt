-- The addresses and the prefixes of a big world's topology, as they are read.
use Rattle.std.proofs.Common.{◌≡◌, ℕ, ◌+◌, ◌*◌, ◌/◌, ◌%◌, ◌<◌, ◌≤◌, ◌^◌, ◌==◌, Bool, true, false, not, cond, nat_lt, List, [], ◌∷◌, ◌++◌, length, map, take, drop, Option, None, Some, option_map, codes, refl, ap, sym, ◌∙◌, arith, append_assoc}
use Rattle.std.proofs.lemmas.Bool.Decides.{nat_tests}
use Rattle.std.proofs.lemmas.Fmt.{decimal_by_steps, decimal_digit, decimal_step}
use Rattle.std.proofs.Math.Seq.{take-append_seam, drop-append-add}
use Rattle.std.specs.Fmt.{decimal}
use Rattle.std.specs.List.{after_first, before_first, position_or_len}
use Rattle.std.specs.Option.{option_and_then, option_or}
use Rattle.addr_text.specs.declared.address.Addr.{Addr}
use Rattle.addr_text.specs.declared.address.Addr.TheVariants.{V4}
use Rattle.addr_text.specs.Numbers.{digits_in, in_base}
use Rattle.addr_text.specs.Groups.{v4_numbers}
use Rattle.addr_text.specs.Addresses.{addr_of, default_v4, default_v6, is_clear, prefix_at, prefix_of, prefix_with, v6_of}
use Rattle.addr_text.specs.Written.{decimal_text, digit_char, dotted}
use Rattle.addr_text.proofs.Again.{numbers_again}
use Rattle.addr_text.proofs.Chars.{char_low}
use Rattle.addr_text.proofs.Splits.{Lacks, lacks-append}
use Rattle.topology_text.specs.Hosts.{is_v4}
use Rattle.topology_text.specs.Texts.{address_if, v4_address}
use Rattle.big_world.specs.declared.TheConstants.{LARGEST_WORLD}
use Rattle.big_world.specs.Topology.{block_text, host_text}

-- one digit, two and three
decimal_one : (n : ℕ) → n < 10 → decimal n ≡ (48 + n) ∷ []
decimal_one n low = decimal_digit n low

decimal_two : (n : ℕ) → 10 ≤ n → n < 100 → decimal n ≡ (48 + n / 10) ∷ (48 + n % 10) ∷ []
decimal_two n high low = decimal_step n high (omega arith) ∙ ap (λ (l : List ℕ). l ++ (48 + n % 10) ∷ []) (decimal_one (n / 10) (omega arith))

decimal_three : (n : ℕ) → 100 ≤ n → n < 1000 → decimal n ≡ (48 + n / 10 / 10) ∷ (48 + n / 10 % 10) ∷ (48 + n % 10) ∷ []
decimal_three n high low = decimal_step n (omega arith) (omega arith) ∙ ap (λ (l : List ℕ). l ++ (48 + n % 10) ∷ []) (decimal_two (n / 10) (omega arith) (omega arith))

char_rest : (n : ℕ) → digit_char (n % 10) ≡ 48 + n % 10
char_rest n = char_low (n % 10) (omega arith)

text_one : (n : ℕ) → n < 10 → map digit_char (digits_in 10 1 n) ≡ (48 + n) ∷ []
unfolding digits_in
text_one n low = let e : n % 10 ≡ n = omega arith in ap (λ (c : ℕ). c ∷ []) (char_rest n ∙ ap (λ (m : ℕ). 48 + m) e)

text_two : (n : ℕ) → n < 100 → map digit_char (digits_in 10 2 n) ≡ (48 + n / 10) ∷ (48 + n % 10) ∷ []
unfolding digits_in
text_two n low =
    let e : n / 10 % 10 ≡ n / 10 = omega arith in
    ap (λ (c : ℕ). c ∷ digit_char (n % 10) ∷ []) (char_rest (n / 10) ∙ ap (λ (m : ℕ). 48 + m) e) ∙ ap (λ (c : ℕ). (48 + n / 10) ∷ c ∷ []) (char_rest n)

text_three : (n : ℕ) → n < 1000 → map digit_char (digits_in 10 3 n) ≡ (48 + n / 10 / 10) ∷ (48 + n / 10 % 10) ∷ (48 + n % 10) ∷ []
unfolding digits_in
text_three n low =
    let e : n / 10 / 10 % 10 ≡ n / 10 / 10 = omega arith in
    ap (λ (c : ℕ). c ∷ digit_char (n / 10 % 10) ∷ digit_char (n % 10) ∷ []) (char_rest (n / 10 / 10) ∙ ap (λ (m : ℕ). 48 + m) e)
    ∙ ap (λ (c : ℕ). (48 + n / 10 / 10) ∷ c ∷ digit_char (n % 10) ∷ []) (char_rest (n / 10))
    ∙ ap (λ (c : ℕ). (48 + n / 10 / 10) ∷ (48 + n / 10 % 10) ∷ c ∷ []) (char_rest n)

-- a number below 256 is written as the number of an address is
decimal_is_text : (n : ℕ) → n < 256 → decimal n ≡ decimal_text n
decimal_is_text n low = go (nat_lt n 10) (nat_lt n 100) refl refl
  where
    go : (a b : Bool) → nat_lt n 10 ≡ a → nat_lt n 100 ≡ b → decimal n ≡ map digit_char (digits_in 10 (cond a 1 (cond b 2 3)) n)
    go true b ta tb = let small : n < 10 = grind (arith, nat_tests) in decimal_one n small ∙ sym (text_one n small)
    go false true ta tb =
        let high : 10 ≤ n = grind (arith, nat_tests) in
        let small : n < 100 = grind (arith, nat_tests) in
        decimal_two n high small ∙ sym (text_two n small)
    go false false ta tb =
        let high : 100 ≤ n = grind (arith, nat_tests) in
        decimal_three n high (omega arith) ∙ sym (text_three n (omega arith))

-- four numbers below 256, joined by dots
abbrev pub four_text : ℕ → ℕ → ℕ → ℕ → List ℕ
four_text a b c d = decimal a ++ 46 ∷ (decimal b ++ 46 ∷ (decimal c ++ 46 ∷ decimal d))

four_dotted : (a b c d : ℕ) → a < 256 → b < 256 → c < 256 → d < 256 → four_text a b c d ≡ dotted (a ∷ b ∷ c ∷ d ∷ [])
four_dotted a b c d la lb lc ld =
    rw (decimal_is_text a la, decimal_is_text b lb, decimal_is_text c lc, decimal_is_text d ld) refl

pub four_read : (a b c d : ℕ) → a < 256 → b < 256 → c < 256 → d < 256 → addr_of (four_text a b c d) ≡ Some (V4 (((a * 256 + b) * 256 + c) * 256 + d))
unfolding addr_of
four_read a b c d la lb lc ld =
    let ns : List ℕ = a ∷ b ∷ c ∷ d ∷ [] in
    let read : v4_numbers (four_text a b c d) ≡ Some ns = ap v4_numbers (four_dotted a b c d la lb lc ld) ∙ numbers_again ns refl (la, (lb, (lc, (ld, tt)))) in
    let value : in_base 256 ns ≡ ((a * 256 + b) * 256 + c) * 256 + d = omega arith in
    ap (λ (o : Option (List ℕ)). option_or (option_map (λ ms. V4 (in_base 256 ms)) o) (v6_of (four_text a b c d))) read ∙ ap (λ (m : ℕ). Some (V4 m)) value

-- the numbers that are written out
ten : decimal 10 ≡ 49 ∷ 48 ∷ []
ten = decimal_two 10 (omega arith) (omega arith)

hundred : decimal 100 ≡ 49 ∷ 48 ∷ 48 ∷ []
hundred = decimal_three 100 (omega arith) (omega arith)

none : decimal 0 ≡ 48 ∷ []
none = decimal_one 0 (omega arith)

-- four texts with dots between them, put together from the left
from_left : (h x y z : List ℕ) → (((((h ++ 46 ∷ []) ++ x) ++ 46 ∷ []) ++ y) ++ 46 ∷ []) ++ z ≡ h ++ 46 ∷ (x ++ 46 ∷ (y ++ 46 ∷ z))
from_left h x y z =
    let a : List ℕ = h ++ 46 ∷ [] in
    let b : List ℕ = (a ++ x) ++ 46 ∷ [] in
    append_assoc (b ++ y) (46 ∷ []) z
    ∙ append_assoc b y (46 ∷ z)
    ∙ append_assoc (a ++ x) (46 ∷ []) (y ++ 46 ∷ z)
    ∙ append_assoc a x (46 ∷ (y ++ 46 ∷ z))
    ∙ append_assoc h (46 ∷ []) (x ++ 46 ∷ (y ++ 46 ∷ z))

-- the address of a pool
host_is : (i j : ℕ) → host_text i j ≡ four_text 10 (i / 256) (i % 256) (j + 1)
host_is i j =
    from_left (49 ∷ 48 ∷ []) (decimal (i / 256)) (decimal (i % 256)) (decimal (j + 1))
    ∙ ap (λ (l : List ℕ). l ++ 46 ∷ (decimal (i / 256) ++ 46 ∷ (decimal (i % 256) ++ 46 ∷ decimal (j + 1)))) (sym ten)

pub host_address : (i j : ℕ) → i < 65536 → j < 255 → addr_of (host_text i j) ≡ Some (V4 (((10 * 256 + i / 256) * 256 + i % 256) * 256 + (j + 1)))
host_address i j small few = ap addr_of (host_is i j) ∙ four_read 10 (i / 256) (i % 256) (j + 1) (omega arith) (omega arith) (omega arith) (omega arith)

pub host_read : (i j : ℕ) → i < 65536 → j < 255 → v4_address (host_text i j) ≡ Some (V4 (((10 * 256 + i / 256) * 256 + i % 256) * 256 + (j + 1)))
host_read i j small few = ap (address_if is_v4) (host_address i j small few)

-- no slash stands in a number
no_slash : (n : ℕ) → n < 2 ^ 64 → Lacks 47 (decimal n)
no_slash n small = decimal_by_steps (λ _ ds. Lacks 47 ds) one more n small
  where
    digit : (d : ℕ) → (48 + d == 47) ≡ false
    digit d = grind (arith, nat_tests)

    one : (m : ℕ) → m < 10 → Lacks 47 ((48 + m) ∷ [])
    one m low = (digit m, tt)

    more : (m : ℕ) (ds : List ℕ) → 10 ≤ m → Lacks 47 ds → Lacks 47 (ds ++ ((48 + m % 10) ∷ []))
    more m ds high lacks = lacks-append 47 ds ((48 + m % 10) ∷ []) lacks (digit (m % 10), tt)

four_no_slash : (a b c d : ℕ) → a < 256 → b < 256 → c < 256 → d < 256 → Lacks 47 (four_text a b c d)
four_no_slash a b c d la lb lc ld =
    lacks-append 47 (decimal a) _ (no_slash a (omega arith)) (
      refl,
      lacks-append 47 (decimal b) _ (no_slash b (omega arith))
          (refl, lacks-append 47 (decimal c) _ (no_slash c (omega arith)) (refl, no_slash d (omega arith))),
    )

-- where the first octet of a kind stands, behind a text that lacks it
first_place : (c : ℕ) (xs rest : List ℕ) → Lacks c xs → position_or_len (λ b. b == c) (xs ++ c ∷ rest) ≡ length xs
first_place c [] rest lacks = let same : (c == c) ≡ true = grind (arith, nat_tests) in ap (λ (t : Bool). cond (not t) (1 + position_or_len (λ b. b == c) rest) 0) same
first_place c (x ∷ xs) rest lacks =
    let more : 1 + length xs ≡ length (x ∷ xs) = omega arith in
    ap (λ (t : Bool). cond (not t) (1 + position_or_len (λ b. b == c) (xs ++ c ∷ rest)) 0) lacks.0 ∙ ap (λ (k : ℕ). 1 + k) (first_place c xs rest lacks.1) ∙ more

before_mark : (c : ℕ) (xs rest : List ℕ) → Lacks c xs → before_first (λ b. b == c) (xs ++ c ∷ rest) ≡ xs
before_mark c xs rest lacks = ap (λ (k : ℕ). take k (xs ++ c ∷ rest)) (first_place c xs rest lacks) ∙ take-append_seam xs (c ∷ rest)

behind_mark : (c : ℕ) (xs rest : List ℕ) → Lacks c xs → after_first (λ b. b == c) (xs ++ c ∷ rest) ≡ rest
behind_mark c xs rest lacks = ap (λ (k : ℕ). drop (k + 1) (xs ++ c ∷ rest)) (first_place c xs rest lacks) ∙ drop-append-add xs (c ∷ rest) 1

-- an address whose last number is 0, and a length of 24
clear_bits : (m : ℕ) → is_clear (V4 (m * 256)) 24 ≡ true
clear_bits m = let none : m * 256 % 256 ≡ 0 = omega arith in ap (λ (k : ℕ). k == 0) none

size_read : (m : ℕ) → prefix_with (50 ∷ 52 ∷ []) (V4 (m * 256)) ≡ Some (prefix_at (V4 (m * 256)) 24)
size_read m = ap (λ b. option_map (prefix_at (V4 (m * 256))) (cond b (Some 24) None)) (clear_bits m)

sized_read : (text : List ℕ) (m : ℕ) → Lacks 47 text → addr_of text ≡ Some (V4 (m * 256)) → prefix_of (text ++ 47 ∷ 50 ∷ 52 ∷ []) ≡ Some (prefix_at (V4 (m * 256)) 24)
unfolding prefix_of
sized_read text m lacks read =
    ap (λ (l : List ℕ). option_and_then (prefix_with (after_first (λ b. b == 47) (text ++ 47 ∷ 50 ∷ 52 ∷ []))) (addr_of l)) (before_mark 47 text (50 ∷ 52 ∷ []) lacks)
    ∙ ap (λ (o : Option Addr). option_and_then (prefix_with (after_first (λ b. b == 47) (text ++ 47 ∷ 50 ∷ 52 ∷ []))) o) read
    ∙ ap (λ (l : List ℕ). prefix_with l (V4 (m * 256))) (behind_mark 47 text (50 ∷ 52 ∷ []) lacks)
    ∙ size_read m

-- the prefix of a group
block_is : (i : ℕ) → block_text i ≡ four_text 100 (64 + i / 256) (i % 256) 0 ++ 47 ∷ 50 ∷ 52 ∷ []
block_is i =
    let h : List ℕ = 49 ∷ 48 ∷ 48 ∷ [] in
    let x = decimal (64 + i / 256) in
    let y = decimal (i % 256) in
    let tail : List ℕ = 47 ∷ 50 ∷ 52 ∷ [] in
    let a : List ℕ = (((h ++ 46 ∷ []) ++ x) ++ 46 ∷ []) ++ y in
    sym (append_assoc a (46 ∷ []) (48 ∷ tail))
    ∙ sym (append_assoc (a ++ 46 ∷ []) (48 ∷ []) tail)
    ∙ ap (λ (l : List ℕ). l ++ tail) (from_left h x y (48 ∷ []))
    ∙ ap (λ (l : List ℕ). (l ++ 46 ∷ (x ++ 46 ∷ (y ++ 46 ∷ 48 ∷ []))) ++ tail) (sym hundred)
    ∙ ap (λ (l : List ℕ). (decimal 100 ++ 46 ∷ (x ++ 46 ∷ (y ++ 46 ∷ l))) ++ tail) (sym none)

-- what that prefix is as a number
abbrev pub block_of : ℕ → ℕ
block_of i = (100 * 256 + (64 + i / 256)) * 256 + i % 256

pub block_read : (i : ℕ) → i < LARGEST_WORLD → prefix_of (block_text i) ≡ Some (record { addr = V4 (((100 * 256 + (64 + i / 256)) * 256 + i % 256) * 256); len = 24 })
block_read i small =
    let b = 64 + i / 256 in
    let c = i % 256 in
    let value : block_of i * 256 + 0 ≡ block_of i * 256 = omega arith in
    let read : addr_of (four_text 100 b c 0) ≡ Some (V4 (block_of i * 256)) = four_read 100 b c 0 (omega arith) (omega arith) (omega arith) (omega arith) ∙ ap (λ (m : ℕ). Some (V4 m)) value in
    ap prefix_of (block_is i) ∙ sized_read (four_text 100 b c 0) (block_of i) (four_no_slash 100 b c 0 (omega arith) (omega arith) (omega arith) (omega arith)) read

-- the prefixes of group 0
pub default_v4_read : prefix_of (codes "0.0.0.0/0") ≡ Some default_v4
unfolding prefix_of addr_of
default_v4_read = refl

pub default_v6_read : prefix_of (codes "::/0") ≡ Some default_v6
unfolding prefix_of addr_of
default_v6_read = refl
