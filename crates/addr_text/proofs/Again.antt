-- Reading gives back what was written.
use Rattle.std.proofs.Common.{◌≡◌, ℕ, zero, suc, ◌+◌, ◌-◌, ◌<◌, ◌≤◌, ◌^◌, ◌==◌, Bool, true, false, cond, ◌&&◌, nat_le, List, [], ◌∷◌, ◌++◌, length, map, take, drop, replicate, get_or, Option, None, Some, option_map, refl, ap, sym, ◌∙◌, arith, length-append, append_assoc, append-nil, length-drop, length-take}
use Rattle.std.proofs.lemmas.Bool.Decides.{nat_tests}
use Rattle.std.proofs.lemmas.List.{drop-drop, take-append-drop}
use Rattle.std.specs.List.{flat_map, join_with_byte, prefix_len, slice_split}
use Rattle.std.specs.Option.{option_or}
use Rattle.addr_text.specs.declared.address.Addr.TheVariants.{V4, V6}
use Rattle.addr_text.specs.Numbers.{all_of, digits_in, in_base, number_of, only_if, together}
use Rattle.addr_text.specs.Groups.{begins_double, filled, group_of, groups_by, joined_groups, on_left, side_groups, sides, v4_numbers, v6_groups}
use Rattle.addr_text.specs.Addresses.{addr_of, v6_of}
use Rattle.addr_text.specs.Written.{coloned, colon_text, decimal_text, dotted, hex_text, run_at}
use Rattle.addr_text.proofs.Bases.{AllBelow, digits_below, length-digits, value_digits}
use Rattle.addr_text.proofs.Chars.{decimal_again, group_again, no_colon_hex, no_dot_decimal, no_dot_hex, some_hex}
use Rattle.addr_text.proofs.Sides.{behind, behind_none}
use Rattle.addr_text.proofs.Splits.{Lacks, lacks-append, split_alone, split_part}

-- a first part and, behind separators, the others
pub join-cons : (c : ℕ) (f : ℕ → List ℕ) (n : ℕ) (ns : List ℕ) → join_with_byte c (map f (n ∷ ns)) ≡ f n ++ flat_map (λ m. c ∷ f m) ns
join-cons c f n [] = sym (append-nil (f n))
join-cons c f n (m ∷ ms) = ap (λ (l : List ℕ). f n ++ (c ∷ l)) (join-cons c f m ms)

split_join : (c : ℕ) (f : ℕ → List ℕ) (n : ℕ) (ns : List ℕ) → ((m : ℕ) → Lacks c (f m)) → slice_split (λ b. b == c) (join_with_byte c (map f (n ∷ ns))) ≡ map f (n ∷ ns)
split_join c f n [] lacks = split_alone c (f n) (lacks n)
split_join c f n (m ∷ ms) lacks = split_part c (f n) (join_with_byte c (map f (m ∷ ms))) (lacks n) ∙ ap (λ (l : List (List ℕ)). f n ∷ l) (split_join c f m ms lacks)

values_again : (value : List ℕ → Option ℕ) (f : ℕ → List ℕ) (limit : ℕ) (ns : List ℕ) → ((n : ℕ) → n < limit → value (f n) ≡ Some n) → AllBelow limit ns → all_of value (map f ns) ≡ Some ns
values_again value f limit [] reads below = refl
values_again value f limit (n ∷ ns) reads below =
    ap (λ (o : Option ℕ). together o (all_of value (map f ns))) (reads n below.0) ∙ ap (together (Some n)) (values_again value f limit ns reads below.1)

-- four numbers
pub numbers_again : (ns : List ℕ) → length ns ≡ 4 → AllBelow 256 ns → v4_numbers (dotted ns) ≡ Some ns
numbers_again [] size below = absurd (omega arith)
numbers_again (n ∷ ns) size below =
    let four : (length (n ∷ ns) == 4) ≡ true = grind (arith, nat_tests) in
    ap (λ (ps : List (List ℕ)). only_if (λ ms. length ms == 4) (all_of (number_of 255) ps)) (split_join 46 decimal_text n ns no_dot_decimal)
    ∙ ap (only_if (λ ms. length ms == 4)) (values_again (number_of 255) decimal_text 256 (n ∷ ns) decimal_again below)
    ∙ ap (λ b. cond b (Some (n ∷ ns)) None) four

-- groups joined by colons
pub joined_again : (g : ℕ) (gs : List ℕ) → AllBelow 65536 (g ∷ gs) → joined_groups (coloned (g ∷ gs)) ≡ Some (g ∷ gs)
joined_again g gs below = ap (all_of group_of) (split_join 58 hex_text g gs no_colon_hex) ∙ values_again group_of hex_text 65536 (g ∷ gs) group_again below

-- a text without dots is no IPv4 text
one_part : (o : Option ℕ) → only_if (λ (ms : List ℕ). length ms == 4) (together o (Some [])) ≡ None
one_part None = refl
one_part (Some v) = refl

pub no_numbers : (text : List ℕ) → Lacks 46 text → v4_numbers text ≡ None
no_numbers text lacks = ap (λ (ps : List (List ℕ)). only_if (λ ms. length ms == 4) (all_of (number_of 255) ps)) (split_alone 46 text lacks) ∙ one_part (number_of 255 text)

pub no_dots : (gs : List ℕ) → Lacks 46 (coloned gs)
no_dots [] = tt
no_dots (g ∷ []) = no_dot_hex g
no_dots (g ∷ h ∷ hs) = lacks-append 46 (hex_text g) (58 ∷ coloned (h ∷ hs)) (no_dot_hex g) (refl, no_dots (h ∷ hs))

-- octets that are no colon stand on the left side
behind_cons : (b : ℕ) (x : List ℕ) (o : Option (List ℕ × List ℕ)) → option_map (on_left b) (behind x o) ≡ behind (b ∷ x) o
behind_cons b x None = refl
behind_cons b x (Some s) = refl

behind_append : (x y : List ℕ) (o : Option (List ℕ × List ℕ)) → behind x (behind y o) ≡ behind (x ++ y) o
behind_append x y None = refl
behind_append x y (Some s) = ap (λ (l : List ℕ). Some (l, s.1)) (sym (append_assoc x y s.0))

no_double : (b : ℕ) (rest : List ℕ) → (b == 58) ≡ false → begins_double (b ∷ rest) ≡ false
no_double b [] other = refl
no_double b (d ∷ rest) other = ap (λ (t : Bool). t && (d == 58)) other

no_second : (b : ℕ) (rest : List ℕ) → (b == 58) ≡ false → begins_double (58 ∷ b ∷ rest) ≡ false
no_second b rest other = other

sides_block : (x rest : List ℕ) → Lacks 58 x → sides (x ++ rest) ≡ behind x (sides rest)
sides_block [] rest lacks = sym (behind_none (sides rest))
sides_block (b ∷ bs) rest lacks =
    ap (λ (t : Bool). cond t (Some ([], drop 1 (bs ++ rest))) (option_map (on_left b) (sides (bs ++ rest)))) (no_double b (bs ++ rest) lacks.0)
    ∙ ap (option_map (on_left b)) (sides_block bs rest lacks.1) ∙ behind_cons b bs (sides rest)

sides_colon : (x rest : List ℕ) → Lacks 58 x → 0 < length x → sides (58 ∷ (x ++ rest)) ≡ behind (58 ∷ []) (sides (x ++ rest))
sides_colon [] rest lacks some = absurd (omega arith)
sides_colon (b ∷ bs) rest lacks some =
    ap (λ (t : Bool). cond t (Some ([], drop 1 (b ∷ (bs ++ rest)))) (option_map (on_left 58) (sides (b ∷ (bs ++ rest))))) (no_second b (bs ++ rest) lacks.0) ∙ on_left-behind (sides (b ∷ (bs ++ rest)))
  where
    on_left-behind : (o : Option (List ℕ × List ℕ)) → option_map (on_left 58) o ≡ behind (58 ∷ []) o
    on_left-behind None = refl
    on_left-behind (Some s) = refl

-- joined groups stand on the left side
pub sides_joined : (gs rest : List ℕ) → sides (coloned gs ++ rest) ≡ behind (coloned gs) (sides rest)
sides_joined [] rest = sides_block [] rest tt
sides_joined (g ∷ []) rest = sides_block (hex_text g) rest (no_colon_hex g)
sides_joined (g ∷ h ∷ hs) rest =
    let later : coloned (h ∷ hs) ++ rest ≡ hex_text h ++ (flat_map colon_text hs ++ rest) = ap (λ (l : List ℕ). l ++ rest) (join-cons 58 hex_text h hs) ∙ append_assoc (hex_text h) (flat_map colon_text hs) rest in
    ap sides (append_assoc (hex_text g) (58 ∷ coloned (h ∷ hs)) rest)
    ∙ sides_block (hex_text g) (58 ∷ (coloned (h ∷ hs) ++ rest)) (no_colon_hex g)
    ∙ ap (λ (l : List ℕ). behind (hex_text g) (sides (58 ∷ l))) later
    ∙ ap (behind (hex_text g)) (sides_colon (hex_text h) (flat_map colon_text hs ++ rest) (no_colon_hex h) (some_hex h))
    ∙ ap (λ (l : List ℕ). behind (hex_text g) (behind (58 ∷ []) (sides l))) (sym later)
    ∙ ap (λ (o : Option (List ℕ × List ℕ)). behind (hex_text g) (behind (58 ∷ []) o)) (sides_joined (h ∷ hs) rest)
    ∙ ap (behind (hex_text g)) (behind_append (58 ∷ []) (coloned (h ∷ hs)) (sides rest))
    ∙ behind_append (hex_text g) (58 ∷ coloned (h ∷ hs)) (sides rest)

-- groups without `::`
pub plain_again : (gs : List ℕ) → length gs ≡ 8 → AllBelow 65536 gs → v6_groups (coloned gs) ≡ Some gs
plain_again [] size below = absurd (omega arith)
plain_again (g ∷ gs) size below =
    let none : sides (coloned (g ∷ gs)) ≡ None = ap sides (sym (append-nil (coloned (g ∷ gs)))) ∙ sides_joined (g ∷ gs) [] in
    let eight : (length (g ∷ gs) == 8) ≡ true = grind (arith, nat_tests) in
    ap (λ (o : Option (List ℕ × List ℕ)). groups_by o (coloned (g ∷ gs))) none
    ∙ ap (only_if (λ vs. length vs == 8)) (joined_again g gs below)
    ∙ ap (λ b. cond b (Some (g ∷ gs)) None) eight

side_some : (text : List ℕ) → 0 < length text → side_groups text ≡ joined_groups text
side_some [] some = absurd (omega arith)
side_some (b ∷ bs) some = refl

some_joined : (g : ℕ) (gs : List ℕ) → 0 < length (coloned (g ∷ gs))
some_joined g gs = let size = ap length (join-cons 58 hex_text g gs) in let some = some_hex g in omega (arith, size, length-append (hex_text g) (flat_map colon_text gs))

pub side_again : (gs : List ℕ) → AllBelow 65536 gs → side_groups (coloned gs) ≡ Some gs
side_again [] below = refl
side_again (g ∷ gs) below = side_some (coloned (g ∷ gs)) (some_joined g gs) ∙ joined_again g gs below

-- the run at the front is so many zeros
zeros_front : (xs : List ℕ) → take (prefix_len (λ g. g == 0) xs) xs ≡ replicate (prefix_len (λ g. g == 0) xs) 0
zeros_front [] = refl
zeros_front (x ∷ xs) = go (x == 0) refl (λ is. more (prefix_len (λ g. g == 0) xs) (zeros_front xs) is)
  where
    more : (k : ℕ) → take k xs ≡ replicate k 0 → x ≡ 0 → take (1 + k) (x ∷ xs) ≡ replicate (1 + k) 0
    more k front is = let e : 1 + k ≡ suc k = omega arith in rw e (ap (λ (n : ℕ). n ∷ take k xs) is ∙ ap (λ (l : List ℕ). 0 ∷ l) front)

    go : (b : Bool) → (x == 0) ≡ b → (x ≡ 0 → take (1 + prefix_len (λ g. g == 0) xs) (x ∷ xs) ≡ replicate (1 + prefix_len (λ g. g == 0) xs) 0) → take (cond b (1 + prefix_len (λ g. g == 0) xs) 0) (x ∷ xs) ≡ replicate (cond b (1 + prefix_len (λ g. g == 0) xs) 0) 0
    go true t longer = longer (grind (arith, nat_tests))
    go false t longer = refl

pub below_take : (limit i : ℕ) (xs : List ℕ) → AllBelow limit xs → AllBelow limit (take i xs)
below_take limit zero xs below = tt
below_take limit (suc i) [] below = tt
below_take limit (suc i) (x ∷ xs) below = (below.0, below_take limit i xs below.1)

pub below_drop : (limit i : ℕ) (xs : List ℕ) → AllBelow limit xs → AllBelow limit (drop i xs)
below_drop limit zero xs below = below
below_drop limit (suc i) [] below = tt
below_drop limit (suc i) (x ∷ xs) below = below_drop limit i xs below.1

-- the groups before and after the run, and zeros between them
refilled : (gs : List ℕ) (i : ℕ) → i + run_at gs i ≤ length gs → (take i gs ++ replicate (run_at gs i) 0) ++ drop (i + run_at gs i) gs ≡ gs
refilled gs i fits =
    let zeros : replicate (run_at gs i) 0 ≡ take (run_at gs i) (drop i gs) = sym (zeros_front (drop i gs)) in
    let last : drop (i + run_at gs i) gs ≡ drop (run_at gs i) (drop i gs) = sym (drop-drop (run_at gs i) i gs) in
    append_assoc (take i gs) (replicate (run_at gs i) 0) (drop (i + run_at gs i) gs)
    ∙ ap (λ (l : List ℕ). take i gs ++ (l ++ drop (i + run_at gs i) gs)) zeros
    ∙ ap (λ (l : List ℕ). take i gs ++ (take (run_at gs i) (drop i gs) ++ l)) last
    ∙ ap (λ (l : List ℕ). take i gs ++ l) (take-append-drop (run_at gs i) (drop i gs))
    ∙ take-append-drop i gs

filled_again : (gs : List ℕ) (i : ℕ) → length gs ≡ 8 → i + run_at gs i ≤ 8 → 2 ≤ run_at gs i → filled (Some (take i gs)) (Some (drop (i + run_at gs i) gs)) ≡ Some gs
filled_again gs i size fits two =
    let sum : length (take i gs) + length (drop (i + run_at gs i) gs) ≡ 8 - run_at gs i = omega (arith, length-take i gs, length-drop (i + run_at gs i) gs) in
    let few : nat_le (length (take i gs) + length (drop (i + run_at gs i) gs)) 7 ≡ true = grind (arith, nat_tests) in
    let left : 8 - (length (take i gs) + length (drop (i + run_at gs i) gs)) ≡ run_at gs i = omega arith in
    ap (λ b. cond b (Some ((take i gs ++ replicate (8 - (length (take i gs) + length (drop (i + run_at gs i) gs))) 0) ++ drop (i + run_at gs i) gs)) None) few
    ∙ ap (λ (k : ℕ). Some ((take i gs ++ replicate k 0) ++ drop (i + run_at gs i) gs)) left
    ∙ ap Some (refilled gs i (omega arith))

-- groups with `::`
pub short_again : (gs : List ℕ) (i : ℕ) → length gs ≡ 8 → AllBelow 65536 gs → i + run_at gs i ≤ 8 → 2 ≤ run_at gs i → v6_groups (coloned (take i gs) ++ 58 ∷ 58 ∷ coloned (drop (i + run_at gs i) gs)) ≡ Some gs
short_again gs i size below fits two =
    let there : sides (coloned (take i gs) ++ 58 ∷ 58 ∷ coloned (drop (i + run_at gs i) gs)) ≡ Some (coloned (take i gs), coloned (drop (i + run_at gs i) gs)) =
    sides_joined (take i gs) (58 ∷ 58 ∷ coloned (drop (i + run_at gs i) gs)) ∙ ap (λ (l : List ℕ). Some (l, coloned (drop (i + run_at gs i) gs))) (append-nil (coloned (take i gs))) in
    ap (λ (o : Option (List ℕ × List ℕ)). groups_by o (coloned (take i gs) ++ 58 ∷ 58 ∷ coloned (drop (i + run_at gs i) gs))) there
    ∙ ap (λ (o : Option (List ℕ)). filled o (side_groups (coloned (drop (i + run_at gs i) gs)))) (side_again (take i gs) (below_take 65536 i gs below))
    ∙ ap (λ (o : Option (List ℕ)). filled (Some (take i gs)) o) (side_again (drop (i + run_at gs i) gs) (below_drop 65536 (i + run_at gs i) gs below))
    ∙ filled_again gs i size fits two

pub no_dots_short : (ls rs : List ℕ) → Lacks 46 (coloned ls ++ 58 ∷ 58 ∷ coloned rs)
no_dots_short ls rs = lacks-append 46 (coloned ls) (58 ∷ 58 ∷ coloned rs) (no_dots ls) (refl, (refl, no_dots rs))

-- what fits a width is below it
pub all_below : (limit : ℕ) (xs : List ℕ) → ((i : ℕ) → get_or xs i 0 < limit) → AllBelow limit xs
all_below limit [] each = tt
all_below limit (x ∷ xs) each = (each 0, all_below limit xs (λ i. each (suc i)))

-- addresses
pub v4_again : (n : ℕ) (text : List ℕ) → n < 2 ^ 32 → text ≡ dotted (digits_in 256 4 n) → addr_of text ≡ Some (V4 n)
unfolding addr_of
v4_again n text small is =
    let read : v4_numbers text ≡ Some (digits_in 256 4 n) = ap v4_numbers is ∙ numbers_again (digits_in 256 4 n) (length-digits 256 4 n) (digits_below 256 4 n (omega arith)) in
    ap (λ (o : Option (List ℕ)). option_or (option_map (λ ns. V4 (in_base 256 ns)) o) (v6_of text)) read ∙ ap (λ (m : ℕ). Some (V4 m)) (value_digits 256 4 n (omega arith) (omega arith))

pub v6_again : (n : ℕ) (text : List ℕ) → n < 2 ^ 128 → v4_numbers text ≡ None → v6_groups text ≡ Some (digits_in 65536 8 n) → addr_of text ≡ Some (V6 n)
unfolding addr_of
v6_again n text small none read =
    ap (λ (o : Option (List ℕ)). option_or (option_map (λ ns. V4 (in_base 256 ns)) o) (v6_of text)) none
    ∙ ap (option_map (λ gs. V6 (in_base 65536 gs))) read
    ∙ ap (λ (m : ℕ). Some (V6 m)) (value_digits 65536 8 n (omega arith) (omega arith))

-- a first part pushed, and then the others
pub joined_pushed : (c : ℕ) (f : ℕ → List ℕ) (n : ℕ) (ns all out one two : List ℕ) → all ≡ n ∷ ns → one ≡ out ++ f n → two ≡ one ++ flat_map (λ m. c ∷ f m) ns → two ≡ out ++ join_with_byte c (map f all)
joined_pushed c f n ns all out one two is first others =
    others
    ∙ ap (λ (l : List ℕ). l ++ flat_map (λ m. c ∷ f m) ns) first
    ∙ append_assoc out (f n) (flat_map (λ m. c ∷ f m) ns)
    ∙ ap (λ (l : List ℕ). out ++ l) (sym (join-cons c f n ns))
    ∙ ap (λ (l : List ℕ). out ++ join_with_byte c (map f l)) (sym is)

pub plain_pushed : (gs out one : List ℕ) → out ≡ [] → one ≡ out ++ coloned gs → one ≡ coloned gs
plain_pushed gs out one empty first = first ∙ ap (λ (l : List ℕ). l ++ coloned gs) empty

pub short_pushed : (gs : List ℕ) (start len : ℕ) (out one two three four front back : List ℕ) → out ≡ [] → front ≡ take start gs → one ≡ out ++ coloned front → two ≡ one ++ 58 ∷ [] → three ≡ two ++ 58 ∷ [] → back ≡ drop (start + len) gs → len ≡ run_at gs start → four ≡ three ++ coloned back
    → four ≡ coloned (take start gs) ++ 58 ∷ 58 ∷ coloned (drop (start + run_at gs start) gs)
short_pushed gs start len out one two three four front back empty front_is first second third back_is run fourth =
    let left : one ≡ coloned (take start gs) = plain_pushed (take start gs) out one empty (first ∙ ap (λ (l : List ℕ). out ++ coloned l) front_is) in
    let right : back ≡ drop (start + run_at gs start) gs = back_is ∙ ap (λ (k : ℕ). drop (start + k) gs) run in
    let middle : three ≡ coloned (take start gs) ++ 58 ∷ 58 ∷ [] = third ∙ ap (λ (l : List ℕ). l ++ 58 ∷ []) (second ∙ ap (λ (l : List ℕ). l ++ 58 ∷ []) left) ∙ append_assoc (coloned (take start gs)) (58 ∷ []) (58 ∷ []) in
    fourth ∙ ap (λ (l : List ℕ). l ++ coloned back) middle ∙ append_assoc (coloned (take start gs)) (58 ∷ 58 ∷ []) (coloned back) ∙ ap (λ (l : List ℕ). coloned (take start gs) ++ 58 ∷ 58 ∷ coloned l) right
