-- Texts of letters, digits and the marks between them: as strings they stand in quotes as they are.
use Rattle.std.proofs.Common.{◌≡◌, ◌≢◌, ◌/◌, ◌%◌, ◌<◌, ◌≤◌, ◌==◌, ◌++◌, ◌&&◌, ◌||◌, Bool, true, false, nat_le, List, [], ◌∷◌, ℕ, zero, suc, refl, ap, ◌∙◌, arith}
use Rattle.std.proofs.lemmas.Bool.{and_from, and_parts, cond_both, or_from}
use Rattle.std.proofs.lemmas.Bool.Decides.{nat_tests}
use Rattle.std.proofs.lemmas.List.Folds.{list_all-append}
use Rattle.std.specs.Fmt.{decimal, digit_glyph, digits, digits_onto}
use Rattle.std.specs.List.{list_all, list_any}
use Rattle.toml_writer.specs.Text.{encoding_of, escaped, is_control, needs_escape, quotes_after, string_text}
use Rattle.big_world.specs.Topology.{quoted}

-- each octet of the text passes
abbrev pub AllPass : (ℕ → Bool) → List ℕ → Type 0
AllPass test text = list_all test text ≡ true

pub AllPass-append : (test : ℕ → Bool) (front back : List ℕ) → AllPass test front → AllPass test back → AllPass test (front ++ back)
AllPass-append test front back f b = list_all-append test front back ∙ and_from (list_all test front) (list_all test back) f b

-- a letter, a digit, or one of `-`, `.`, `/` and `:`
abbrev pub is_plain : ℕ → Bool
is_plain c = (nat_le 45 c && nat_le c 58) || (nat_le 97 c && nat_le c 122)

glyph_plain : (d : ℕ) → d < 10 → is_plain (digit_glyph false d) ≡ true
glyph_plain d h = grind (arith, nat_tests)

onto_plain : (k n : ℕ) (acc : List ℕ) → AllPass is_plain acc → AllPass is_plain (digits_onto k 10 false n acc)
onto_plain zero n acc h = h
onto_plain (suc k) n acc h =
    let glyph = digit_glyph false (n % 10) in
    let small : n % 10 < 10 = omega arith in
    let more = and_from (is_plain glyph) (list_all is_plain acc) (glyph_plain (n % 10) small) h in
    cond_both (n / 10 == 0) (glyph ∷ acc) (digits_onto k 10 false (n / 10) (glyph ∷ acc)) (AllPass is_plain) (λ _. more) (λ _. onto_plain k (n / 10) (glyph ∷ acc) more)

-- a number's digits are plain
pub decimal_plain : (n : ℕ) → AllPass is_plain (decimal n)
unfolding digits
decimal_plain n = onto_plain 64 n [] refl

-- a plain text, a mark and a number
pub with_number : (front mark : List ℕ) (n : ℕ) → AllPass is_plain front → AllPass is_plain mark → AllPass is_plain ((front ++ mark) ++ decimal n)
with_number front mark n f m = AllPass-append is_plain (front ++ mark) (decimal n) (AllPass-append is_plain front mark f m) (decimal_plain n)

plain_range : (c : ℕ) → is_plain c ≡ true → (45 ≤ c) × (c ≤ 122) × (c ≢ 92)
plain_range c h = (grind (arith, nat_tests), grind (arith, nat_tests), grind (arith, nat_tests))

none_has : (test : ℕ → Bool) → ((c : ℕ) → is_plain c ≡ true → test c ≡ false) → (s : List ℕ) → AllPass is_plain s → list_any test s ≡ false
none_has test each [] h = refl
none_has test each (c ∷ cs) h =
    let (here, more) = and_parts (is_plain c) (list_all is_plain cs) h in
    or_from (test c) (list_any test cs) (each c here) (none_has test each cs more)

not_control : (c : ℕ) → is_plain c ≡ true → is_control c ≡ false
not_control c h = let r = plain_range c h in grind (arith, nat_tests)

not_backslash : (c : ℕ) → is_plain c ≡ true → (c == 92) ≡ false
not_backslash c h = let r = plain_range c h in grind (arith, nat_tests)

not_quote : (c : ℕ) → is_plain c ≡ true → (c == 34) ≡ false
not_quote c h = let r = plain_range c h in grind (arith, nat_tests)

not_line_feed : (c : ℕ) → is_plain c ≡ true → (c == 10) ≡ false
not_line_feed c h = let r = plain_range c h in grind (arith, nat_tests)

no_escape : (c : ℕ) → is_plain c ≡ true → needs_escape false 0 c ≡ false
unfolding needs_escape
no_escape c h = let r = plain_range c h in grind (arith, nat_tests)

no_quotes : (c : ℕ) → is_plain c ≡ true → quotes_after false 0 c ≡ 0
unfolding quotes_after
no_quotes c h = rw (not_quote c h)

escaped_plain : (s : List ℕ) → AllPass is_plain s → escaped false 0 s ≡ s
unfolding escaped
escaped_plain [] h = refl
escaped_plain (c ∷ cs) h =
    let (here, more) = and_parts (is_plain c) (list_all is_plain cs) h in
    rw (no_escape c here, no_quotes c here) (ap (λ rest. c ∷ rest) (escaped_plain cs more))

-- a plain text as a string
pub string_plain : (s : List ℕ) → AllPass is_plain s → string_text s ≡ quoted s
unfolding string_text encoding_of
string_plain s h =
    rw (none_has is_control not_control s h, none_has (λ x. x == 92) not_backslash s h, none_has (λ x. x == 34) not_quote s h, none_has (λ x. x == 10) not_line_feed s h)
    (ap (λ body. 34 ∷ body ++ 34 ∷ []) (escaped_plain s h))
