-- The lines of a text that was written, and the words of such a line.
use Rattle.std.proofs.Common.{◌≡◌, ℕ, List, [], ◌∷◌, ◌++◌, refl, ap, ◌∙◌, append_assoc}
use Rattle.std.specs.List.{flat_map}
use Rattle.text_parts.specs.Parts.{but_last, last_of, parts, unfinished, whole_lines}
use Rattle.text_parts.proofs.Lines.{but_last-end, last_of-end, rest_is, whole_are}
use Rattle.addr_text.proofs.Splits.{Lacks, lacks-append, split_alone, split_part}
use Rattle.map_text.specs.Writing.{ended, four, three}

-- each of some texts lacks an octet
abbrev pub AllLack : ℕ → List (List ℕ) → Type 0
AllLack c [] = Unit {0}
AllLack c (x ∷ xs) = Lacks c x × AllLack c xs

pub all_lack-append : (c : ℕ) (xs ys : List (List ℕ)) → AllLack c xs → AllLack c ys → AllLack c (xs ++ ys)
all_lack-append c [] ys lx ly = ly
all_lack-append c (x ∷ xs) ys lx ly = (lx.0, all_lack-append c xs ys lx.1 ly)

-- the words of four
four_apart : (k g p l : List ℕ) → four k g p l ≡ k ++ 32 ∷ (g ++ 32 ∷ (p ++ 32 ∷ l))
four_apart k g p l = append_assoc (k ++ 32 ∷ g) (32 ∷ p) (32 ∷ l) ∙ append_assoc k (32 ∷ g) (32 ∷ (p ++ 32 ∷ l))

pub four_parts : (k g p l : List ℕ) → Lacks 32 k → Lacks 32 g → Lacks 32 p → Lacks 32 l → parts 32 (four k g p l) ≡ k ∷ g ∷ p ∷ l ∷ []
four_parts k g p l lk lg lp ll =
    ap (parts 32) (four_apart k g p l)
    ∙ split_part 32 k (g ++ 32 ∷ (p ++ 32 ∷ l)) lk
    ∙ ap (λ (ps : List (List ℕ)). k ∷ ps) (split_part 32 g (p ++ 32 ∷ l) lg)
    ∙ ap (λ (ps : List (List ℕ)). k ∷ g ∷ ps) (split_part 32 p l lp)
    ∙ ap (λ (ps : List (List ℕ)). k ∷ g ∷ p ∷ ps) (split_alone 32 l ll)

-- and of three
pub three_parts : (k g p : List ℕ) → Lacks 32 k → Lacks 32 g → Lacks 32 p → parts 32 (three k g p) ≡ k ∷ g ∷ p ∷ []
three_parts k g p lk lg lp =
    ap (parts 32) (append_assoc k (32 ∷ g) (32 ∷ p))
    ∙ split_part 32 k (g ++ 32 ∷ p) lk
    ∙ ap (λ (ps : List (List ℕ)). k ∷ ps) (split_part 32 g p lg)
    ∙ ap (λ (ps : List (List ℕ)). k ∷ g ∷ ps) (split_alone 32 p lp)

pub three_lacks : (k g p : List ℕ) → Lacks 10 k → Lacks 10 g → Lacks 10 p → Lacks 10 (three k g p)
three_lacks k g p lk lg lp = lacks-append 10 (k ++ 32 ∷ g) (32 ∷ p) (lacks-append 10 k (32 ∷ g) lk (refl, lg)) (refl, lp)

-- words without the end of a line make a line without it
pub four_lacks : (k g p l : List ℕ) → Lacks 10 k → Lacks 10 g → Lacks 10 p → Lacks 10 l → Lacks 10 (four k g p l)
four_lacks k g p l lk lg lp ll =
    lacks-append 10 ((k ++ 32 ∷ g) ++ 32 ∷ p) (32 ∷ l) (lacks-append 10 (k ++ 32 ∷ g) (32 ∷ p) (lacks-append 10 k (32 ∷ g) lk (refl, lg)) (refl, lp)) (refl, ll)

-- the lines of a text that was written
parts_ended : (rows : List (List ℕ)) → AllLack 10 rows → parts 10 (flat_map ended rows) ≡ rows ++ [] ∷ []
parts_ended [] lacks = refl
parts_ended (r ∷ rs) lacks =
    ap (parts 10) (append_assoc r (10 ∷ []) (flat_map ended rs))
    ∙ split_part 10 r (flat_map ended rs) lacks.0
    ∙ ap (λ (ps : List (List ℕ)). r ∷ ps) (parts_ended rs lacks.1)

pub whole_ended : (rows : List (List ℕ)) → AllLack 10 rows → whole_lines (flat_map ended rows) ≡ rows
whole_ended rows lacks = whole_are (flat_map ended rows) ∙ ap but_last (parts_ended rows lacks) ∙ but_last-end rows []

pub unfinished_ended : (rows : List (List ℕ)) → AllLack 10 rows → unfinished (flat_map ended rows) ≡ []
unfinished_ended rows lacks = rest_is (flat_map ended rows) ∙ ap last_of (parts_ended rows lacks) ∙ last_of-end rows []
