-- A text in lines, as more of it comes.
use Rattle.std.proofs.Common.{◌≡◌, ℕ, ◌≤◌, List, [], ◌∷◌, ◌++◌, length, refl, ap, sym, ◌∙◌, arith, ◌==◌, Bool, true, false}
use Rattle.std.specs.List.{onto_first}
use Rattle.std.proofs.lemmas.List.Splits.{length-slice_split, slice_split-cons_yes, slice_split-cons_no}
use Rattle.text_parts.specs.Parts.{but_last, last_of, parts, whole_lines, unfinished}

-- parts, of which the first goes on behind some octets
abbrev pub joined : List ℕ → List (List ℕ) → List (List ℕ)
joined xs [] = xs ∷ []
joined xs (p ∷ ps) = (xs ++ p) ∷ ps

-- there is always a part
some_parts : (d : List ℕ) → 1 ≤ length (parts 10 d)
some_parts d = omega (arith, length-slice_split (λ b. b == 10) d)

on_nothing : (P : List (List ℕ)) → 1 ≤ length P → P ≡ joined [] P
on_nothing [] h = absurd (omega arith)
on_nothing (p ∷ ps) h = refl

-- a part begins
begun : (P Q : List (List ℕ)) → 1 ≤ length P → [] ∷ (but_last P ++ joined (last_of P) Q) ≡ but_last ([] ∷ P) ++ joined (last_of ([] ∷ P)) Q
begun [] Q h = absurd (omega arith)
begun (p ∷ ps) Q h = refl

-- an octet in front
fronted : (b : ℕ) (P Q : List (List ℕ)) → 1 ≤ length P → onto_first b (but_last P ++ joined (last_of P) Q) ≡ but_last (onto_first b P) ++ joined (last_of (onto_first b P)) Q
fronted b [] Q h = absurd (omega arith)
fronted b (p ∷ []) [] h = refl
fronted b (p ∷ []) (q ∷ qs) h = refl
fronted b (p ∷ r ∷ ps) Q h = refl

-- the parts of bytes and more of them
pub parts_more : (d ys : List ℕ) → parts 10 (d ++ ys) ≡ but_last (parts 10 d) ++ joined (last_of (parts 10 d)) (parts 10 ys)
parts_more [] ys = on_nothing (parts 10 ys) (some_parts ys)
parts_more (b ∷ ds) ys = go (b == 10) refl (parts_more ds ys)
  where
    go : (t : Bool) → (b == 10) ≡ t → parts 10 (ds ++ ys) ≡ but_last (parts 10 ds) ++ joined (last_of (parts 10 ds)) (parts 10 ys) → parts 10 (b ∷ ds ++ ys) ≡ but_last (parts 10 (b ∷ ds)) ++ joined (last_of (parts 10 (b ∷ ds))) (parts 10 ys)
    go true h more = slice_split-cons_yes (λ x. x == 10) b (ds ++ ys) h ∙ ap (λ ps. [] ∷ ps) more ∙ begun (parts 10 ds) (parts 10 ys) (some_parts ds) ∙ sym (ap (λ P. but_last P ++ joined (last_of P) (parts 10 ys)) (slice_split-cons_yes (λ x. x == 10) b ds h))
    go false h more = slice_split-cons_no (λ x. x == 10) b (ds ++ ys) h ∙ ap (onto_first b) more ∙ fronted b (parts 10 ds) (parts 10 ys) (some_parts ds) ∙ sym (ap (λ P. but_last P ++ joined (last_of P) (parts 10 ys)) (slice_split-cons_no (λ x. x == 10) b ds h))

pub whole_are : (bytes : List ℕ) → whole_lines bytes ≡ but_last (parts 10 bytes)
whole_are bytes = unfold whole_lines in refl

pub rest_is : (bytes : List ℕ) → unfinished bytes ≡ last_of (parts 10 bytes)
rest_is bytes = unfold unfinished in refl

-- What is read of a piece: these lines are done, this much of a line has come, and the rest is to be read.
pub record IsReading (bytes : List ℕ) (done : List (List ℕ)) (line rest : List ℕ) : Type 0 where
  pub parts : parts 10 bytes ≡ done ++ joined line (parts 10 rest)

-- at the start of a piece
pub reading_begins : (bytes piece : List ℕ) → IsReading (bytes ++ piece) (whole_lines bytes) (unfinished bytes) piece
reading_begins bytes piece = record { parts = rw (whole_are bytes, rest_is bytes) (parts_more bytes piece) }

append_one : (xs : List (List ℕ)) (x : List ℕ) (ys : List (List ℕ)) → xs ++ x ∷ ys ≡ (xs ++ x ∷ []) ++ ys
append_one [] x ys = refl
append_one (y ∷ xs) x ys = ap (λ zs. y ∷ zs) (append_one xs x ys)

-- a line ends
pub reading_cut : (bytes : List ℕ) (done : List (List ℕ)) (line rest before behind : List ℕ) → IsReading bytes done line rest → parts 10 rest ≡ before ∷ parts 10 behind → IsReading bytes (done ++ (line ++ before) ∷ []) [] behind
reading_cut bytes done line rest before behind r h = record {
  parts = r.parts ∙ ap (λ P. done ++ joined line P) h ∙ append_one done (line ++ before) (parts 10 behind) ∙ ap (λ P. (done ++ (line ++ before) ∷ []) ++ P) (on_nothing (parts 10 behind) (some_parts behind));
}

pub but_last-end : (xs : List (List ℕ)) (x : List ℕ) → but_last (xs ++ x ∷ []) ≡ xs
but_last-end [] x = refl
but_last-end (a ∷ []) x = refl
but_last-end (a ∷ b ∷ xs) x = ap (λ ys. a ∷ ys) (but_last-end (b ∷ xs) x)

pub last_of-end : (xs : List (List ℕ)) (x : List ℕ) → last_of (xs ++ x ∷ []) ≡ x
last_of-end [] x = refl
last_of-end (a ∷ []) x = refl
last_of-end (a ∷ b ∷ xs) x = last_of-end (b ∷ xs) x

-- no line ends in the rest
pub reading_ends : (bytes : List ℕ) (done : List (List ℕ)) (line rest : List ℕ) → IsReading bytes done line rest → parts 10 rest ≡ rest ∷ [] → (whole_lines bytes ≡ done) × (unfinished bytes ≡ line ++ rest)
reading_ends bytes done line rest r h =
    let all = r.parts ∙ ap (λ P. done ++ joined line P) h in
    (whole_are bytes ∙ ap but_last all ∙ but_last-end done (line ++ rest), rest_is bytes ∙ ap last_of all ∙ last_of-end done (line ++ rest))

-- nothing read
pub nothing_whole : whole_lines [] ≡ []
nothing_whole = unfold whole_lines in refl

pub nothing_unfinished : unfinished [] ≡ []
nothing_unfinished = unfold unfinished in refl

-- lines that are done are whole lines of all
pub reading_whole : (bytes : List ℕ) (done : List (List ℕ)) (line rest : List ℕ) → IsReading bytes done line rest → (more : List (List ℕ)) × (whole_lines bytes ≡ done ++ more)
reading_whole bytes done line rest r = (but_last (joined line (parts 10 rest)), whole_are bytes ∙ ap but_last r.parts ∙ go done (joined line (parts 10 rest)) (some (parts 10 rest)))
  where
    some : (P : List (List ℕ)) → 1 ≤ length (joined line P)
    some [] = omega arith
    some (p ∷ ps) = omega arith

    go : (xs P : List (List ℕ)) → 1 ≤ length P → but_last (xs ++ P) ≡ xs ++ but_last P
    go [] P h = refl
    go (x ∷ []) [] h = absurd (omega arith)
    go (x ∷ []) (p ∷ ps) h = refl
    go (x ∷ y ∷ xs) P h = ap (λ ys. x ∷ ys) (go (y ∷ xs) P h)

-- a line in front
line_in_front : (line : List ℕ) (P : List (List ℕ)) → 1 ≤ length P → (but_last (line ∷ P) ≡ line ∷ but_last P) × (last_of (line ∷ P) ≡ last_of P)
line_in_front line [] h = absurd (omega arith)
line_in_front line (p ∷ ps) h = (refl, refl)

-- a text that begins with a whole line
pub whole_first : (text line behind : List ℕ) → parts 10 text ≡ line ∷ parts 10 behind → whole_lines text ≡ line ∷ whole_lines behind
whole_first text line behind cut = whole_are text ∙ ap but_last cut ∙ (line_in_front line (parts 10 behind) (some_parts behind)).0 ∙ ap (λ ls. line ∷ ls) (sym (whole_are behind))

pub unfinished_first : (text line behind : List ℕ) → parts 10 text ≡ line ∷ parts 10 behind → unfinished text ≡ unfinished behind
unfinished_first text line behind cut = rest_is text ∙ ap last_of cut ∙ (line_in_front line (parts 10 behind) (some_parts behind)).1 ∙ sym (rest_is behind)

-- a text without a whole line
pub whole_none : (text : List ℕ) → parts 10 text ≡ text ∷ [] → whole_lines text ≡ []
whole_none text cut = whole_are text ∙ ap but_last cut

pub unfinished_all : (text : List ℕ) → parts 10 text ≡ text ∷ [] → unfinished text ≡ text
unfinished_all text cut = rest_is text ∙ ap last_of cut
