-- The reading of a text, line by line.
use Rattle.std.proofs.Common.{◌≡◌, ℕ, ◌+◌, ◌||◌, Bool, List, [], ◌∷◌, ◌++◌, length, map, Option, None, Some, Result, Err, refl, ap, sym, ◌∙◌, subst, append-nil, append_assoc, length-append}
use Rattle.std.proofs.Math.Seq.{take-append_seam, get_or-append_seam}
use Rattle.std.proofs.lemmas.List.Elements.{filter_map-append}
use Rattle.std.proofs.lemmas.List.Recursion.{or_push}
use Rattle.std.specs.List.{cons_option, filter_map, list_any, range_with_len}
use Rattle.std.specs.Option.{option_to_list}
use Rattle.topology_text.specs.Plan.{Plan}
use Rattle.text_parts.specs.Parts.{parts, unfinished}
use Rattle.map_text.specs.Lines.{line_of}
use Rattle.map_text.specs.Reading.{Mapped, SoFar, fault_at, fault_of, finished, first_of, is_end, is_second, lines_of, map_of, named_by, placed_by, so_far}
use Rattle.map_text.specs.Reader.{with_line}
use Rattle.map_text.specs.declared.fault.MapFault.{MapFault}
use Rattle.map_text.specs.declared.line.Line.{Line}
use Rattle.map_text.specs.declared.line.Line.TheVariants.{Bad}
use Rattle.text_parts.proofs.Lines.{unfinished_all, unfinished_first, whole_first, whole_none}

one_of : {X Y : Type 0} (f : X → Option Y) (x : X) → filter_map f (x ∷ []) ≡ option_to_list (f x)
one_of {Y = Y} f x = go (f x)
  where
    go : (o : Option Y) → cons_option o [] ≡ option_to_list o
    go None = refl
    go (Some y) = refl

more_of : {X Y : Type 0} (f : X → Option Y) (xs : List X) (x : X) → filter_map f (xs ++ x ∷ []) ≡ filter_map f xs ++ option_to_list (f x)
more_of f xs x = filter_map-append f xs (x ∷ []) ∙ ap (λ ys. filter_map f xs ++ ys) (one_of f x)

any_more : {X : Type 0} (p : X → Bool) (xs : List X) (x : X) → list_any p (xs ++ x ∷ []) ≡ (list_any p xs || p x)
any_more p xs x = or_push (λ ys. list_any p ys) p refl (λ _ _. refl) xs x

-- what some lines and one more come to
so_far_more : (before : List Line) (line : Line) → so_far (before ++ line ∷ []) ≡ with_line (so_far before) line
so_far_more before line = rw (length-append before (line ∷ []), more_of placed_by before line, more_of named_by before line, any_more is_second before line, any_more is_end before line) refl

-- a fault, or else what follows
abbrev pub unless : Option MapFault → Result Mapped MapFault → Result Mapped MapFault
unless None otherwise = otherwise
unless (Some fault) otherwise = Err fault

-- the reading of lines that stand behind others
abbrev pub read_on : SoFar → List Line → List ℕ → Result Mapped MapFault
read_on before [] rest = finished before rest
read_on before (line ∷ lines) rest = unless (fault_of before line) (read_on (with_line before line) lines rest)

first_unless : (fault : Option MapFault) (faults : List MapFault) (otherwise : Result Mapped MapFault) → first_of (cons_option fault faults) otherwise ≡ unless fault (first_of faults otherwise)
first_unless None faults otherwise = refl
first_unless (Some fault) faults otherwise = refl

abbrev faults_from : List Line → ℕ → ℕ → List MapFault
faults_from all i n = filter_map (fault_at all) (range_with_len i n)

fault_here : (before : List Line) (line : Line) (lines : List Line) → fault_at (before ++ line ∷ lines) (length before) ≡ fault_of (so_far before) line
fault_here before line lines = rw (take-append_seam before (line ∷ lines), get_or-append_seam before line lines Bad) refl

reads : (before lines : List Line) (rest : List ℕ) → first_of (faults_from (before ++ lines) (length before) (length lines)) (finished (so_far (before ++ lines)) rest) ≡ read_on (so_far before) lines rest
reads before [] rest = ap (λ xs. finished (so_far xs) rest) (append-nil before)
reads before (line ∷ lines) rest =
    let all = before ++ line ∷ lines in
    let end = finished (so_far all) rest in
    let shift : (before ++ line ∷ []) ++ lines ≡ all = append_assoc before (line ∷ []) lines in
    let long : length (before ++ line ∷ []) ≡ length before + 1 = length-append before (line ∷ []) in
    let later : first_of (faults_from all (length before + 1) (length lines)) end ≡ read_on (with_line (so_far before) line) lines rest =
    subst (λ xs. first_of (faults_from xs (length before + 1) (length lines)) (finished (so_far xs) rest) ≡ read_on (with_line (so_far before) line) lines rest) shift
    (subst (λ n. first_of (faults_from ((before ++ line ∷ []) ++ lines) n (length lines)) (finished (so_far ((before ++ line ∷ []) ++ lines)) rest) ≡ read_on (with_line (so_far before) line) lines rest) long
    (reads (before ++ line ∷ []) lines rest ∙ ap (λ b. read_on b lines rest) (so_far_more before line))) in
    first_unless (fault_at all (length before)) (faults_from all (length before + 1) (length lines)) end
    ∙ ap (λ fault. unless fault (first_of (faults_from all (length before + 1) (length lines)) end)) (fault_here before line lines)
    ∙ ap (λ r. unless (fault_of (so_far before) line) r) later

-- the reading of a text that stands behind some lines
abbrev pub read_text : Plan → SoFar → List ℕ → Result Mapped MapFault
read_text t before text = read_on before (lines_of t text) (unfinished text)

pub read_all : (t : Plan) (text : List ℕ) → read_text t (so_far []) text ≡ map_of t text
read_all t text = sym (reads [] (lines_of t text) (unfinished text))

-- a text that begins with a whole line
pub read_line_first : (t : Plan) (before : SoFar) (text line behind : List ℕ) → parts 10 text ≡ line ∷ parts 10 behind
    → read_text t before text ≡ unless (fault_of before (line_of t line)) (read_text t (with_line before (line_of t line)) behind)
read_line_first t before text line behind cut =
    ap (λ (ls : List (List ℕ)). read_on before (map (line_of t) ls) (unfinished text)) (whole_first text line behind cut)
    ∙ ap (λ (r : List ℕ). read_on before (line_of t line ∷ lines_of t behind) r) (unfinished_first text line behind cut)

-- a text without a whole line
pub read_rest : (t : Plan) (before : SoFar) (text : List ℕ) → parts 10 text ≡ text ∷ [] → read_text t before text ≡ finished before text
read_rest t before text cut =
    ap (λ (ls : List (List ℕ)). read_on before (map (line_of t) ls) (unfinished text)) (whole_none text cut)
    ∙ ap (λ (r : List ℕ). finished before r) (unfinished_all text cut)

-- one line more without a fault
pub read_more : (t : Plan) (before after : SoFar) (text line behind : List ℕ) (l : Line) (r : Result Mapped MapFault) → read_text t before text ≡ r → parts 10 text ≡ line ∷ parts 10 behind → l ≡ line_of t line
    → fault_of before l ≡ None → after ≡ with_line before l → read_text t after behind ≡ r
read_more t before after text line behind l r so_far cut is none next =
    ap (λ b. read_text t b behind) (next ∙ ap (with_line before) is)
    ∙ sym (ap (λ o. unless o (read_text t (with_line before (line_of t line)) behind)) (ap (fault_of before) (sym is) ∙ none))
    ∙ sym (read_line_first t before text line behind cut)
    ∙ so_far

-- a line with a fault
pub read_fault : (t : Plan) (before : SoFar) (text line behind : List ℕ) (l : Line) (fault : MapFault) (r : Result Mapped MapFault) → read_text t before text ≡ r → parts 10 text ≡ line ∷ parts 10 behind
    → l ≡ line_of t line → fault_of before l ≡ Some fault → r ≡ Err fault
read_fault t before text line behind l fault r so_far cut is some =
    sym so_far
    ∙ read_line_first t before text line behind cut
    ∙ ap (λ o. unless o (read_text t (with_line before (line_of t line)) behind)) (ap (fault_of before) (sym is) ∙ some)

-- what is left has no whole line
pub read_last : (t : Plan) (before : SoFar) (text all : List ℕ) → read_text t before text ≡ map_of t all → parts 10 text ≡ text ∷ [] → map_of t all ≡ finished before text
read_last t before text all h cut = sym h ∙ read_rest t before text cut
