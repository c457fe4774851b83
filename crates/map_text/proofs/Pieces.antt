-- A text of rows, piece by piece.
use Rattle.std.proofs.Common.{◌≡◌, ℕ, ◌≤◌, ◌+◌, ◌-◌, List, [], ◌∷◌, ◌++◌, length, take, drop, sym, ap, subst, ◌∙◌, arith, append_assoc, length-append, codes}
use Rattle.std.proofs.Math.Seq.{take-append_seam, drop-append_seam}
use Rattle.std.proofs.lemmas.Grind.{flat_map-append}
use Rattle.std.proofs.lemmas.List.{take-append-drop}
use Rattle.std.specs.List.{flat_map}
use Rattle.map_model.specs.declared.lines.MapLine.{MapLine}
use Rattle.map_model.specs.declared.lines.NameLine.{NameLine}
use Rattle.topology_text.specs.Plan.{Plan}
use Rattle.map_text.specs.Cutting.{AreCuts, name_text, place_text}
use Rattle.map_text.specs.Reading.{Mapped}
use Rattle.map_text.specs.Writing.{ended, name_row, place_row, text_of_map}
use Rattle.map_text.proofs.Again.{text_by_pieces}
use Rattle.map_text.specs.declared.cutting.Cut.{Cut}

-- the rows of the first items, and those of the rest
pub in_two : {X : Type 0} (row : X → List ℕ) (xs : List X) (n : ℕ) → flat_map row xs ≡ flat_map row (take n xs) ++ flat_map row (drop n xs)
in_two row xs n = ap (flat_map row) (sym (take-append-drop n xs)) ∙ flat_map-append row (take n xs) (drop n xs)

-- what was written with what is to come is all, one piece further
pub piece_written : {X : Type 0} (row : X → List ℕ) (first now new : List ℕ) (all rest own behind : List X) (n : ℕ) → now ++ flat_map row rest ≡ first ++ flat_map row all → own ≡ take n rest → behind ≡ drop n rest
    → new ≡ now ++ flat_map row own → new ++ flat_map row behind ≡ first ++ flat_map row all
piece_written row first now new all rest own behind n is of_own of_behind written =
    ap (λ ys. new ++ flat_map row ys) of_behind
    ∙ ap (λ ys. ys ++ flat_map row (drop n rest)) (written ∙ ap (λ ys. now ++ flat_map row ys) of_own)
    ∙ append_assoc now (flat_map row (take n rest)) (flat_map row (drop n rest))
    ∙ ap (λ ys. now ++ ys) (sym (in_two row rest n))
    ∙ is

-- the octets of a piece are counted by the lengths of the text
pub octets_written : {X : Type 0} (row : X → List ℕ) (now new : List ℕ) (rest own : List X) (n before octets : ℕ) → own ≡ take n rest → new ≡ now ++ flat_map row own → before ≡ length now → octets ≡ length new - before
    → octets ≡ length (flat_map row (take n rest))
octets_written row now new rest own n before octets of_own written was is =
    let long : length new ≡ length now + length (flat_map row (take n rest)) = ap length (written ∙ ap (λ ys. now ++ flat_map row ys) of_own) ∙ length-append now (flat_map row (take n rest)) in
    omega (arith, long, was, is)

-- one cut more
pub cut_more : {X : Type 0} (row : X → List ℕ) (all rest behind : List X) (cuts new : List Cut) (n octets : ℕ) → ((cs : List Cut) → AreCuts row rest cs → AreCuts row all (cuts ++ cs)) → n ≤ length rest → octets ≡ length (flat_map row (take n rest))
    → behind ≡ drop n rest → new ≡ cuts ++ record { rows = n; octets = octets } ∷ [] → (cs : List Cut) → AreCuts row behind cs → AreCuts row all (new ++ cs)
cut_more row all rest behind cuts new n octets so_far within as_many of_behind added cs ahead =
    subst (AreCuts row all) (sym (append_assoc cuts (record { rows = n; octets = octets } ∷ []) cs) ∙ ap (λ ys. ys ++ cs) (sym added))
    (so_far (record { rows = n; octets = octets } ∷ cs) (within, as_many, subst (λ ys. AreCuts row ys cs) of_behind ahead))

-- a map's text, taken apart: what stands ahead of the names, and from them on
pub record IsTakenApart (t : Plan) (m : Mapped) (octets : List ℕ) (middle : ℕ) : Type 0 where
  pub within : middle ≤ length octets
  pub front : take middle octets ≡ ended (codes "glb map 2") ++ flat_map (place_text t) m.lines
  pub back : drop middle octets ≡ flat_map (name_text t) m.names ++ ended (codes "end")

pub taken_apart : (t : Plan) (m : Mapped) (octets : List ℕ) (middle : ℕ) → octets ≡ text_of_map t m → middle ≡ 10 + length (flat_map (place_text t) m.lines) → IsTakenApart t m octets middle
taken_apart t m octets middle is at =
    let front = ended (codes "glb map 2") ++ flat_map (place_text t) m.lines in
    let back = flat_map (name_text t) m.names ++ ended (codes "end") in
    let whole : octets ≡ front ++ back = is ∙ text_by_pieces t m ∙ append_assoc front (flat_map (name_text t) m.names) (ended (codes "end")) in
    let long : length front ≡ 10 + length (flat_map (place_text t) m.lines) = length-append (ended (codes "glb map 2")) (flat_map (place_text t) m.lines) in
    let seam : middle ≡ length front = at ∙ sym long in
    record {
      within = omega (arith, seam, ap length whole, length-append front back);
      front = ap (λ k. take k octets) seam ∙ ap (take (length front)) whole ∙ take-append_seam front back;
      back = ap (λ k. drop k octets) seam ∙ ap (drop (length front)) whole ∙ drop-append_seam front back;
    }

-- what stands behind the header
pub behind_header : (octets xs : List ℕ) → octets ≡ ended (codes "glb map 2") ++ xs → drop 10 octets ≡ xs
behind_header octets xs is = ap (drop 10) is ∙ drop-append_seam (ended (codes "glb map 2")) xs

pub header_fits : (octets xs : List ℕ) → octets ≡ ended (codes "glb map 2") ++ xs → 10 ≤ length octets
header_fits octets xs is = omega (arith, ap length is, length-append (ended (codes "glb map 2")) xs)

-- and what stands ahead of the end
pub ahead_of_end : (octets xs : List ℕ) (n : ℕ) → octets ≡ xs ++ ended (codes "end") → n ≡ length octets - 4 → take n octets ≡ xs
ahead_of_end octets xs n is last =
    let at : n ≡ length xs = omega (arith, last, ap length is, length-append xs (ended (codes "end"))) in
    ap (λ k. take k octets) at ∙ ap (take (length xs)) is ∙ take-append_seam xs (ended (codes "end"))

pub end_fits : (octets xs : List ℕ) → octets ≡ xs ++ ended (codes "end") → 4 ≤ length octets
end_fits octets xs is = omega (arith, ap length is, length-append xs (ended (codes "end")))

-- the pieces in the order in which they are written
pub text_written : (t : Plan) (m : Mapped) (a b d e : List ℕ) (lines : List MapLine) (names : List NameLine) → lines ≡ m.lines → names ≡ m.names → a ≡ ended (codes "glb map 2")
    → b ≡ a ++ flat_map (λ x. ended (place_row t x)) lines → d ≡ b ++ flat_map (λ x. ended (name_row t x)) names → e ≡ d ++ ended (codes "end") → e ≡ text_of_map t m
text_written t m a b d e lines names of_lines of_names first places fulls last =
    let place = λ (x : MapLine). ended (place_row t x) in
    let full = λ (x : NameLine). ended (name_row t x) in
    last
    ∙ ap (λ (xs : List ℕ). xs ++ ended (codes "end")) (fulls ∙ ap (λ (ns : List NameLine). b ++ flat_map full ns) of_names)
    ∙ ap (λ (xs : List ℕ). xs ++ flat_map full m.names ++ ended (codes "end")) (places ∙ ap (λ (ls : List MapLine). a ++ flat_map place ls) of_lines)
    ∙ ap (λ (xs : List ℕ). (xs ++ flat_map place m.lines) ++ flat_map full m.names ++ ended (codes "end")) first
    ∙ sym (text_by_pieces t m)
