-- The front of a line tells what the line says.
use Rattle.std.proofs.Common.{◌≡◌, ℕ, ◌+◌, ◌-◌, ◌≤◌, ◌<◌, ◌⊎◌, inl, inr, List, [], ◌++◌, length, take, refl, ap, sym, ◌∙◌, arith, false, not, nat_le, append-nil, cond}
use Rattle.std.specs.Prelude.{Err}
use Rattle.std.specs.List.{list_all}
use Rattle.std.proofs.Math.Seq.{take-append-add}
use Rattle.std.proofs.lemmas.List.{take_all, take-append-le, length-take-le}
use Rattle.std.proofs.lemmas.Bool.Decides.{nat_tests}
use Rattle.demand_feed.specs.Line.{by_words, is_visible, line_of, words_of}
use Rattle.demand_feed.specs.Limits.{longest_line}
use Rattle.demand_feed.specs.Cutter.{front}
use Rattle.demand_feed.specs.declared.fault.LineFault.TheVariants.{BadByte, TooLong}

cases_le : (a b : ℕ) → (a ≤ b) ⊎ (b < a)
cases_le a b = grind arith

take_more : (n : ℕ) (xs ys : List ℕ) → take n xs ++ take (n - length (take n xs)) ys ≡ take n (xs ++ ys)
take_more n xs ys = elim (cases_le (length xs) n) [
  | inl h ↦
      let all = take_all n xs h in
      let sum : length xs + (n - length xs) ≡ n = omega arith in
      ap (λ zs. zs ++ take (n - length zs) ys) all ∙ sym (take-append-add xs ys (n - length xs)) ∙ ap (λ k. take k (xs ++ ys)) sum
  | inr h ↦
      let full : n - length (take n xs) ≡ 0 = omega (arith, length-take-le n xs (omega arith)) in
      ap (λ k. take n xs ++ take k ys) full ∙ append-nil (take n xs) ∙ sym (take-append-le n xs ys (omega arith))
]

-- what there is room for behind the front is the front of the longer line
pub front_more : (line octets : List ℕ) → front line ++ take ((longest_line + 1) - length (front line)) octets ≡ front (line ++ octets)
front_more line octets = unfold front in take_more (longest_line + 1) line octets

line_is : (line : List ℕ) → line_of line ≡ cond (not (nat_le (length line) longest_line)) (Err TooLong) (cond (not (list_all is_visible line)) (Err BadByte) (by_words (words_of line)))
line_is line = unfold line_of in refl

-- a line that is too long
too_long : (line : List ℕ) → longest_line < length line → line_of line ≡ Err TooLong
too_long line h =
    let e : nat_le (length line) longest_line ≡ false = grind (arith, nat_tests) in
    line_is line ∙ ap (λ b. cond (not b) (Err TooLong) (cond (not (list_all is_visible line)) (Err BadByte) (by_words (words_of line)))) e

-- the front says what the line says
pub front_says : (line : List ℕ) → line_of (front line) ≡ line_of line
front_says line = elim (cases_le (length line) (longest_line + 1)) [
  | inl h ↦ ap line_of (unfold front in take_all (longest_line + 1) line h)
  | inr h ↦ too_long (front line) (unfold front in omega (arith, length-take-le (longest_line + 1) line (omega arith))) ∙ sym (too_long line (omega arith))
]

pub front_none : front [] ≡ []
front_none = unfold front in refl
