-- Places past a group's list, and pieces of text one by one.
use Rattle.std.proofs.Common.{◌≡◌, ℕ, suc, ◌+◌, ◌≤◌, List, [], ◌∷◌, ◌++◌, length, append-nil, ap, ◌∙◌, inl, inr, arith}
use Rattle.std.specs.List.{flat_map, range_with_len}
use Rattle.std.proofs.lemmas.Bool.{cases_lt}
use Rattle.std.proofs.lemmas.Grind.{flat_map-append}
use Rattle.std.proofs.lemmas.List.Concat.{flat_map-cons}
use Rattle.map_model.specs.declared.lines.MapLine.{MapLine}
use Rattle.map_model.specs.Market.{Market, choices_of}
use Rattle.map_model.specs.Allocation.{AreLines, amount_at}
use Rattle.map_model.proofs.MapForm.{offers-AreLines}
use Rattle.best_laws.proofs.Offers.{held_offer}
use Rattle.best_laws.proofs.Sums.{range_more}

-- a group holds nothing past the end of its list
pub none_at_end : (m : Market) (lines : List MapLine) (g k : ℕ) → AreLines m lines → length (choices_of m g) ≤ k → amount_at lines g k ≡ 0
none_at_end m lines g k form past = elim (cases_lt 0 (amount_at lines g k)) [
  | inl some ↦ let o = held_offer m lines g k (offers-AreLines m lines form) some in absurd (omega (arith, o.place, past))
  | inr none ↦ omega arith
]

-- the pieces of the first numbers and one more
pub pieces_more : (f : ℕ → List ℕ) (n : ℕ) → flat_map f (range_with_len 0 (n + 1)) ≡ flat_map f (range_with_len 0 n) ++ f n
pieces_more f n =
    let one : n + 1 ≡ suc n = omega arith in
    ap (λ k. flat_map f (range_with_len 0 k)) one ∙ ap (flat_map f) (range_more 0 n n (omega arith)) ∙ flat_map-append f (range_with_len 0 n) (n ∷ [])
    ∙ ap (λ ys. flat_map f (range_with_len 0 n) ++ ys) (flat_map-cons f n [] ∙ append-nil (f n))
