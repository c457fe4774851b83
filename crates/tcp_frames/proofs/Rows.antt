-- Worked examples of splits.
use Rattle.std.proofs.Common.{ℕ, ◌≤◌, List, [], ◌∷◌, length, refl, arith}
use Rattle.tcp_frames.specs.Split.{IsSplit}
use Rattle.std.proofs.lemmas.List.Elements.{All-cons, All-nil}
use Rattle.tcp_frames.proofs.Splits.{length_is, none_by}

-- two messages, and the first octet of a third
two : IsSplit (0 ∷ 2 ∷ 7 ∷ 8 ∷ 0 ∷ 1 ∷ 9 ∷ 0 ∷ []) ((7 ∷ 8 ∷ []) ∷ (9 ∷ []) ∷ [])
two = record {
  rest = 0 ∷ [];
  parts = refl;
  short = All-cons (λ (m : List ℕ). length m ≤ 4096) (7 ∷ 8 ∷ []) ((9 ∷ []) ∷ []) (omega arith) (All-cons (λ (m : List ℕ). length m ≤ 4096) (9 ∷ []) [] (omega arith) (All-nil (λ (m : List ℕ). length m ≤ 4096)));
  none = λ message behind small is. absurd (cc is);
}

-- a length of 4,097 gives nothing, whatever follows
long : (behind : List ℕ) → IsSplit (16 ∷ 1 ∷ behind) []
long behind = record {
  rest = 16 ∷ 1 ∷ behind;
  parts = refl;
  short = All-nil (λ (m : List ℕ). length m ≤ 4096);
  none = none_by 16 1 behind (λ n small fits high low. let is = length_is 16 1 n high low in absurd (omega (arith, is, small)));
}
