-- Digits one after another.
use Rattle.std.proofs.Common.{◌≡◌, ℕ, zero, suc, ◌+◌, ◌*◌, ◌<◌, ◌≤◌, false, cond, nat_le, List, [], ◌∷◌, length, drop, get_or, Option, None, Some, option_map, refl, ap, sym, ◌∙◌, arith}
use Rattle.std.proofs.lemmas.Bool.Decides.{nat_tests}
use Rattle.std.proofs.lemmas.List.{drop_more}
use Rattle.std.specs.List.{fold}
use Rattle.addr_text.specs.Numbers.{all_of, only_if, together}

-- digits after a number that stands for those before them
abbrev pub onto : ℕ → ℕ → List ℕ → ℕ
onto base n digits = fold (λ n d. base * n + d) n digits

-- the number of what is left, after a number
abbrev pub value_from : (ℕ → Option ℕ) → ℕ → ℕ → List ℕ → Option ℕ
value_from digit base n text = option_map (onto base n) (all_of digit text)

map_together : (f : List ℕ → ℕ) (o : Option ℕ) (v : ℕ) (rest : Option (List ℕ)) → o ≡ Some v → option_map f (together o rest) ≡ option_map (λ vs. f (v ∷ vs)) rest
map_together f o v rest is = ap (λ (p : Option ℕ). option_map f (together p rest)) is ∙ go rest
  where
    go : (r : Option (List ℕ)) → option_map f (together (Some v) r) ≡ option_map (λ vs. f (v ∷ vs)) r
    go None = refl
    go (Some vs) = refl

-- one more digit
pub digit_step : (digit : ℕ → Option ℕ) (base n v : ℕ) (text : List ℕ) (i : ℕ) → i < length text → digit (get_or text i 0) ≡ Some v → value_from digit base (base * n + v) (drop (i + 1) text) ≡ value_from digit base n (drop i text)
digit_step digit base n v text i lt is = sym (ap (value_from digit base n) (drop_more text i 0 lt) ∙ map_together (onto base n) (digit (get_or text i 0)) v (all_of digit (drop (i + 1) text)) is)

onto_ge : (base n : ℕ) (digits : List ℕ) → 1 ≤ base → n ≤ onto base n digits
onto_ge base n [] some = omega arith
onto_ge base n (d ∷ ds) some = let up : n ≤ base * n + d = grind (arith, grows base n some) in let more = onto_ge base (base * n + d) ds some in omega arith
  where
    grows : (b m : ℕ) → 1 ≤ b → m ≤ b * m
    grows zero m h = absurd (omega arith)
    grows (suc b) m h = grind arith

-- what is past the limit stays past it
pub past_limit : (base n limit : ℕ) (o : Option (List ℕ)) → 1 ≤ base → limit < n → only_if (λ m. nat_le m limit) (option_map (onto base n) o) ≡ None
past_limit base n limit None some past = refl
past_limit base n limit (Some ds) some past =
    let up = onto_ge base n ds some in
    let over : nat_le (onto base n ds) limit ≡ false = grind (arith, nat_tests) in
    ap (λ b. cond b (Some (onto base n ds)) None) over
