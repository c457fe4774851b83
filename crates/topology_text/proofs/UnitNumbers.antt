-- The numbers of names of groups and of the classes behind them.
use Rattle.std.proofs.Common.{◌≡◌, ℕ, ◌+◌, ◌<◌, suc, Bool, true, false, not, ◌==◌, cond, List, [], ◌∷◌, ◌++◌, length, Option, None, Some, option_map, refl, ap, ◌∙◌, arith}
use Rattle.std.proofs.lemmas.Bool.Decides.{nat_tests}
use Rattle.std.specs.List.{position_from}
use Rattle.std.specs.Option.{option_or}
use Rattle.toml.specs.Data.{Data}
use Rattle.topology_text.specs.Names.{is_called, is_other, is_taken, number_of, text_at}
use Rattle.topology_text.specs.declared.schema.Key.TheVariants.{Name}
use Rattle.topology_text.proofs.Markets.{named}

shifted : {K : Type 0} (t : K → Bool) (a k : ℕ) (ys : List K) → position_from t (a + k) ys ≡ option_map (λ n. a + n) (position_from t k ys)
shifted t a k [] = refl
shifted {K = K} t a k (y ∷ ys) = let e : (a + k) + 1 ≡ a + (k + 1) = omega arith in one (t y) (ap (λ n. position_from t n ys) e ∙ shifted t a (k + 1) ys)
  where
    one : (b : Bool) → position_from t ((a + k) + 1) ys ≡ option_map (λ n. a + n) (position_from t (k + 1) ys) → cond b (Some (a + k)) (position_from t ((a + k) + 1) ys) ≡ option_map (λ n. a + n) (cond b (Some k) (position_from t (k + 1) ys))
    one true h = refl
    one false h = h

pub behind : {K : Type 0} (t : K → Bool) (k : ℕ) (xs ys : List K) → position_from t k (xs ++ ys) ≡ option_or (position_from t k xs) (position_from t (k + length xs) ys)
behind t k [] ys = let e : k ≡ k + 0 = omega arith in ap (λ n. position_from t n ys) e
behind {K = K} t k (x ∷ xs) ys = let e : (k + 1) + length xs ≡ k + suc (length xs) = omega arith in one (t x) (behind t (k + 1) xs ys ∙ ap (λ n. option_or (position_from t (k + 1) xs) (position_from t n ys)) e)
  where
    one : (b : Bool) → position_from t (k + 1) (xs ++ ys) ≡ option_or (position_from t (k + 1) xs) (position_from t (k + suc (length xs)) ys)
        → cond b (Some k) (position_from t (k + 1) (xs ++ ys)) ≡ option_or (cond b (Some k) (position_from t (k + 1) xs)) (position_from t (k + suc (length xs)) ys)
    one true h = refl
    one false h = h

number_units : (gs cs : List Data) (t : List ℕ) → number_of (gs ++ cs) t ≡ option_or (number_of gs t) (option_map (λ n. length gs + n) (number_of cs t))
number_units gs cs t =
    let test = λ (e : Data). is_called t (text_at e Name) in
    let e : 0 + length gs ≡ length gs + 0 = omega arith in
    behind test 0 gs cs ∙ ap (option_or (number_of gs t)) (ap (λ n. position_from test n cs) e ∙ shifted test (length gs) 0 cs)

-- a group has the name
pub taken_by_group : (gs cs : List Data) (i n : ℕ) (t : List ℕ) → number_of gs t ≡ Some n → is_taken (gs ++ cs) i (Some t) ≡ not (n == i)
taken_by_group gs cs i n t is = ap (λ o. is_other o i) (number_units gs cs t ∙ ap (λ o. option_or o (option_map (λ n. length gs + n) (number_of cs t))) is)

-- and no class is that group
pub taken_before : (gs cs : List Data) (i n : ℕ) (t : List ℕ) → number_of gs t ≡ Some n → is_taken (gs ++ cs) (length gs + i) (Some t) ≡ true
taken_before gs cs i n t is = taken_by_group gs cs (length gs + i) n t is ∙ differs n (length gs) i (named gs t n is).0
  where
    differs : (n g i : ℕ) → n < g → not (n == g + i) ≡ true
    differs n g i h = grind (arith, nat_tests)

-- none has
pub taken_by_class : (gs cs : List Data) (i : ℕ) (t : List ℕ) → number_of gs t ≡ None → is_taken (gs ++ cs) i (Some t) ≡ is_other (option_map (λ n. length gs + n) (number_of cs t)) i
taken_by_class gs cs i t is = ap (λ o. is_other o i) (number_units gs cs t ∙ ap (λ o. option_or o (option_map (λ n. length gs + n) (number_of cs t))) is)

pub taken_among : (gs cs : List Data) (i : ℕ) (t : List ℕ) → number_of gs t ≡ None → is_taken (gs ++ cs) (length gs + i) (Some t) ≡ is_other (number_of cs t) i
taken_among gs cs i t is = taken_by_class gs cs (length gs + i) t is ∙ one (number_of cs t)
  where
    one : (o : Option ℕ) → is_other (option_map (λ n. length gs + n) o) (length gs + i) ≡ is_other o i
    one None = refl
    one (Some n) = same (length gs) n i
      where
        same : (g n i : ℕ) → not (g + n == g + i) ≡ not (n == i)
        same g n i = grind (arith, nat_tests)
