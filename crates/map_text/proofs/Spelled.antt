-- What is read of a word that was written.
use Rattle.std.proofs.Common.{◌≡◌, ℕ, ◌<◌, ◌^◌, ◌==◌, Bool, true, false, ◌&&◌, cond, nat_le, nat_lt, List, [], ◌∷◌, length, get_or, AllPairs, IsTrue, Option, None, Some, option_map, refl, ap, sym, ◌∙◌, arith}
use Rattle.std.proofs.lemmas.Bool.{and_parts, false_from_ne_true}
use Rattle.std.proofs.lemmas.Bool.Decides.{nat_tests}
use Rattle.std.proofs.lemmas.Fmt.{decimal_is_IsNumeral, first_decimal}
use Rattle.std.proofs.lemmas.Slice.Eq.{bytes_eq-Decides}
use Rattle.std.proofs.lemmas.Str.Parse.{digit_from_value}
use Rattle.std.specs.Char.{is_ascii_digit}
use Rattle.std.specs.Fmt.{decimal}
use Rattle.std.specs.List.{list_all}
use Rattle.std.specs.Option.{option_and_then}
use Rattle.std.specs.Str.{bytes_eq}
use Rattle.std.specs.Str.Parse.{AllDigits, digits_value}
use Rattle.map_model.specs.declared.instance.Offer.{Offer}
use Rattle.map_model.specs.Market.{Market, IsMarket, choices_of, pool_of}
use Rattle.map_model.specs.Allocation.{IsOffer}
use Rattle.map_model.proofs.Paths.{pool_there}
use Rattle.topology_text.specs.Plan.{IsPlan, Plan, number_in}
use Rattle.topology_text.specs.Texts.{is_name, is_name_byte}
use Rattle.text_parts.specs.Counts.{count_of}
use Rattle.map_text.specs.Lines.{amount_of, offer_of, place_of}
use Rattle.map_text.specs.Writing.{name_at}
use Rattle.map_text.proofs.Firsts.{position_here}
use Rattle.addr_text.proofs.Splits.{Lacks}

-- octets that all pass a test lack one that doesn't
lacks_all : (c : ℕ) (test : ℕ → Bool) → test c ≡ false → (xs : List ℕ) → list_all test xs ≡ true → Lacks c xs
lacks_all c test out [] all = tt
lacks_all c test out (x ∷ xs) all =
    let p = and_parts (test x) (list_all test xs) all in
    (false_from_ne_true (x == c) (λ e. let is : x ≡ c = grind (arith, nat_tests) in let t : test c ≡ true = ap test (sym is) ∙ p.0 in cc), lacks_all c test out xs p.1)

-- a name has neither spaces nor ends of lines in it, and is not empty
pub record IsWord (word : List ℕ) : Type 0 where
  pub no_space : Lacks 32 word
  pub no_end : Lacks 10 word
  pub some : 0 < length word

pub name_word : (name : List ℕ) → IsTrue (is_name name) → IsWord name
name_word name h =
    let p = and_parts (nat_le 1 (length name) && nat_le (length name) 32) (list_all is_name_byte name) h in
    let q = and_parts (nat_le 1 (length name)) (nat_le (length name) 32) p.0 in
    record { no_space = lacks_all 32 is_name_byte refl name p.1; no_end = lacks_all 10 is_name_byte refl name p.1; some = grind (arith, nat_tests) }

all_digits : (ds : List ℕ) → AllDigits 10 ds → list_all is_ascii_digit ds ≡ true
all_digits [] h = refl
all_digits (c ∷ cs) h =
    let range = digit_from_value c h.0 in
    let here : is_ascii_digit c ≡ true = grind (arith, nat_tests) in
    ap (λ b. b && list_all is_ascii_digit cs) here ∙ all_digits cs h.1

pub amount_word : (n : ℕ) → n < 2 ^ 32 → IsWord (decimal n)
amount_word n fits =
    let h = decimal_is_IsNumeral n (omega arith) in
    let ds = all_digits (decimal n) h.0.1 in
    record { no_space = lacks_all 32 is_ascii_digit refl (decimal n) ds; no_end = lacks_all 10 is_ascii_digit refl (decimal n) ds; some = h.0.0 }

read_digits : (w : List ℕ) (n : ℕ) → list_all is_ascii_digit w ≡ true → 48 < get_or w 0 0 → digits_value 10 w ≡ n → 0 < n → n < 2 ^ 32 → amount_of w ≡ Some n
unfolding count_of
read_digits w n digits lead value some fits =
    let first : nat_lt 48 (get_or w 0 0) ≡ true = grind (arith, nat_tests) in
    let low : nat_le 1 (digits_value 10 w) ≡ true = grind (arith, nat_tests) in
    let high : nat_le (digits_value 10 w) 4294967295 ≡ true = grind (arith, nat_tests) in
    go (nat_lt 48 (get_or w 0 0)) (list_all is_ascii_digit w) (nat_le 1 (digits_value 10 w)) (nat_le (digits_value 10 w) 4294967295) first digits low high ∙ ap Some value
  where
    go : (a b c d : Bool) → a ≡ true → b ≡ true → c ≡ true → d ≡ true → cond ((a && b) && (c && d)) (Some (digits_value 10 w)) None ≡ Some (digits_value 10 w)
    go a b c d ta tb tc td = rw (ta, tb, tc, td) refl

pub amount_again : (n : ℕ) → 0 < n → n < 2 ^ 32 → amount_of (decimal n) ≡ Some n
amount_again n some fits =
    let h = decimal_is_IsNumeral n (omega arith) in
    read_digits (decimal n) n (all_digits (decimal n) h.0.1) (first_decimal n some (omega arith)) h.1 some fits

-- the number of the name of a number
pub number_again : (names : List (List ℕ)) (n : ℕ) → AllPairs (λ a b. a ≡ b → ⊥) names → n < length names → number_in names (name_at names n) ≡ Some n
number_again names n distinct lt =
    position_here (bytes_eq (get_or names n [])) names n [] lt
    (λ k below. false_from_ne_true (bytes_eq (get_or names n []) (get_or names k [])) (λ e. distinct k n [] below lt (sym ((bytes_eq-Decides (get_or names n []) (get_or names k [])).0 e))))
    ((bytes_eq-Decides (get_or names n []) (get_or names n [])).1 refl)

-- the place of the pool at a place
pub place_again : (m : Market) → IsMarket m → (g k : ℕ) → IsOffer m g k → place_of m g (pool_of m g k) ≡ Some k
place_again m market g k o =
    let group = market.groups g (record { demand = 0; choices = [] }) o.group in
    position_here (λ c. c.pool.0 == pool_of m g k) (choices_of m g) k (record { pool = record { 0 = 0 }; score = 0; limit = 0 }) o.place
    (λ j below. false_from_ne_true (pool_of m g j == pool_of m g k) (λ e. group.distinct j k (record { pool = record { 0 = 0 }; score = 0; limit = 0 }) below o.place (grind (arith, nat_tests))))
    (grind (arith, nat_tests))

-- the offer of the names of an offer
pub offer_again : (t : Plan) → IsPlan t → (g k : ℕ) → IsOffer t.market g k → offer_of t (name_at t.group_names g) (name_at t.node_names (pool_of t.market g k)) ≡ Some (record { group = record { 0 = g }; place = k })
offer_again t plan g k o =
    let pool = pool_of t.market g k in
    let name = name_at t.node_names pool in
    let in_groups : g < length t.group_names = let e = plan.groups.as_many in let w = o.group in omega arith in
    let in_nodes : pool < length t.node_names = let e = plan.nodes.as_many in let w = pool_there t.market plan.market g k o in omega arith in
    let put : ℕ → ℕ → Offer = λ h j. record { group = record { 0 = h }; place = j } in
    ap (λ (x : Option ℕ). option_and_then (λ h. option_and_then (λ n. option_map (put h) (place_of t.market h n)) (number_in t.node_names name)) x) (number_again t.group_names g plan.groups.distinct in_groups)
    ∙ ap (λ (x : Option ℕ). option_and_then (λ n. option_map (put g) (place_of t.market g n)) x) (number_again t.node_names pool plan.nodes.distinct in_nodes)
    ∙ ap (λ (x : Option ℕ). option_map (put g) x) (place_again t.market plan.market g k o)
