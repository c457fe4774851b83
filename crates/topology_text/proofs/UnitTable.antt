-- The table of classes by group and service.
use Rattle.std.proofs.Common.{◌≡◌, ℕ, ◌+◌, ◌*◌, ◌<◌, ◌≤◌, Bool, true, false, ◌==◌, ◌&&◌, cond, List, [], ◌∷◌, ◌++◌, length, get_or, set, take, if◌then◌else◌, Option, None, Some, All, AllPairs, refl, ap, sym, ◌∙◌, arith}
use Rattle.std.proofs.lemmas.Bool.Decides.{nat_tests}
use Rattle.std.proofs.lemmas.Grind.{get_or-set_at}
use Rattle.std.proofs.lemmas.Iterator.Adapters.{position_from-zero}
use Rattle.std.proofs.lemmas.List.{get_or-set_other, get_or-take, length-set, length-take-le, take_all, take_more}
use Rattle.std.proofs.lemmas.List.Quantifiers.{position-Some}
use Rattle.std.specs.List.{position, position_from}
use Rattle.std.specs.Option.{option_or}
use Rattle.map_model.specs.declared.instance.GroupId.{GroupId}
use Rattle.topology_text.specs.Plan.{is_class_of, number_or}
use Rattle.topology_text.specs.Units.{AreUnits, HasFewServices, unit_or}
use Rattle.topology_text.proofs.UnitNumbers.{behind}

-- so far the table has the first i classes
pub record AreTabled (groups : ℕ) (pairs : List (GroupId × ℕ)) (i : ℕ) (units : List ℕ) : Type 0 where
  pub size : length units ≡ groups * 64
  pub each : (g s : ℕ) → s < 64 → get_or units (g * 64 + s) 0 ≡ number_or (λ k. groups + k) (position (is_class_of g s) (take i pairs)) 0

-- the first place in a list with one more element
snoc : {X : Type 0} (t : X → Bool) (xs : List X) (x : X) → position t (xs ++ x ∷ []) ≡ option_or (position t xs) (cond (t x) (Some (length xs)) None)
snoc t xs x = position_from-zero t (xs ++ x ∷ []) ∙ behind t 0 xs (x ∷ []) ∙ ap (λ o. option_or o (position_from t (0 + length xs) (x ∷ []))) (sym (position_from-zero t xs)) ∙ ap (λ n. option_or (position t xs) (cond (t x) (Some n) None)) same
  where
    same : 0 + length xs ≡ length xs
    same = omega arith

or_none : (o : Option ℕ) → option_or o None ≡ o
or_none None = refl
or_none (Some k) = refl

-- the class at a place is the first of its group and service
first_there : (pairs : List (GroupId × ℕ)) (i : ℕ) (d : GroupId × ℕ) (g s : ℕ) → AllPairs (λ a b. a.0.0 ≡ b.0.0 → a.1 ≡ b.1 → ⊥) pairs → i < length pairs → (get_or pairs i d).0.0 ≡ g → (get_or pairs i d).1 ≡ s
    → position (is_class_of g s) (take i pairs) ≡ None
first_there pairs i d g s once l one two = none (position (is_class_of g s) (take i pairs)) refl
  where
    parts : (a b c e : ℕ) → (a == b && c == e) ≡ true → (a ≡ b) × (c ≡ e)
    parts a b c e h = (grind (arith, nat_tests), grind (arith, nat_tests))

    none : (o : Option ℕ) → position (is_class_of g s) (take i pairs) ≡ o → o ≡ None
    none None is = refl
    none (Some k) is =
        let (below, passes, before) = position-Some (is_class_of g s) (take i pairs) k d is in
        let len : length (take i pairs) ≡ i = length-take-le i pairs (omega (arith, l)) in
        let low : k < i = omega (arith, below, len) in
        let same = get_or-take i pairs k d low in
        let (x, y) = parts (get_or (take i pairs) k d).0.0 g (get_or (take i pairs) k d).1 s passes in
        absurd (once k i d low l (ap (λ (e : GroupId × ℕ). e.0.0) (sym same) ∙ x ∙ sym one) (ap (λ (e : GroupId × ℕ). e.1) (sym same) ∙ y ∙ sym two))

-- one more class
pub tabled_on : (groups : ℕ) (pairs : List (GroupId × ℕ)) (i : ℕ) (d : GroupId × ℕ) (old new : List ℕ) → AreTabled groups pairs i old → i < length pairs
    → All (λ e. e.0.0 < groups) pairs → All (λ e. e.1 < 64) pairs → AllPairs (λ a b. a.0.0 ≡ b.0.0 → a.1 ≡ b.1 → ⊥) pairs
    → new ≡ set old ((get_or pairs i d).0.0 * 64 + (get_or pairs i d).1) (groups + i) → AreTabled groups pairs (i + 1) new
tabled_on groups pairs i d old new t l owned served once put = record {
  size = ap length put ∙ length-set old at (groups + i) ∙ t.size;
  each = λ g s low. one g s low (is_class_of g s (get_or pairs i d)) refl;
}
  where
    p : GroupId × ℕ
    p = get_or pairs i d

    at : ℕ
    at = p.0.0 * 64 + p.1

    parts : (a b c e : ℕ) → (a == b && c == e) ≡ true → (a ≡ b) × (c ≡ e)
    parts a b c e h = (grind (arith, nat_tests), grind (arith, nat_tests))

    apart : (a b c e : ℕ) → (a == b && c == e) ≡ false → c < 64 → e < 64 → b * 64 + e ≡ a * 64 + c → ⊥
    apart a b c e h x y q =
        let one : a ≡ b = omega arith in
        let two : c ≡ e = omega arith in
        absurd (grind (arith, nat_tests))

    more : (g s : ℕ) → position (is_class_of g s) (take (i + 1) pairs) ≡ option_or (position (is_class_of g s) (take i pairs)) (cond (is_class_of g s p) (Some (length (take i pairs))) None)
    more g s = ap (position (is_class_of g s)) (take_more pairs i d l) ∙ snoc (is_class_of g s) (take i pairs) p

    one : (g s : ℕ) → s < 64 → (b : Bool) → is_class_of g s p ≡ b → get_or new (g * 64 + s) 0 ≡ number_or (λ k. groups + k) (position (is_class_of g s) (take (i + 1) pairs)) 0
    one g s low true is =
        let (x, y) = parts p.0.0 g p.1 s is in
        let own : p.0.0 < groups = owned i d l in
        let size = t.size in
        let here : g * 64 + s ≡ at = omega (arith, x, y) in
        let room : at < length old = omega (arith, own, size, y, low) in
        let len : length (take i pairs) ≡ i = length-take-le i pairs (omega (arith, l)) in
        let found : position (is_class_of g s) (take (i + 1) pairs) ≡ Some i =
        more g s ∙ ap (λ b. option_or (position (is_class_of g s) (take i pairs)) (cond b (Some (length (take i pairs))) None)) is
        ∙ ap (λ o. option_or o (Some (length (take i pairs)))) (first_there pairs i d g s once l x y) ∙ ap Some len in
        ap (λ xs. get_or xs (g * 64 + s) 0) put ∙ get_or-set_at old at (g * 64 + s) (groups + i) 0 here room ∙ sym (ap (λ o. number_or (λ k. groups + k) o 0) found)
    one g s low false is =
        let low2 : p.1 < 64 = served i d l in
        let found : position (is_class_of g s) (take (i + 1) pairs) ≡ position (is_class_of g s) (take i pairs) =
        more g s ∙ ap (λ b. option_or (position (is_class_of g s) (take i pairs)) (cond b (Some (length (take i pairs))) None)) is ∙ or_none (position (is_class_of g s) (take i pairs)) in
        ap (λ xs. get_or xs (g * 64 + s) 0) put ∙ get_or-set_other old at (g * 64 + s) (groups + i) 0 (apart p.0.0 g p.1 s is low2 low) ∙ t.each g s low ∙ sym (ap (λ o. number_or (λ k. groups + k) o 0) found)

-- all classes
pub tabled_end : (groups : ℕ) (pairs : List (GroupId × ℕ)) (i : ℕ) (units : List ℕ) → AreTabled groups pairs i units → length pairs ≤ i → All (λ e. e.0.0 < groups) pairs → AreUnits units (record { groups = groups; pairs = pairs })
tabled_end groups pairs i units t h owned g s low =
    ap (λ u. unit_or u g) (t.each g s low ∙ ap (λ xs. number_or (λ k. groups + k) (position (is_class_of g s) xs) 0) (take_all i pairs h)) ∙ last (position (is_class_of g s) pairs) refl
  where
    some : (n k : ℕ) → 0 < n → (n + k == 0) ≡ false
    some n k h = grind (arith, nat_tests)

    last : (o : Option ℕ) → position (is_class_of g s) pairs ≡ o → unit_or (number_or (λ k. groups + k) o 0) g ≡ number_or (λ k. groups + k) o g
    last None is = refl
    last (Some k) is =
        let d : GroupId × ℕ = (record { 0 = 0 }, 0) in
        let own : (get_or pairs k d).0.0 < groups = owned k d (position-Some (is_class_of g s) pairs k d is).0 in
        ap (λ b. if b then g else groups + k) (some groups k (omega (arith, own)))

-- no class is of a service past the most that there are
pub few_services : (groups : ℕ) (pairs : List (GroupId × ℕ)) → All (λ e. e.1 < 64) pairs → HasFewServices (record { groups = groups; pairs = pairs })
few_services groups pairs served g s high = none (position (is_class_of g s) pairs) refl
  where
    service : (a b c e : ℕ) → (a == b && c == e) ≡ true → c ≡ e
    service a b c e h = grind (arith, nat_tests)

    none : (o : Option ℕ) → position (is_class_of g s) pairs ≡ o → number_or (λ k. groups + k) o g ≡ g
    none None is = refl
    none (Some k) is =
        let d : GroupId × ℕ = (record { 0 = 0 }, 0) in
        let (below, passes, before) = position-Some (is_class_of g s) pairs k d is in
        let same : (get_or pairs k d).1 ≡ s = service (get_or pairs k d).0.0 g (get_or pairs k d).1 s passes in
        let low : (get_or pairs k d).1 < 64 = served k d below in
        absurd (omega (arith, high, same, low))
