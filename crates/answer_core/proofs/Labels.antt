-- A name that stands under an apex, whatever the case of letters.
use Rattle.std.proofs.Common.{◌≡◌, ℕ, zero, suc, ◌+◌, ◌<◌, ◌-◌, ◌≤◌, Bool, true, false, not, cond, nat_lt, Option, None, Some, IfSome, ◌&&◌, ◌||◌, ◌==◌, eqb, List, [], ◌∷◌, ◌++◌, length, get_or, take, refl, sym, ap, ◌∙◌, arith, length-append, length-take}
use Rattle.std.specs.Char.{to_ascii_lowercase}
use Rattle.std.specs.List.{list_all, list_any, position, prefix_len}
use Rattle.std.proofs.lemmas.List.Quantifiers.{position-Some}
use Rattle.std.proofs.Math.Seq.{take-append_seam}
use Rattle.std.proofs.lemmas.Bool.{and_parts, eq-eqb, false_from_ne_true, ltb-false, ne_eqb}
use Rattle.std.specs.Prelude.{if◌then◌else◌}
use Rattle.name_text.specs.declared.fault.NameFault.TheVariants.{EmptyLabel, BadByte, LongLabel}
use Rattle.name_text.specs.Names.{is_label_byte, is_same, is_under, label_fault, labels_part, rests_after}
use Rattle.name_text.specs.Wire.{wire}
use Rattle.topology_text.specs.declared.topology.Zone.{Zone}
use Rattle.topology_text.specs.Plan.{IsService, IsZone}
use Rattle.answer_core.specs.Outcome.{service_of}

-- some octets, and then those of the apex
record Ends (name apex : List ℕ) : Type 0 where
  front : List ℕ
  back : List ℕ
  parts : name ≡ front ++ back
  same : is_same back apex ≡ true

longer : (x : ℕ) (xs apex : List ℕ) → Ends xs apex → Ends (x ∷ xs) apex
longer x xs apex e = record { front = x ∷ e.front; back = e.back; parts = ap (λ (l : List ℕ). x ∷ l) e.parts; same = e.same }

ends_after : (left : ℕ) (xs apex : List ℕ) → list_any (λ rest. is_same rest apex) (rests_after left xs) ≡ true → Ends xs apex
ends_after left [] apex h = absurd cc
ends_after (suc left) (x ∷ xs) apex h = longer x xs apex (ends_after left xs apex h)
ends_after zero (x ∷ xs) apex h = here (is_same (x ∷ xs) apex) refl h (λ g. longer x xs apex (ends_after x xs apex g))
  where
    here : (b : Bool) → is_same (x ∷ xs) apex ≡ b → (b || list_any (λ rest. is_same rest apex) (rests_after x xs)) ≡ true → (list_any (λ rest. is_same rest apex) (rests_after x xs) ≡ true → Ends (x ∷ xs) apex) → Ends (x ∷ xs) apex
    here true e g further = record { front = []; back = x ∷ xs; parts = refl; same = e }
    here false e g further = further g

ends : (name apex : List ℕ) → is_under name apex ≡ true → Ends name apex
unfolding is_under
ends name apex h = ends_after 0 name apex h

same_length : (xs ys : List ℕ) → is_same xs ys ≡ true → length xs ≡ length ys
same_length [] [] h = refl
same_length [] (y ∷ ys) h = absurd cc
same_length (x ∷ xs) [] h = absurd cc
same_length (x ∷ xs) (y ∷ ys) h = ap suc (same_length xs ys (and_parts (eqb (to_ascii_lowercase x) (to_ascii_lowercase y)) (is_same xs ys) h).1)

pub other_length : (xs ys : List ℕ) → (length xs ≡ length ys → ⊥) → is_same xs ys ≡ false
other_length xs ys other = false_from_ne_true (is_same xs ys) (λ h. other (same_length xs ys h))

-- where both end with the apex, what stands before it decides
before : (front back labels apex : List ℕ) → is_same back apex ≡ true → is_same (front ++ back) (labels ++ apex) ≡ is_same front labels
before [] back [] apex h = h
before [] back (y ∷ ys) apex h = let e = same_length back apex h in other_length back (y ∷ ys ++ apex) (λ f. omega (arith, e, f, length-append ys apex))
before (x ∷ xs) back [] apex h = let e = same_length back apex h in other_length (x ∷ xs ++ back) apex (λ f. omega (arith, e, f, length-append xs back))
before (x ∷ xs) back (y ∷ ys) apex h = ap (λ (b : Bool). eqb (to_ascii_lowercase x) (to_ascii_lowercase y) && b) (before xs back ys apex h)

-- the first place of what passes, by tests that agree
prefix_len_same : {A : Type 0} (p q : A → Bool) → ((x : A) → p x ≡ q x) → (xs : List A) → prefix_len p xs ≡ prefix_len q xs
prefix_len_same p q each [] = refl
prefix_len_same p q each (x ∷ xs) = ap (λ b. cond b (1 + prefix_len p xs) 0) (each x) ∙ ap (λ n. cond (q x) (1 + n) 0) (prefix_len_same p q each xs)

position_same : {A : Type 0} (p q : A → Bool) → ((x : A) → p x ≡ q x) → (xs : List A) → position p xs ≡ position q xs
position_same p q each xs = ap (λ n. cond (nat_lt n (length xs)) (Some n) None) (prefix_len_same (λ x. not (p x)) (λ x. not (q x)) (λ x. ap not (each x)) xs)

pub position_within : (p : List ℕ → Bool) (xs : List (List ℕ)) → IfSome (position p xs) (λ n. n < length xs)
position_within p xs = go (position p xs) refl
  where
    go : (o : Option ℕ) → position p xs ≡ o → IfSome o (λ n. n < length xs)
    go None is = tt
    go (Some n) is = (position-Some p xs n [] is).0

pub no_shorter : (name apex : List ℕ) → is_under name apex ≡ true → length apex ≤ length name
no_shorter name apex h =
    let e = ends name apex h in
    omega (arith, ap length e.parts, length-append e.front e.back, same_length e.back apex e.same)

-- what stands before the apex
front_is : (name apex : List ℕ) (e : Ends name apex) → take (length name - length apex) name ≡ e.front
front_is name apex e =
    let n : length name - length apex ≡ length e.front = omega (arith, ap length e.parts, length-append e.front e.back, same_length e.back apex e.same) in
    ap (λ (k : ℕ). take k name) n ∙ ap (take (length e.front)) e.parts ∙ take-append_seam e.front e.back

pub by_labels : (name apex labels : List ℕ) (services : List (List ℕ)) → is_under name apex ≡ true → labels ≡ take (length name - length apex) name → position (λ s. is_same labels (labels_part s)) services ≡ position (λ s. is_same name (labels_part s ++ apex)) services
by_labels name apex labels services h is =
    let e = ends name apex h in
    ap (λ (l : List ℕ). position (λ s. is_same l (labels_part s)) services) (is ∙ front_is name apex e)
    ∙ position_same (λ s. is_same e.front (labels_part s)) (λ s. is_same (e.front ++ e.back) (labels_part s ++ apex)) (λ s. sym (before e.front e.back (labels_part s) apex e.same)) services
    ∙ ap (λ (l : List ℕ). position (λ s. is_same l (labels_part s ++ apex)) services) (sym e.parts)

-- it is the apex, where it is no longer
alone : (front back apex : List ℕ) → is_same back apex ≡ true → (length (front ++ back) == length apex) ≡ is_same (front ++ back) apex
alone [] back apex h = eq-eqb _ _ (same_length back apex h) ∙ sym h
alone (x ∷ xs) back apex h =
    let longer : length (x ∷ xs ++ back) ≡ length apex → ⊥ = λ f. omega (arith, f, length-append xs back, same_length back apex h) in
    ne_eqb _ _ longer ∙ sym (other_length (x ∷ xs ++ back) apex longer)

pub by_length : (name apex : List ℕ) → is_under name apex ≡ true → (length name == length apex) ≡ is_same name apex
by_length name apex h =
    let e = ends name apex h in
    ap (λ (l : List ℕ). length l == length apex) e.parts ∙ alone e.front e.back apex e.same ∙ ap (λ (l : List ℕ). is_same l apex) (sym e.parts)

-- the label of a service has at most 63 octets
label_len : (label : List ℕ) → label_fault label ≡ None → length label ≤ 63
label_len label none = by (length label == 0) (list_all is_label_byte label) (nat_lt 63 (length label)) refl none
  where
    by : (a b c : Bool) → nat_lt 63 (length label) ≡ c → (if a then Some EmptyLabel else if not b then Some BadByte else if c then Some LongLabel else None) ≡ None → length label ≤ 63
    by a b false e none = omega (arith, ltb-false 63 (length label) e)
    by true b true e none = absurd cc
    by false true true e none = absurd cc
    by false false true e none = absurd cc

service_short : (z : Zone) (service name : List ℕ) → IsService service → is_same name (labels_part service ++ z.apex) ≡ true → length z.apex ≤ 64 → length name ≤ 128
service_short z service name s same apex =
    let size : length service ≡ length (wire (s.0 ∷ [])) = ap length s.2 in
    let one : length (wire (s.0 ∷ [])) ≡ suc (length s.0 + 1) = ap suc (length-append s.0 (0 ∷ [])) in
    omega (arith, same_length name (labels_part service ++ z.apex) same, length-append (labels_part service) z.apex, length-take (length service - 1) service, size, one, label_len s.0 s.1, apex)

-- the name of a service has at most 128 octets
pub service_len : (z : Zone) (name : List ℕ) (n : ℕ) → IsZone z → service_of z name ≡ Some n → length name ≤ 128
service_len z name n zone is =
    let at = position-Some (λ service. is_same name (labels_part service ++ z.apex)) z.services n [] is in service_short z (get_or z.services n []) name (zone.services n [] at.0) at.1 zone.apex
