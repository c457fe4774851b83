-- The labels that the dots of a text part, one after another.
use Rattle.std.proofs.Common.{◌≡◌, ◌≢◌, ℕ, ◌+◌, ◌<◌, ◌≤◌, Bool, true, false, cond, nat_le, ◌==◌, List, [], ◌∷◌, ◌++◌, length, take, drop, Option, None, Some, refl, ap, sym, ◌∙◌, arith, length-append, append_assoc}
use Rattle.std.proofs.lemmas.Bool.Decides.{nat_tests}
use Rattle.std.specs.List.{position_from, slice_split}
use Rattle.std.specs.Option.{option_or}
use Rattle.name_text.specs.declared.fault.NameFault.{NameFault}
use Rattle.name_text.specs.Wire.{wire}
use Rattle.name_text.specs.Names.{first_fault, label_fault, short_wire}
use Rattle.text_parts.proofs.Splits.{split_at_hit, split_no_hit}

-- a fault in the first label is the first fault
pub fault_here : (p : ℕ → Bool) (xs : List ℕ) (i : ℕ) (fault : NameFault) (all : Option NameFault) → position_from p 0 xs ≡ Some i → label_fault (take i xs) ≡ Some fault → first_fault (slice_split p xs) ≡ all → Some fault ≡ all
fault_here p xs i fault all hit is before =
    sym (ap first_fault (split_at_hit p xs i hit) ∙ ap (λ (o : Option NameFault). option_or o (first_fault (slice_split p (drop (i + 1) xs)))) is) ∙ before

-- else it is that of the others
pub fault_later : (p : ℕ → Bool) (xs : List ℕ) (i : ℕ) (all : Option NameFault) → position_from p 0 xs ≡ Some i → label_fault (take i xs) ≡ None → first_fault (slice_split p xs) ≡ all → first_fault (slice_split p (drop (i + 1) xs)) ≡ all
fault_later p xs i all hit is before =
    sym (ap first_fault (split_at_hit p xs i hit) ∙ ap (λ (o : Option NameFault). option_or o (first_fault (slice_split p (drop (i + 1) xs)))) is) ∙ before

or_none : (o : Option NameFault) → option_or o None ≡ o
or_none None = refl
or_none (Some fault) = refl

pub fault_last : (p : ℕ → Bool) (xs : List ℕ) (all : Option NameFault) → position_from p 0 xs ≡ None → first_fault (slice_split p xs) ≡ all → label_fault xs ≡ all
fault_last p xs all hit before = sym (or_none (label_fault xs)) ∙ sym (ap first_fault (split_no_hit p xs hit)) ∙ before

-- one more label on the wire
pub wire_step : (p : ℕ → Bool) (xs : List ℕ) (i : ℕ) (old new all : List ℕ) → position_from p 0 xs ≡ Some i → new ≡ old ++ length (take i xs) ∷ take i xs → old ++ wire (slice_split p xs) ≡ all → new ++ wire (slice_split p (drop (i + 1) xs)) ≡ all
wire_step p xs i old new all hit pushed before =
    ap (λ (l : List ℕ). l ++ wire (slice_split p (drop (i + 1) xs))) pushed
    ∙ append_assoc old (length (take i xs) ∷ take i xs) (wire (slice_split p (drop (i + 1) xs)))
    ∙ sym (ap (λ (ls : List (List ℕ)). old ++ wire ls) (split_at_hit p xs i hit))
    ∙ before

-- the last label, and the 0 behind it
pub wire_end : (p : ℕ → Bool) (xs old new all : List ℕ) → position_from p 0 xs ≡ None → new ≡ old ++ length xs ∷ xs → old ++ wire (slice_split p xs) ≡ all → new ++ 0 ∷ [] ≡ all
wire_end p xs old new all hit pushed before =
    ap (λ (l : List ℕ). l ++ 0 ∷ []) pushed
    ∙ append_assoc old (length xs ∷ xs) (0 ∷ [])
    ∙ sym (ap (λ (ls : List (List ℕ)). old ++ wire ls) (split_no_hit p xs hit))
    ∙ before

-- a name that does not fit
pub too_long : (labels : List (List ℕ)) → 255 < length (wire labels) → None ≡ short_wire labels
too_long labels long = let over : nat_le (length (wire labels)) 255 ≡ false = grind (arith, nat_tests) in sym (ap (λ b. cond b (Some (wire labels)) None) over)

pub short_enough : (labels : List (List ℕ)) (octets : List ℕ) → octets ≡ wire labels → length octets ≤ 255 → Some octets ≡ short_wire labels
short_enough labels octets is short =
    let few : length (wire labels) ≤ 255 = omega (arith, ap length is) in
    let under : nat_le (length (wire labels)) 255 ≡ true = grind (arith, nat_tests) in
    ap Some is ∙ sym (ap (λ b. cond b (Some (wire labels)) None) under)

-- a label that finds no room
pub full_at : (p : ℕ → Bool) (xs : List ℕ) (i : ℕ) (old : List ℕ) (labels : List (List ℕ)) → position_from p 0 xs ≡ Some i → 255 < length old + 1 + length (take i xs) → old ++ wire (slice_split p xs) ≡ wire labels → None ≡ short_wire labels
full_at p xs i old labels hit over before =
    let e : old ++ length (take i xs) ∷ (take i xs ++ wire (slice_split p (drop (i + 1) xs))) ≡ wire labels = sym (ap (λ (ls : List (List ℕ)). old ++ wire ls) (split_at_hit p xs i hit)) ∙ before in
    let sizes = length-append old (length (take i xs) ∷ (take i xs ++ wire (slice_split p (drop (i + 1) xs)))) in
    let rest = length-append (take i xs) (wire (slice_split p (drop (i + 1) xs))) in
    too_long labels (omega (arith, ap length e))

pub full_last : (p : ℕ → Bool) (xs old : List ℕ) (labels : List (List ℕ)) → position_from p 0 xs ≡ None → 254 < length old + 1 + length xs → old ++ wire (slice_split p xs) ≡ wire labels → None ≡ short_wire labels
full_last p xs old labels hit over before =
    let e : old ++ length xs ∷ (xs ++ 0 ∷ []) ≡ wire labels = sym (ap (λ (ls : List (List ℕ)). old ++ wire ls) (split_no_hit p xs hit)) ∙ before in
    let sizes = length-append old (length xs ∷ (xs ++ 0 ∷ [])) in
    let rest = length-append xs (0 ∷ []) in
    too_long labels (omega (arith, ap length e))

pub no_room_at_end : (xs old new : List ℕ) → new ≡ old ++ length xs ∷ xs → (length new == 255) ≡ true → 254 < length old + 1 + length xs
no_room_at_end xs old new pushed full =
    let is : length new ≡ 255 = grind (arith, nat_tests) in
    omega (arith, ap length pushed, length-append old (length xs ∷ xs))

pub room_at_end : (before after : ℕ) → (before == 255) ≡ false → before ≤ 255 → after ≡ before + 1 → after ≤ 255
room_at_end before after free fits more = let is_not : before ≢ 255 = grind (arith, nat_tests) in omega arith
