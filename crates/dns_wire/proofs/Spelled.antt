-- A name that is read is the spelling of its labels, and the spelling is read.
use Rattle.std.proofs.Common.{◌≡◌, ℕ, zero, suc, ◌+◌, ◌<◌, ◌≤◌, false, List, [], ◌∷◌, ◌++◌, length, take, drop, Option, Some, None, refl, sym, ap, subst, ◌∙◌, arith, length-append, append_assoc, inl, inr}
use Rattle.std.proofs.lemmas.Bool.{cases_lt, cases_eq}
use Rattle.std.proofs.lemmas.List.{drop_at, length-drop, length-take}
use Rattle.dns_wire.specs.Wire.{name_len}
use Rattle.name_text.specs.Wire.{wire, AreLabels, IsName}
use Rattle.name_text.proofs.Forms.{some_wire}
use Rattle.dns_wire.proofs.Names.{later, name_len-label}

-- the first so many octets are the spelling of labels
record Spells (octets : List ℕ) (size : ℕ) : Type 0 where
  labels : List (List ℕ)
  form : AreLabels labels
  spelled : take size octets ≡ wire labels
  size_is : size ≡ length (wire labels)

-- a length that is counted from further on is there
later_some : (k n : ℕ) (o : Option ℕ) → later k o ≡ Some n → (m : ℕ) × (o ≡ Some m) × (n ≡ k + m)
later_some k n None e = absurd cc
later_some k n (Some m) e = (m, refl, cc)

some_is : (m n : ℕ) → (let o : Option ℕ = Some m in o) ≡ Some n → m ≡ n
some_is m n e = cc

ends : (b : ℕ) (octets : List ℕ) (n : ℕ) → b ≡ 0 → name_len false 0 (b ∷ octets) ≡ Some n → n ≡ 1
unfolding name_len
ends b octets n z e = let f : name_len false 0 (b ∷ octets) ≡ Some 1 = grind arith in sym (some_is 1 n (sym f ∙ e))

reserved : (b : ℕ) (octets : List ℕ) (n : ℕ) → 64 ≤ b → name_len false 0 (b ∷ octets) ≡ Some n → ⊥
unfolding name_len
reserved b octets n high e = let f : name_len false 0 (b ∷ octets) ≡ None = grind arith in let g : (let o : Option ℕ = None in o) ≡ Some n = sym f ∙ e in absurd cc

nothing : (n : ℕ) → name_len false 0 [] ≡ Some n → ⊥
unfolding name_len
nothing n e = absurd cc

abbrev nil : List ℕ
nil = []

no_more : (k m : ℕ) → take (suc (k + m)) nil ≡ nil ++ take m nil
no_more k zero = refl
no_more k (suc m) = refl

take-plus : (k m : ℕ) (xs : List ℕ) → take (k + m) xs ≡ take k xs ++ take m (drop k xs)
take-plus zero m xs = ap (λ (n : ℕ). take n xs) (omega arith)
take-plus (suc k) m [] = let e : suc k + m ≡ suc (k + m) = omega arith in subst (λ (n : ℕ). take n nil ≡ nil ++ take m nil) (sym e) (no_more k m)
take-plus (suc k) m (x ∷ xs) = let e : suc k + m ≡ suc (k + m) = omega arith in ap (λ (n : ℕ). take n (x ∷ xs)) e ∙ ap (λ (l : List ℕ). x ∷ l) (take-plus k m xs)

last_octet : (b n : ℕ) (octets : List ℕ) → b ≡ 0 → n ≡ 1 → Spells (b ∷ octets) n
last_octet b n octets z one = record { labels = []; form = tt; spelled = ap (λ (k : ℕ). take k (b ∷ octets)) one ∙ ap (λ (x : ℕ). x ∷ []) z; size_is = one }

longer : (b n m : ℕ) (octets : List ℕ) → 0 < b → b < 64 → n ≡ 1 + b + m → Spells (drop b octets) m → Spells (b ∷ octets) n
longer b n m octets some short is rest =
    let left : 0 < length (wire rest.labels) = some_wire rest.labels in
    let enough : b ≤ length octets = omega (arith, ap length rest.spelled, length-take m (drop b octets), length-drop b octets) in
    let size : length (take b octets) ≡ b = omega (arith, length-take b octets) in
    let whole : take n (b ∷ octets) ≡ b ∷ (take b octets ++ wire rest.labels) = ap (λ (k : ℕ). take k (b ∷ octets)) (let e : n ≡ suc (b + m) = omega arith in e) ∙ ap (λ (l : List ℕ). b ∷ l) (take-plus b m octets ∙ ap (λ (l : List ℕ). take b octets ++ l) rest.spelled) in
    record {
      labels = take b octets ∷ rest.labels;
      form = (omega arith, omega arith, rest.form);
      spelled = whole ∙ ap (λ (k : ℕ). k ∷ (take b octets ++ wire rest.labels)) (sym size);
      size_is = omega (arith, rest.size_is, length-append (take b octets) (wire rest.labels));
    }

found : (fuel : ℕ) (octets : List ℕ) (n : ℕ) → length octets ≤ fuel → name_len false 0 octets ≡ Some n → Spells octets n
found zero [] n le e = absurd (nothing n e)
found zero (b ∷ octets) n le e = absurd (omega arith)
found (suc fuel) [] n le e = absurd (nothing n e)
found (suc fuel) (b ∷ octets) n le e =
    elim (cases_eq b 0) [
      | inl z ↦ last_octet b n octets z (ends b octets n z e)
      | inr some ↦ elim (cases_lt b 64) [
        | inr high ↦ absurd (reserved b octets n high e)
        | inl short ↦ (
            let more = later_some (1 + b) n (name_len false 0 (drop b octets)) (sym (name_len-label false b octets (omega arith) short) ∙ e) in
            let shorter : length (drop b octets) ≤ fuel = omega (arith, length-drop b octets) in
            longer b n more.0 octets (omega arith) short more.2 (found fuel (drop b octets) more.0 shorter more.1))
      ]
    ]

-- what is read as a name without pointers, and is short enough, is a name
pub is_name : (octets : List ℕ) (n : ℕ) → name_len false 0 octets ≡ Some n → n ≤ 255 → IsName (take n octets)
is_name octets n e short =
    let s = found (length octets) octets n (omega arith) e in
    record { labels = s.labels; sizes = s.form; spelled = s.spelled; fits = omega (arith, length-take n octets) }
