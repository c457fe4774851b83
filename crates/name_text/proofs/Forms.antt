-- Octets that are the spelling of labels.
use Rattle.std.proofs.Common.{◌≡◌, ℕ, ◌<◌, ◌≤◌, Bool, true, false, cond, not, nat_le, nat_lt, ◌==◌, List, [], ◌∷◌, length, Option, None, Some, Ok, Err, refl, ap, sym, ◌∙◌, subst, arith}
use Rattle.std.proofs.lemmas.Bool.Decides.{nat_tests}
use Rattle.std.specs.List.{list_all, onto_first, slice_split}
use Rattle.std.specs.Option.{ok_or, option_or}
use Rattle.std.proofs.lemmas.Bool.{false_from_ne_true, and_parts}
use Rattle.name_text.specs.declared.fault.NameFault.{NameFault}
use Rattle.name_text.specs.declared.fault.NameFault.TheVariants.{EmptyLabel, BadByte, LongLabel, LongName}
use Rattle.name_text.specs.Wire.{wire, AreLabels, IsName}
use Rattle.name_text.specs.Names.{first_fault, is_label_byte, label_fault, label_name_of, named, short_wire}

-- what the three tests of a label say where it has no fault
passes : (empty good long : Bool) → (cond empty (Some EmptyLabel) (cond (not good) (Some BadByte) (cond long (Some LongLabel) None))) ≡ None → (empty ≡ false) × (good ≡ true) × (long ≡ false)
passes true good long h = cc
passes false false long h = cc
passes false true true h = cc
passes false true false h = (refl, refl, refl)

pub record IsSound (label : List ℕ) : Type 0 where
  pub some : 0 < length label
  pub good : list_all is_label_byte label ≡ true
  pub few : length label < 64

pub sound_label : (label : List ℕ) → label_fault label ≡ None → IsSound label
sound_label label none =
    let (some, good, few) = passes (length label == 0) (list_all is_label_byte label) (nat_lt 63 (length label)) none in record {
      some = grind (arith, nat_tests);
      good = good;
      few = grind (arith, nat_tests);
    }

both_none : (a b : Option NameFault) → option_or a b ≡ None → (a ≡ None) × (b ≡ None)
both_none None b h = (refl, h)
both_none (Some fault) b h = cc

-- labels with no fault have the sizes of labels
pub are_labels : (labels : List (List ℕ)) → first_fault labels ≡ None → AreLabels labels
are_labels [] none = tt
are_labels (label ∷ labels) none =
    let (here, later) = both_none (label_fault label) (first_fault labels) none in
    let sound = sound_label label here in (sound.some, sound.few, are_labels labels later)

short_is : (b : Bool) (octets all : List ℕ) → nat_le (length all) 255 ≡ b → Some octets ≡ cond b (Some all) None → (octets ≡ all) × (length all ≤ 255)
short_is true octets all test is = (cc, grind (arith, nat_tests))
short_is false octets all test is = cc

-- what was spelled of labels with no fault is a name
pub is_name : (labels : List (List ℕ)) (octets : List ℕ) → first_fault labels ≡ None → Some octets ≡ short_wire labels → IsName octets
is_name labels octets none is =
    let (spelled, short) = short_is (nat_le (length (wire labels)) 255) octets (wire labels) refl is in record {
      labels = labels;
      sizes = are_labels labels none;
      spelled = spelled;
      fits = omega (arith, ap length spelled);
    }

pub label_alone : (label : List ℕ) → label_fault label ≡ None → first_fault (label ∷ []) ≡ None
label_alone label none = ap (λ (o : Option NameFault). option_or o None) none

-- no dot is an octet of a label
is_dot : (b : ℕ) → (b == 46) ≡ true → b ≡ 46
is_dot b hit = grind (arith, nat_tests)

dot_is_bad : (b : ℕ) → is_label_byte b ≡ true → b ≡ 46 → ⊥
dot_is_bad b good is = let bad : is_label_byte 46 ≡ true = subst (λ (n : ℕ). is_label_byte n ≡ true) is good in cc

no_dot : (b : ℕ) → is_label_byte b ≡ true → (b == 46) ≡ false
no_dot b good = false_from_ne_true (b == 46) (λ hit. dot_is_bad b good (is_dot b hit))

-- so the dots part a label's text into itself alone
pub alone : (label : List ℕ) → list_all is_label_byte label ≡ true → slice_split (λ b. b == 46) label ≡ label ∷ []
alone [] good = refl
alone (b ∷ bs) good =
    let (first, others) = and_parts (is_label_byte b) (list_all is_label_byte bs) good in
    ap (λ (t : Bool). cond t ([] ∷ slice_split (λ b. b == 46) bs) (onto_first b (slice_split (λ b. b == 46) bs))) (no_dot b first) ∙ ap (onto_first b) (alone bs others)

-- the spelling of labels has an octet
pub some_wire : (labels : List (List ℕ)) → 0 < length (wire labels)
some_wire [] = omega arith
some_wire (label ∷ labels) = omega arith

same_parts : (text : List ℕ) → label_fault text ≡ None → short_wire (slice_split (λ b. b == 46) text) ≡ short_wire (text ∷ [])
same_parts text none = ap short_wire (alone text (sound_label text none).good)

-- what is read of one label
pub label_reads : (text octets : List ℕ) → label_fault text ≡ None → Some octets ≡ short_wire (slice_split (λ b. b == 46) text) → Ok octets ≡ label_name_of text
unfolding label_name_of
label_reads text octets none is =
    sym (ap (λ (o : Option NameFault). named o (text ∷ [])) none ∙ ap (λ (o : Option (List ℕ)). ok_or o LongName) (sym (same_parts text none) ∙ sym is))

pub label_refused : (text : List ℕ) → label_fault text ≡ None → None ≡ short_wire (slice_split (λ b. b == 46) text) → Err LongName ≡ label_name_of text
unfolding label_name_of
label_refused text none is =
    sym (ap (λ (o : Option NameFault). named o (text ∷ [])) none ∙ ap (λ (o : Option (List ℕ)). ok_or o LongName) (sym (same_parts text none) ∙ sym is))
