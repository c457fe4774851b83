-- DNS name texts, and comparing names on the wire.
use Rattle.std.specs.Prelude.{ℕ, zero, suc, ◌-◌, List, [], ◌∷◌, length, take, Bool, ◌&&◌, ◌||◌, ◌==◌, nat_le, nat_lt, not, if◌then◌else◌, Option, None, Some, Result, Err, nat_eq}
use Rattle.std.specs.List.{ends_with, list_all, list_any, slice_split}
use Rattle.std.specs.Option.{ok_or, option_or}
use Rattle.std.specs.Str.{str_eq_ignore_ascii_case}
use Rattle.name_text.specs.declared.fault.NameFault.{NameFault}
use Rattle.name_text.specs.declared.fault.NameFault.TheVariants.{EmptyLabel, BadByte, LongLabel, LongName}
use Rattle.name_text.specs.Wire.{wire}

-- a letter, a digit, `-` or `_`
abbrev pub is_label_byte : ℕ → Bool
is_label_byte b =
    (nat_le 97 b && nat_le b 122) || (nat_le 65 b && nat_le b 90) || (nat_le 48 b && nat_le b 57) || (b == 45) || (b == 95)

-- a label: 1 to 63 such octets
abbrev pub is_label : List ℕ → Bool
is_label label = nat_le 1 (length label) && list_all is_label_byte label && nat_le (length label) 63

-- the first fault of a label
abbrev pub label_fault : List ℕ → Option NameFault
label_fault label =
    if length label == 0 then Some EmptyLabel
    else if not (list_all is_label_byte label) then Some BadByte
    else if nat_lt 63 (length label) then Some LongLabel
    else None

-- the fault of the leftmost label that has one
abbrev pub first_fault : List (List ℕ) → Option NameFault
first_fault [] = None
first_fault (label ∷ labels) = option_or (label_fault label) (first_fault labels)

-- a text without one dot at its end
abbrev pub undotted : List ℕ → List ℕ
undotted text = if ends_with nat_eq text (46 ∷ []) then take (length text - 1) text else text

-- what stands between the dots
abbrev pub labels_of : List ℕ → List (List ℕ)
labels_of text = slice_split (λ b. b == 46) (undotted text)

-- the octets of a name with these labels, where they are no more than 255
abbrev pub short_wire : List (List ℕ) → Option (List ℕ)
short_wire labels = if nat_le (length (wire labels)) 255 then Some (wire labels) else None

-- the first fault of labels, else their name, else it is too long
abbrev pub named : Option NameFault → List (List ℕ) → Result (List ℕ) NameFault
named (Some fault) labels = Err fault
named None labels = ok_or (short_wire labels) LongName

-- the name of a text, on the wire
unfoldable pub name_of : List ℕ → Result (List ℕ) NameFault
name_of text = named (first_fault (labels_of text)) (labels_of text)

-- the name of one label
unfoldable pub label_name_of : List ℕ → Result (List ℕ) NameFault
label_name_of text = named (label_fault text) (text ∷ [])

-- all octets of a name but its last, the 0
abbrev pub labels_part : List ℕ → List ℕ
labels_part name = take (length name - 1) name

-- the same name, whatever the case of its letters (RFC 4343); a length octet is below 64, so it is no letter
abbrev pub is_same : List ℕ → List ℕ → Bool
is_same name other = str_eq_ignore_ascii_case name other

-- what stands from each label on, where so many octets of a label are still to come
abbrev pub rests_after : ℕ → List ℕ → List (List ℕ)
rests_after left [] = []
rests_after (suc left) (b ∷ octets) = rests_after left octets
rests_after zero (size ∷ octets) = (size ∷ octets) ∷ rests_after size octets

-- what stands from each label of a name on: the name itself, the name without its first label, and so on
abbrev pub rests : List ℕ → List (List ℕ)
rests name = rests_after 0 name

-- the name is the apex or stands below it: from some label on it is the same name
unfoldable pub is_under : List ℕ → List ℕ → Bool
is_under name apex = list_any (λ rest. is_same rest apex) (rests name)
