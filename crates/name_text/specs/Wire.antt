-- Names on the wire (RFC 1035 section 3.1): each label is an octet with its length and then its octets, and an octet 0 ends the name.
use Rattle.std.specs.Prelude.{◌≡◌, ℕ, ◌<◌, ◌≤◌, List, [], ◌∷◌, ◌++◌, length}

-- the octets of a name with these labels
abbrev pub wire : List (List ℕ) → List ℕ
wire [] = 0 ∷ []
wire (label ∷ labels) = length label ∷ (label ++ wire labels)

-- the labels from each of them on: all, all but the first, and so on down to none
abbrev pub tails : List (List ℕ) → List (List (List ℕ))
tails [] = [] ∷ []
tails (label ∷ labels) = (label ∷ labels) ∷ tails labels

-- each label has 1 to 63 octets
abbrev pub AreLabels : List (List ℕ) → Type 0
AreLabels [] = Unit {0}
AreLabels (label ∷ labels) = (0 < length label) × (length label < 64) × AreLabels labels

-- labels of 1 to 63 octets, ended by 0, no more than 255 octets in all
pub record IsName (octets : List ℕ) : Type 0 where
  pub labels : List (List ℕ)
  pub sizes : AreLabels labels
  pub spelled : octets ≡ wire labels
  pub fits : length octets ≤ 255
