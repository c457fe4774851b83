-- Inside this crate alone: texts that have their places among slots.
use Rattle.std.specs.Prelude.{◌≡◌, ℕ, ◌+◌, ◌-◌, ◌*◌, ◌%◌, List, length, Bool, true, slice_index, slice_index_or}
use Rattle.std.specs.List.{list_any}
use Rattle.std.specs.Str.{bytes_eq}

-- a number below 256 by a text's last three octets
unfoldable pub slot_of : List ℕ → ℕ
slot_of t = (slice_index t (length t - 1) + 16 * slice_index t (length t - 2) + 7 * slice_index t (length t - 3)) % 256

-- the number of each of some texts is noted; a number that has no place counts as noted
abbrev pub AreInSlots : List Bool → List (List ℕ) → Type 0
AreInSlots slots texts = (t : List ℕ) → list_any (bytes_eq t) texts ≡ true → slice_index_or slots (slot_of t) true ≡ true
