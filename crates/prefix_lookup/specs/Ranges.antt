-- Inside this crate alone: sorted ranges of numbers with the same longest prefix.
use Rattle.std.specs.Prelude.{◌≡◌, ℕ, ◌+◌, ◌-◌, ◌*◌, ◌^◌, ◌<◌, ◌≤◌, nat_lt, if◌then◌else◌, List, length, Option, None, Some, IfSome, unwrap_or, slice_index_or}
use Rattle.addr_text.specs.declared.address.Prefix.{Prefix}
use Rattle.map_model.specs.declared.instance.GroupId.{GroupId}
use Rattle.prefix_lookup.specs.declared.family.Family.{Family}
use Rattle.prefix_lookup.specs.declared.ranges.Range.{Range}
use Rattle.prefix_lookup.specs.Family.{bits_in, address_in}
use Rattle.prefix_lookup.specs.Longest.{group_of, longest}
use Rattle.prefix_lookup.specs.Search.{prefixes_beside}

abbrev pub start_at : List ℕ → ℕ → ℕ
start_at starts i = slice_index_or starts i 0

abbrev pub group_at : List GroupId → ℕ → GroupId
group_at groups i = slice_index_or groups i (record { 0 = 0 })

-- where a range ends, if the last one ends there: at the start of the next
abbrev pub stop_at : ℕ → List ℕ → ℕ → ℕ
stop_at stop starts i = if nat_lt (i + 1) (length starts) then start_at starts (i + 1) else stop

-- the entry of the longest prefix of a number
abbrev pub longest_at : Family → List (Prefix × GroupId) → ℕ → Option (Prefix × GroupId)
longest_at family table n = longest table (address_in family n)

-- sorted ranges of all numbers below one: the numbers of a range have one longest prefix, those of neighbours another
pub record AreRangesTo (stop : ℕ) (family : Family) (table : List (Prefix × GroupId)) (starts : List ℕ) (groups : List GroupId) : Type 0 where
  pub beside : length groups ≡ length starts
  pub some : 0 < stop → 0 < length starts
  pub none : stop ≡ 0 → length starts ≡ 0
  pub first : start_at starts 0 ≡ 0
  pub rising : (i : ℕ) → i + 1 < length starts → start_at starts i < start_at starts (i + 1)
  pub below : (i : ℕ) → i < length starts → start_at starts i < stop
  pub held : (i n : ℕ) → i < length starts → start_at starts i ≤ n → n < stop_at stop starts i → longest_at family table n ≡ longest_at family table (start_at starts i)
  pub group : (i : ℕ) → i < length starts → group_of table (address_in family (start_at starts i)) ≡ Some (group_at groups i)
  pub differ : (i : ℕ) → i + 1 < length starts → longest_at family table (start_at starts i) ≡ longest_at family table (start_at starts (i + 1)) → ⊥

-- those of all numbers, at most twice as many as there are prefixes
pub record AreRanges (family : Family) (table : List (Prefix × GroupId)) (starts : List ℕ) (groups : List GroupId) : Type 0 where
  pub all : AreRangesTo (2 ^ bits_in family) family table starts groups
  pub few : (n : ℕ) → length starts ≤ 2 * prefixes_beside table (address_in family n)

-- the number is from this start on, and below the next
pub record IsLastUpTo (starts : List ℕ) (n i : ℕ) : Type 0 where
  pub within : i < length starts
  pub from : start_at starts i ≤ n
  pub to : i + 1 < length starts → n < start_at starts (i + 1)

-- the start after this one, if there is one
abbrev pub next_start : List ℕ → ℕ → Option ℕ
next_start starts i = if nat_lt (i + 1) (length starts) then Some (start_at starts (i + 1)) else None

-- the range at a place
pub record IsRangeAt (starts : List ℕ) (groups : List GroupId) (i : ℕ) (r : Range) : Type 0 where
  pub group : r.group ≡ group_at groups i
  pub start : r.start ≡ start_at starts i
  pub end : r.end ≡ next_start starts i

-- the number after the range's last
abbrev pub end_in : Family → Range → ℕ
end_in family r = unwrap_or r.end (2 ^ bits_in family)

-- the number is in the range
pub record IsIn (family : Family) (n : ℕ) (r : Range) : Type 0 where
  pub from : r.start ≤ n
  pub to : n < end_in family r
  pub fits : IfSome r.end (λ e. e < 2 ^ bits_in family)

-- the range that has the number: all of it has the longest prefix of the number, and what is right beside it has another
pub record IsRangeOf (family : Family) (table : List (Prefix × GroupId)) (n : ℕ) (r : Range) : Type 0 where
  pub group : group_of table (address_in family n) ≡ Some r.group
  pub inside : IsIn family n r
  pub held : (m : ℕ) → r.start ≤ m → m < end_in family r → longest_at family table m ≡ longest_at family table n
  pub before : 0 < r.start → longest_at family table (r.start - 1) ≡ longest_at family table n → ⊥
  pub after : IfSome r.end (λ e. longest_at family table e ≡ longest_at family table n → ⊥)
