-- Inside this crate alone: ranges that are made from the first number on.
use Rattle.std.specs.Prelude.{◌≡◌, ℕ, ◌-◌, ◌^◌, ◌<◌, ◌≤◌, List, length, Option, None, Some, option_map, unwrap_or, ◌⊎◌}
use Rattle.addr_text.specs.declared.address.Prefix.{Prefix}
use Rattle.map_model.specs.declared.instance.GroupId.{GroupId}
use Rattle.prefix_lookup.specs.declared.block.Block.{Block}
use Rattle.prefix_lookup.specs.declared.family.Family.{Family}
use Rattle.prefix_lookup.specs.declared.sweep.Ranges.{Ranges}
use Rattle.prefix_lookup.specs.Blocks.{block_at, end_of, entry_of}
use Rattle.prefix_lookup.specs.Family.{bits_in}
use Rattle.prefix_lookup.specs.Ranges.{AreRangesTo, longest_at, start_at}

-- the numbers below this one have their ranges
abbrev pub stop_of : Ranges → ℕ
stop_of r = unwrap_or r.next (2 ^ 128)

-- the ranges of all numbers below one, and the block of the last range's longest prefix
pub record CoversTo (stop : ℕ) (family : Family) (table : List (Prefix × GroupId)) (starts : List ℕ) (groups : List GroupId) (last : Option Block) : Type 0 where
  pub ranges : AreRangesTo stop family table starts groups
  pub final : 0 < length starts → option_map (entry_of family) last ≡ longest_at family table (start_at starts (length starts - 1))
  pub unbegun : length starts ≡ 0 → last ≡ None

-- the ranges of all numbers below the next
abbrev pub Covers : Family → List (Prefix × GroupId) → Ranges → Type 0
Covers family table r = CoversTo (stop_of r) family table r.starts.items r.groups.items r.last

-- the numbers from one on, below another, have the block's prefix as their longest
abbrev pub AllLongest : Family → List (Prefix × GroupId) → Block → ℕ → ℕ → Type 0
AllLongest family table b from to = (n : ℕ) → from ≤ n → n < to → longest_at family table n ≡ Some (entry_of family b)

-- the block is among these
abbrev pub IsAmong : List Block → Block → Type 0
IsAmong blocks b = (i : ℕ) × (i < length blocks) × (block_at blocks i ≡ b)

-- the outer block is no longer a prefix than the inner one, and ends no sooner
pub record IsOuter (family : Family) (outer inner : Block) : Type 0 where
  pub len : outer.len ≤ inner.len
  pub end : end_of family inner ≤ end_of family outer

-- the first i blocks have begun; those that may not have ended are open, the outer before the inner
pub record AreOpen (family : Family) (blocks : List Block) (i stop : ℕ) (opened : List Block) : Type 0 where
  pub among : (k : ℕ) → k < length opened → (m : ℕ) × (m < i) × (block_at blocks m ≡ block_at opened k)
  pub begun : (k : ℕ) → k < length opened → (block_at opened k).first ≤ stop
  pub nested : (j k : ℕ) → j ≤ k → k < length opened → IsOuter family (block_at opened j) (block_at opened k)
  pub done : (m : ℕ) → m < i → IsAmong opened (block_at blocks m) ⊎ (end_of family (block_at blocks m) ≤ stop)
  pub ahead : (m : ℕ) → i ≤ m → m < length blocks → stop ≤ (block_at blocks m).first

-- how far the walk has come
pub record Swept (family : Family) (table : List (Prefix × GroupId)) (blocks : List Block) (i : ℕ) (r : Ranges) (opened : List Block) : Type 0 where
  pub covers : Covers family table r
  pub fits : stop_of r ≤ 2 ^ bits_in family
  pub standing : AreOpen family blocks i (stop_of r) opened

-- each open block goes on at the limit
abbrev pub AllGoOn : Family → ℕ → List Block → Type 0
AllGoOn family limit opened = (k : ℕ) → k < length opened → limit < end_of family (block_at opened k)

-- the blocks that have not begun begin at the limit or after it
abbrev pub AllAhead : List Block → ℕ → ℕ → Type 0
AllAhead blocks i limit = (m : ℕ) → i ≤ m → m < length blocks → limit ≤ (block_at blocks m).first
