-- Inside this crate alone: the prefixes of a family as blocks of numbers.
use Rattle.std.specs.Prelude.{◌≡◌, ℕ, ◌+◌, ◌-◌, ◌*◌, ◌/◌, ◌^◌, ◌<◌, ◌≤◌, List, length, All, Option, option_map, unwrap_or, Contains, slice_index_or}
use Rattle.addr_text.specs.declared.address.Prefix.{Prefix}
use Rattle.map_model.specs.declared.instance.GroupId.{GroupId}
use Rattle.prefix_lookup.specs.declared.block.Block.{Block}
use Rattle.prefix_lookup.specs.declared.family.Family.{Family}
use Rattle.prefix_lookup.specs.Family.{bits_in, address_in, number_in}
use Rattle.prefix_lookup.specs.Search.{prefixes_beside}

-- the block of these numbers
abbrev pub block : ℕ → ℕ → GroupId → Block
block first len group = record { first = first; len = len; group = group }

-- the block of an entry, if its prefix is of the family
abbrev pub block_of : Family → Prefix × GroupId → Option Block
block_of family e = option_map (λ n. block n e.0.len e.1) (number_in family e.0.addr)

-- the prefix of a block, with its group
abbrev pub entry_of : Family → Block → Prefix × GroupId
entry_of family b = (record { addr = address_in family b.first; len = b.len }, b.group)

-- the number after its last
abbrev pub end_of : Family → Block → ℕ
end_of family b = b.first + 2 ^ (bits_in family - b.len)

-- a number, or where none is given the one after all numbers
abbrev pub limit_of : Option ℕ → ℕ
limit_of limit = unwrap_or limit (2 ^ 128)

abbrev pub block_at : List Block → ℕ → Block
block_at blocks i = slice_index_or blocks i (block 0 0 (record { 0 = 0 }))

-- the block is a prefix of the family
pub record IsBlock (family : Family) (b : Block) : Type 0 where
  pub len : b.len ≤ bits_in family
  pub clear : b.first / 2 ^ (bits_in family - b.len) * 2 ^ (bits_in family - b.len) ≡ b.first
  pub fits : end_of family b ≤ 2 ^ bits_in family

-- the one begins before the other, or where it begins and is no longer a prefix
pub record IsInOrder (b c : Block) : Type 0 where
  pub first : b.first ≤ c.first
  pub tied : b.first ≡ c.first → b.len ≤ c.len

-- these are the blocks of the table's prefixes of the family, in order
pub record AreBlocks (family : Family) (table : List (Prefix × GroupId)) (blocks : List Block) : Type 0 where
  pub each : All (IsBlock family) blocks
  pub among : (i : ℕ) → i < length blocks → Contains table (entry_of family (block_at blocks i))
  pub all : (b : Block) → Contains table (entry_of family b) → Contains blocks b
  pub rising : (i j : ℕ) → i ≤ j → j < length blocks → IsInOrder (block_at blocks i) (block_at blocks j)
  pub count : (n : ℕ) → length blocks ≤ prefixes_beside table (address_in family n)
