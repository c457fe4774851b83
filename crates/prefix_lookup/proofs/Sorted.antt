-- Sorted, the blocks of a table's prefixes are its blocks in order.
use Rattle.std.proofs.Common.{◌≡◌, ℕ, ◌+◌, ◌-◌, ◌*◌, ◌/◌, ◌%◌, ◌^◌, ◌<◌, ◌≤◌, true, List, length, Option, None, Some, refl, sym, ap, subst, ◌∙◌, arith}
use Rattle.std.specs.Prelude.{All, Contains, is_some, option_map}
use Rattle.std.specs.List.{filter_map}
use Rattle.std.specs.List.Sorted.{IsPermutation}
use Rattle.std.proofs.lemmas.Bool.{eqb-true}
use Rattle.std.proofs.lemmas.List.Sorted.{All-permutation, Contains-permutation, length_permutation}
use Rattle.std.proofs.lemmas.Nat.{shr_split}
use Rattle.addr_text.specs.declared.address.Addr.{Addr}
use Rattle.addr_text.specs.declared.address.Addr.TheVariants.{V4, V6}
use Rattle.addr_text.specs.Addresses.{IsPrefix, bits_of, is_clear}
use Rattle.map_model.specs.declared.instance.GroupId.{GroupId}
use Rattle.prefix_lookup.specs.declared.block.Block.{Block}
use Rattle.prefix_lookup.specs.declared.family.Family.{Family}
use Rattle.prefix_lookup.specs.declared.family.Family.TheVariants as family
use Rattle.prefix_lookup.specs.Blocks.{AreBlocks, IsBlock, IsInOrder, block, block_at, block_of, entry_of}
use Rattle.prefix_lookup.specs.Family.{address_in, bits_in, number_in}
use Rattle.prefix_lookup.specs.Longest.{is_of_family}
use Rattle.prefix_lookup.specs.Table.{IsTable}
use Rattle.prefix_lookup.proofs.Families.{address_is, number_is}
use Rattle.prefix_lookup.proofs.Filtered.{all_given, given, how_many}
use Rattle.prefix_lookup.proofs.Intervals.{block_fits}
use Rattle.prefix_lookup.proofs.Longest.{Entry}
use Rattle.prefix_lookup.proofs.Ordered.{rising}

-- the entry of a block that is given of it
entry_is : (family : Family) (e : Entry) (o : Option ℕ) (b : Block) → number_in family e.0.addr ≡ o → option_map (λ n. block n e.0.len e.1) o ≡ Some b → entry_of family b ≡ e
entry_is family e None b is given = absurd cc
entry_is family e (Some n) b is given =
    let same : block n e.0.len e.1 ≡ b = cc in
    ap (entry_of family) (sym same) ∙ ap (λ (a : Addr). (record { addr = a; len = e.0.len }, e.1)) (sym (address_is family e.0.addr n is))

clear_in : (family : Family) (n len : ℕ) → is_clear (address_in family n) len ≡ true → n % 2 ^ (bits_in family - len) ≡ 0
clear_in family.V4 n len h = eqb-true _ _ h
clear_in family.V6 n len h = eqb-true _ _ h

len_in : (family : Family) (n len : ℕ) → len ≤ bits_of (address_in family n) → len ≤ bits_in family
len_in family.V4 n len h = h
len_in family.V6 n len h = h

-- the block of a prefix
is_block : (family : Family) (b : Block) → IsPrefix (entry_of family b).0 → b.first < 2 ^ bits_in family → IsBlock family b
is_block family b p small =
    let k : ℕ = bits_in family - b.len in
    let len : b.len ≤ bits_in family = len_in family b.first b.len p.len in
    let clear : b.first % 2 ^ k ≡ 0 = clear_in family b.first b.len p.clear in
    let parts : b.first / 2 ^ k * 2 ^ k + b.first % 2 ^ k ≡ b.first = shr_split b.first k in
    let whole : b.first / 2 ^ k * 2 ^ k ≡ b.first = omega arith in
    let room : b.first / 2 ^ k * 2 ^ k + 2 ^ k ≤ 2 ^ bits_in family = block_fits (bits_in family) b.len b.first len small in
    record { len = len; clear = whole; fits = omega arith }

contained : {X : Type 0} (P : X → Type 0) (xs : List X) (x : X) → All P xs → Contains xs x → P x
contained P xs x all c = subst P c.2 (all c.0 x c.1)

-- the blocks as they stand in the table
each_block : (family : Family) (table : List Entry) → IsTable table → All (λ b. b.first < 2 ^ bits_in family) (filter_map (block_of family) table) → All (λ b. IsBlock family b × Contains table (entry_of family b)) (filter_map (block_of family) table)
each_block family table t fits = all_given (block_of family) (λ b. IsBlock family b × Contains table (entry_of family b)) table (λ e b c is.
    let entry : entry_of family b ≡ e = entry_is family e (number_in family e.0.addr) b refl is in
    let prefix : IsPrefix e.0 = contained (λ (f : Entry). IsPrefix f.0) table e t.each c in
    (is_block family b (subst (λ (f : Entry). IsPrefix f.0) (sym entry) prefix) (contained (λ (x : Block). x.first < 2 ^ bits_in family) _ b fits (given (block_of family) table e b c is)), subst (Contains table) (sym entry) c))

block_is : (family : Family) (b : Block) → block_of family (entry_of family b) ≡ Some b
block_is family b = ap (option_map (λ (n : ℕ). block n b.len b.group)) (number_is family b.first)

one_of_family : (family : Family) (n : ℕ) (a : Addr) (len : ℕ) (g : GroupId) → is_some (option_map (λ m. block m len g) (number_in family a)) ≡ is_of_family (address_in family n) a
one_of_family family.V4 n (V4 m) len g = refl
one_of_family family.V4 n (V6 m) len g = refl
one_of_family family.V6 n (V4 m) len g = refl
one_of_family family.V6 n (V6 m) len g = refl

-- in order
pub are_blocks : (family : Family) (table : List Entry) (found blocks : List Block) → IsTable table → found ≡ filter_map (block_of family) table → All (λ b. b.first < 2 ^ bits_in family) found → IsPermutation found blocks → ((k : ℕ) → k + 1 < length blocks → IsInOrder (block_at blocks k) (block_at blocks (k + 1))) → AreBlocks family table blocks
are_blocks family table found blocks t is fits same next = record {
  each = λ k d lt. (all k d lt).0;
  among = λ i lt. (all i _ lt).1;
  all = λ b c. Contains-permutation found blocks b same (subst (λ (l : List Block). Contains l b) (sym is) (given (block_of family) table (entry_of family b) b c (block_is family b)));
  rising = λ i j le lt. let e : i + (j - i) ≡ j = omega arith in subst (λ (n : ℕ). IsInOrder (block_at blocks i) (block_at blocks n)) e (rising blocks next i (j - i) (omega arith));
  count = λ n. omega (arith, length_permutation found blocks same, ap length is, how_many (block_of family) (λ e. is_of_family (address_in family n) e.0.addr) (λ e. one_of_family family n e.0.addr e.0.len e.1) table);
}
  where
    each_found : All (λ b. IsBlock family b × Contains table (entry_of family b)) found
    each_found = subst (All (λ b. IsBlock family b × Contains table (entry_of family b))) (sym is) (each_block family table t (subst (All (λ (b : Block). b.first < 2 ^ bits_in family)) is fits))

    all : All (λ b. IsBlock family b × Contains table (entry_of family b)) blocks
    all = All-permutation (λ (b : Block). IsBlock family b × Contains table (entry_of family b)) found blocks same each_found
