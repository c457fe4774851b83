-- The walk over the blocks: where it begins, where it goes on and where it ends.
use Rattle.std.proofs.Common.{◌≡◌, ℕ, ◌+◌, ◌-◌, ◌*◌, ◌^◌, ◌<◌, ◌≤◌, List, [], ◌∷◌, ◌++◌, length, refl, sym, ap, subst, ◌∙◌, arith, inl, inr, length-append}
use Rattle.std.specs.Prelude.{Contains, max, ◌⊎◌}
use Rattle.std.proofs.Math.Pow.{pow_mono}
use Rattle.std.proofs.lemmas.Bool.{cases_lt}
use Rattle.std.proofs.lemmas.List.{get_or_default, get_or_push}
use Rattle.std.proofs.lemmas.Nat.{pow_pos}
use Rattle.addr_text.specs.declared.address.Prefix.{Prefix}
use Rattle.addr_text.specs.Addresses.{default_v4, default_v6}
use Rattle.prefix_lookup.specs.declared.block.Block.{Block}
use Rattle.prefix_lookup.specs.declared.family.Family.{Family}
use Rattle.prefix_lookup.specs.declared.family.Family.TheVariants as family
use Rattle.prefix_lookup.specs.declared.sweep.Ranges.{Ranges}
use Rattle.prefix_lookup.specs.Blocks.{AreBlocks, block, block_at, end_of, entry_of}
use Rattle.prefix_lookup.specs.Family.{bits_in}
use Rattle.prefix_lookup.specs.Ranges.{AreRanges, AreRangesTo}
use Rattle.prefix_lookup.specs.Sweep.{AllAhead, AllGoOn, AllLongest, AreOpen, Covers, Swept, stop_of}
use Rattle.prefix_lookup.specs.Table.{IsTable}
use Rattle.prefix_lookup.proofs.Defaults.{entry_of as default_entry}
use Rattle.prefix_lookup.proofs.Families.{wide}
use Rattle.prefix_lookup.proofs.Longest.{Entry, in_contains}
use Rattle.prefix_lookup.proofs.Swept.{advanced, innermost, its_block, opens, popped}

-- the block of an entry is at some place
block_there : (family : Family) (table : List Entry) (blocks : List Block) (e : Entry) (b : Block) → AreBlocks family table blocks → Contains table e → e ≡ entry_of family b → (m : ℕ) × (m < length blocks) × (block_at blocks m ≡ b)
block_there family table blocks e b are in_table same =
    let among = are.all b (subst (Contains table) same in_table) in
    (among.0, among.1, get_or_default blocks among.0 _ b among.1 ∙ among.2)

-- the default of a family is a block of all its numbers
pub default_block : (family : Family) (table : List Entry) (blocks : List Block) → IsTable table → AreBlocks family table blocks → (m : ℕ) × (m < length blocks) × ((block_at blocks m).first ≡ 0) × (end_of family (block_at blocks m) ≡ 2 ^ bits_in family)
default_block family.V4 table blocks t are =
    let r = default_entry table default_v4 t.all_v4.0 t.all_v4.1 t.all_v4.2 in
    let at = block_there family.V4 table blocks r.0 (block 0 0 r.0.1) are (in_contains table r.0 r.1) (ap (λ (p : Prefix). (p, r.0.1)) r.2) in
    (at.0, at.1, ap (λ (x : Block). x.first) at.2, ap (end_of family.V4) at.2)
default_block family.V6 table blocks t are =
    let r = default_entry table default_v6 t.all_v6.0 t.all_v6.1 t.all_v6.2 in
    let at = block_there family.V6 table blocks r.0 (block 0 0 r.0.1) are (in_contains table r.0 r.1) (ap (λ (p : Prefix). (p, r.0.1)) r.2) in
    (at.0, at.1, ap (λ (x : Block). x.first) at.2, ap (end_of family.V6) at.2)

-- one block has ended: its last range is there
pub closed : (family : Family) (table : List Entry) (blocks rest : List Block) (i limit : ℕ) (r s : Ranges) (b : Block) → IsTable table → AreBlocks family table blocks → i ≤ length blocks → Swept family table blocks i r (rest ++ b ∷ []) → AllAhead blocks i limit → end_of family b ≤ limit → stop_of s ≡ max (stop_of r) (end_of family b)
    → (AllLongest family table b (stop_of r) (end_of family b) → Covers family table s) → Swept family table blocks i s rest
closed family table blocks rest i limit r s b t are le swept ahead ends stop covers =
    let its = its_block family table blocks (rest ++ b ∷ []) i (stop_of r) (length rest) are swept.standing le (omega (arith, longer)) in
    let is : block_at (rest ++ b ∷ []) (length rest) ≡ b = get_or_push rest b _ (length rest) refl in
    let fits : end_of family b ≤ 2 ^ bits_in family = subst (λ (x : Block). end_of family x ≤ 2 ^ bits_in family) is its.0.fits in
    record {
      covers = covers (innermost family table blocks (rest ++ b ∷ []) i (stop_of r) (end_of family b) b t are swept.standing le (omega (arith, longer)) (ap (block_at (rest ++ b ∷ [])) last ∙ is) (omega arith) (λ m from lt. let h = ahead m from lt in omega arith));
      fits = omega (arith, swept.fits, stop, fits);
      standing = subst (λ (n : ℕ). AreOpen family blocks i n rest) (sym stop) (popped family blocks rest i (stop_of r) limit b swept.standing ahead ends);
    }
  where
    longer : length (rest ++ b ∷ []) ≡ length rest + 1
    longer = length-append rest (b ∷ [])

    last : length (rest ++ b ∷ []) - 1 ≡ length rest
    last = omega (arith, longer)

-- the numbers before the next block have their range
pub reached : (family : Family) (table : List Entry) (blocks opened : List Block) (i first : ℕ) (r s : Ranges) (b : Block) → IsTable table → AreBlocks family table blocks → Swept family table blocks i r opened → i < length blocks → (block_at blocks i).first ≡ first → AllGoOn family first opened → 0 < length opened → block_at opened (length opened - 1) ≡ b → stop_of s ≡ max (stop_of r) first
    → (AllLongest family table b (stop_of r) first → Covers family table s) → Swept family table blocks i s opened × (stop_of s ≡ first)
reached family table blocks opened i first r s b t are swept lt is on some at stop covers =
    let up = swept.standing.ahead i (omega arith) lt in
    let here : stop_of s ≡ first = omega (arith, up, is, stop) in
    let goes : first < end_of family b = subst (λ (x : Block). first < end_of family x) at (on (length opened - 1) (omega arith)) in
    let ahead : AllAhead blocks i first = λ m from below. let order = are.rising i m from below in omega (arith, order.first) in
    let its = are.each i (block_at blocks i) lt in
    let room : end_of family (block_at blocks i) ≤ 2 ^ bits_in family = (are.each i _ lt).fits in (
      record {
        covers = covers (innermost family table blocks opened i (stop_of r) first b t are swept.standing (omega arith) some at (omega arith) ahead);
        fits = omega (arith, here, is, room);
        standing = subst (λ (n : ℕ). AreOpen family blocks i n opened) (sym here) (advanced family blocks opened i (stop_of r) first swept.standing (omega (arith, up)) ahead);
      },
      here,
    )

-- where no block is open, or the next begins with the first number, there are none before it
pub nothing_before : (family : Family) (table : List Entry) (blocks opened : List Block) (i first : ℕ) (r : Ranges) → IsTable table → AreBlocks family table blocks → Swept family table blocks i r opened → i < length blocks → (block_at blocks i).first ≡ first → (length opened ≡ 0) ⊎ (first ≡ 0) → Swept family table blocks i r opened × (stop_of r ≡ first)
nothing_before family table blocks opened i first r t are swept lt is none = (
  swept,
  elim none [
    | inr at_first ↦ omega (arith, up)
    | inl empty ↦ elim (cases_lt d.0 i) [
      | inl before ↦ elim (swept.standing.done d.0 before) [
        | inl open_one ↦ absurd (omega (arith, open_one.1))
        | inr ended ↦ absurd (omega (arith, d.3, room, some, up))
      ]
      | inr le ↦ (let order = are.rising i d.0 le d.1 in omega (arith, order.first, d.2, up))
    ]
  ],
)
  where
    d : (m : ℕ) × (m < length blocks) × ((block_at blocks m).first ≡ 0) × (end_of family (block_at blocks m) ≡ 2 ^ bits_in family)
    d = default_block family table blocks t are

    up : stop_of r ≤ (block_at blocks i).first
    up = swept.standing.ahead i (omega arith) lt

    room : end_of family (block_at blocks i) ≤ 2 ^ bits_in family
    room = (are.each i _ lt).fits

    some : 0 < 2 ^ (bits_in family - (block_at blocks i).len)
    some = pow_pos (bits_in family - (block_at blocks i).len)

-- all numbers have their range
pub finished : (family : Family) (table : List Entry) (blocks opened : List Block) (r : Ranges) → IsTable table → AreBlocks family table blocks → Swept family table blocks (length blocks) r opened → AllGoOn family (2 ^ 128) opened → length r.starts.items + length opened ≤ 2 * length blocks → AreRanges family table r.starts.items r.groups.items
finished family table blocks opened r t are swept on few = record {
  all = subst (λ (n : ℕ). AreRangesTo n family table r.starts.items r.groups.items) stop swept.covers.ranges;
  few = λ n. omega (arith, few, are.count n);
}
  where
    d : (m : ℕ) × (m < length blocks) × ((block_at blocks m).first ≡ 0) × (end_of family (block_at blocks m) ≡ 2 ^ bits_in family)
    d = default_block family table blocks t are

    most : 2 ^ bits_in family ≤ 2 ^ 128
    most = pow_mono (wide family)

    none_goes_on : (k : ℕ) → k < length opened → ⊥
    none_goes_on k lt = let its = its_block family table blocks opened (length blocks) (stop_of r) k are swept.standing (omega arith) lt in let late = on k lt in omega (arith, its.0.fits, most, late)

    stop : stop_of r ≡ 2 ^ bits_in family
    stop = elim (swept.standing.done d.0 d.1) [
      | inl open_one ↦ absurd (none_goes_on open_one.0 open_one.1)
      | inr ended ↦ omega (arith, d.3, swept.fits)
    ]

-- each open block goes on where the innermost does
pub all_go_on : (family : Family) (blocks opened : List Block) (i stop limit : ℕ) → AreOpen family blocks i stop opened → (0 < length opened → limit < end_of family (block_at opened (length opened - 1))) → AllGoOn family limit opened
all_go_on family blocks opened i stop limit o last = λ k lt. let outer = o.nested k (length opened - 1) (omega arith) (omega arith) in let h = last (omega arith) in omega (arith, outer.end)

-- the next block is open
pub stepped : (family : Family) (table : List Entry) (blocks opened : List Block) (i : ℕ) (r : Ranges) (b : Block) → AreBlocks family table blocks → Swept family table blocks i r opened → i < length blocks → block_at blocks i ≡ b → stop_of r ≡ b.first → AllGoOn family b.first opened → Swept family table blocks (i + 1) r (opened ++ b ∷ [])
stepped family table blocks opened i r b are swept lt is stop on = record {
  covers = swept.covers;
  fits = swept.fits;
  standing = opens family table blocks opened i (stop_of r) b are swept.standing lt is (sym stop) (subst (λ (n : ℕ). AllGoOn family n opened) (sym stop) on);
}

-- the blocks from one on begin where it begins or after it
pub ahead_of : (family : Family) (table : List Entry) (blocks : List Block) (i : ℕ) (b : Block) → AreBlocks family table blocks → block_at blocks i ≡ b → AllAhead blocks i b.first
ahead_of family table blocks i b are is = λ m from lt. let order = are.rising i m from lt in subst (λ (x : Block). x.first ≤ (block_at blocks m).first) is order.first
