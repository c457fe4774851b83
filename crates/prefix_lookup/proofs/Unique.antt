-- The longest prefix of a number, by the blocks that hold the number.
use Rattle.std.proofs.Common.{◌≡◌, ℕ, zero, suc, ◌∷◌, [], ◌<◌, ◌≤◌, true, List, length, get_or, Option, None, Some, refl, sym, ap, subst, ◌∙◌, arith, inl, inr}
use Rattle.std.specs.Prelude.{Contains, AllPairs}
use Rattle.std.proofs.lemmas.Bool.{cases_lt}
use Rattle.std.proofs.lemmas.List.{get_or_default}
use Rattle.addr_text.specs.declared.address.Addr.{Addr}
use Rattle.addr_text.specs.declared.address.Prefix.{Prefix}
use Rattle.addr_text.specs.Addresses.{prefix_at}
use Rattle.prefix_lookup.specs.declared.block.Block.{Block}
use Rattle.prefix_lookup.specs.declared.family.Family.{Family}
use Rattle.prefix_lookup.specs.Blocks.{AreBlocks, IsBlock, block, block_at, end_of, entry_of}
use Rattle.prefix_lookup.specs.Family.{address_in}
use Rattle.prefix_lookup.specs.Longest.{holds}
use Rattle.prefix_lookup.specs.Ranges.{longest_at}
use Rattle.prefix_lookup.specs.Table.{IsTable}
use Rattle.prefix_lookup.proofs.Chosen.{AtLeast, takes_all}
use Rattle.prefix_lookup.proofs.Families.{of_family}
use Rattle.prefix_lookup.proofs.Intervals.{inside, held, one_first}
use Rattle.prefix_lookup.proofs.Longest.{Entry, In, is_longest_of}

pub in_of : (table : List Entry) (e : Entry) → Contains table e → In e table
in_of [] e c = absurd (omega (arith, c.1))
in_of (f ∷ fs) e (zero, lt, is) = inl (sym is)
in_of (f ∷ fs) e (suc k, lt, is) = inr (in_of fs e (k, omega arith, is))

-- entries with one prefix are one
pub one_entry : (table : List Entry) (e f : Entry) → AllPairs (λ x y. x.0 ≡ y.0 → ⊥) table → Contains table e → Contains table f → e.0 ≡ f.0 → e ≡ f
one_entry table e f once (i, lt, is) (j, lt', is') same = elim (cases_lt i j) [
  | inl before ↦ absurd (once i j e before lt' (ap (λ (x : Entry). x.0) is ∙ same ∙ sym (ap (λ (x : Entry). x.0) (moved table j f e lt' is'))))
  | inr le ↦ elim (cases_lt j i) [
    | inl after ↦ absurd (once j i f after lt (ap (λ (x : Entry). x.0) is' ∙ sym same ∙ sym (ap (λ (x : Entry). x.0) (moved table i e f lt is))))
    | inr ge ↦ (let at : i ≡ j = omega arith in sym is ∙ ap (λ (k : ℕ). get_or table k e) at ∙ moved table j f e lt' is')
  ]
]
  where
    moved : (table : List Entry) (k : ℕ) (x d : Entry) → k < length table → get_or table k x ≡ x → get_or table k d ≡ x
    moved table k x d lt is = get_or_default table k d x lt ∙ is

one_prefix : (family : Family) (m n j k : ℕ) → m ≡ n → j ≡ k → prefix_at (address_in family m) j ≡ prefix_at (address_in family n) k
one_prefix family m n j k e f = ap (λ (x : ℕ). prefix_at (address_in family x) j) e ∙ ap (prefix_at (address_in family n)) f

some_entry : (family : Family) (table : List Entry) (blocks : List Block) (b : Block) (n : ℕ) → IsTable table → AreBlocks family table blocks → Contains table (entry_of family b) → IsBlock family b → b.first ≤ n → n < end_of family b
    → ((i : ℕ) → i < length blocks → (block_at blocks i).first ≤ n → n < end_of family (block_at blocks i) → (block_at blocks i).len ≤ b.len) → (r : Entry) → longest_at family table n ≡ Some r → r ≡ entry_of family b
some_entry family table blocks b n t are c is from to most r found =
    let itself : holds (entry_of family b).0 (address_in family n) ≡ true = held family b n is from to in
    let long : b.len ≤ r.0.len = subst (AtLeast b.len) found (takes_all (address_in family n) table (entry_of family b) (in_of table (entry_of family b) c) itself) in
    let l = is_longest_of (address_in family n) table r found in
    let m = of_family family r.0.len n r.0.addr l.holding in
    let rb : Block = block m.0 r.0.len r.1 in
    let same : r ≡ entry_of family rb = ap (λ (a : Addr). (record { addr = a; len = r.0.len }, r.1)) m.1 in
    let among = are.all rb (subst (Contains table) same l.among) in
    let at : block_at blocks among.0 ≡ rb = get_or_default blocks among.0 _ rb among.1 ∙ among.2 in
    let its : IsBlock family rb = subst (IsBlock family) among.2 (are.each among.0 rb among.1) in
    let within = inside family rb n its (subst (λ (p : Prefix). holds p (address_in family n) ≡ true) (ap (λ (e : Entry). e.0) same) l.holding) in
    let short : (block_at blocks among.0).len ≤ b.len = most among.0 among.1 (subst (λ (x : Block). x.first ≤ n) (sym at) within.0) (subst (λ (x : Block). n < end_of family x) (sym at) within.1) in
    let short_r : r.0.len ≤ b.len = subst (λ (x : Block). x.len ≤ b.len) at short in
    let len : r.0.len ≡ b.len = omega arith in
    let first : m.0 ≡ b.first = one_first family rb b n its is len within.0 within.1 from to in
    let prefix : r.0 ≡ (entry_of family b).0 = ap (λ (e : Entry). e.0) same ∙ one_prefix family m.0 b.first r.0.len b.len first len in
    one_entry table r (entry_of family b) t.once l.among c prefix

-- a block whose prefix is as long as that of each block that holds the number
pub longest_is : (family : Family) (table : List Entry) (blocks : List Block) (b : Block) (n : ℕ) → IsTable table → AreBlocks family table blocks → Contains table (entry_of family b) → IsBlock family b → b.first ≤ n → n < end_of family b
    → ((i : ℕ) → i < length blocks → (block_at blocks i).first ≤ n → n < end_of family (block_at blocks i) → (block_at blocks i).len ≤ b.len) → longest_at family table n ≡ Some (entry_of family b)
longest_is family table blocks b n t are c is from to most = by (longest_at family table n) refl
  where
    by : (o : Option Entry) → longest_at family table n ≡ o → longest_at family table n ≡ Some (entry_of family b)
    by None none = absurd (subst (AtLeast b.len) none (takes_all (address_in family n) table (entry_of family b) (in_of table (entry_of family b) c) (held family b n is from to)))
    by (Some r) found = found ∙ ap (λ (e : Entry). Some e) (some_entry family table blocks b n t are c is from to most r found)
