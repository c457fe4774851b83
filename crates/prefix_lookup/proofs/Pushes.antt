-- One more block of numbers at the end of the ranges.
use Rattle.std.proofs.Common.{◌≡◌, ℕ, ◌+◌, ◌-◌, ◌<◌, ◌≤◌, Bool, List, [], ◌∷◌, ◌++◌, length, Option, Some, None, sym, ap, ◌∙◌, arith, inl, inr, length-append}
use Rattle.std.specs.Prelude.{if◌then◌else◌, option_map}
use Rattle.std.proofs.lemmas.Bool.{cases_lt, lt-ltb, le-ltb}
use Rattle.std.proofs.lemmas.List.{get_or_append_left, get_or_push}
use Rattle.map_model.specs.declared.instance.GroupId.{GroupId}
use Rattle.prefix_lookup.specs.declared.block.Block.{Block}
use Rattle.prefix_lookup.specs.declared.family.Family.{Family}
use Rattle.prefix_lookup.specs.Blocks.{block, entry_of}
use Rattle.prefix_lookup.specs.Family.{address_in}
use Rattle.prefix_lookup.specs.Longest.{group_of}
use Rattle.prefix_lookup.specs.Ranges.{longest_at, start_at, stop_at}
use Rattle.prefix_lookup.specs.Sweep.{AllLongest, CoversTo}
use Rattle.prefix_lookup.proofs.Families.{one_number}
use Rattle.prefix_lookup.proofs.Longest.{Entry}

stop_more : (stop i : ℕ) (starts : List ℕ) → i + 1 < length starts → stop_at stop starts i ≡ start_at starts (i + 1)
stop_more stop i starts lt = ap (λ (b : Bool). if b then start_at starts (i + 1) else stop) (lt-ltb _ _ lt)

stop_last : (stop i : ℕ) (starts : List ℕ) → length starts ≤ i + 1 → stop_at stop starts i ≡ stop
stop_last stop i starts le = ap (λ (b : Bool). if b then start_at starts (i + 1) else stop) (le-ltb _ _ le)

some_entry : (family : Family) (last : Option Block) (b : Block) → last ≡ Some b → option_map (entry_of family) last ≡ Some (entry_of family b)
some_entry family last b is = ap (option_map (entry_of family)) is

-- blocks of one entry are one
one_block : (family : Family) (last : Option Block) (b : Block) → option_map (entry_of family) last ≡ Some (entry_of family b) → last ≡ Some b
one_block family None b e = absurd cc
one_block family (Some c) b e =
    let same : entry_of family c ≡ entry_of family b = cc in
    let first : c.first ≡ b.first = one_number family c.first b.first (ap (λ (x : Entry). x.0.addr) same) in
    let len : c.len ≡ b.len = ap (λ (x : Entry). x.0.len) same in
    let group : c.group ≡ b.group = ap (λ (x : Entry). x.1) same in
    ap (λ (n : ℕ). Some (block n c.len c.group)) first ∙ ap (λ (l : ℕ). Some (block b.first l c.group)) len ∙ ap (λ (g : GroupId). Some (block b.first b.len g)) group

-- the last range goes on
pub goes_on : (family : Family) (table : List Entry) (starts : List ℕ) (groups : List GroupId) (last : Option Block) (b : Block) (start stop : ℕ) → CoversTo start family table starts groups last → last ≡ Some b → AllLongest family table b start stop → start < stop → CoversTo stop family table starts groups last
goes_on family table starts groups last b start stop c is all up = record {
  ranges = record {
    beside = c.ranges.beside;
    some = λ _. some;
    none = λ z. absurd (omega arith);
    first = c.ranges.first;
    rising = c.ranges.rising;
    below = λ i lt. omega (arith, c.ranges.below i lt);
    held = λ i n lt from to. elim (cases_lt (i + 1) (length starts)) [
      | inl more ↦ c.ranges.held i n lt from (omega (arith, to, stop_more stop i starts more, stop_more start i starts more))
      | inr at_end ↦ elim (cases_lt n start) [
        | inl before ↦ c.ranges.held i n lt from (omega (arith, before, stop_last start i starts at_end))
        | inr after ↦ (
            let here : i ≡ length starts - 1 = omega arith in
            all n after (omega (arith, to, stop_last stop i starts at_end)) ∙ sym (some_entry family last b is) ∙ c.final some ∙ ap (λ (k : ℕ). longest_at family table (start_at starts k)) (sym here))
      ]
    ];
    group = c.ranges.group;
    differ = c.ranges.differ;
  };
  final = c.final;
  unbegun = c.unbegun;
}
  where
    some : 0 < length starts
    some = elim (cases_lt 0 (length starts)) [
      | inl lt ↦ lt
      | inr none ↦ (let no : last ≡ None = c.unbegun (omega arith) in absurd cc)
    ]

abbrev push : {X : Type 0} → List X → X → List X
push xs x = xs ++ x ∷ []

-- a further range, with another longest prefix than the last one
pub pushed : (family : Family) (table : List Entry) (starts : List ℕ) (groups : List GroupId) (last : Option Block) (b : Block) (start stop : ℕ) → CoversTo start family table starts groups last → (last ≡ Some b → ⊥) → AllLongest family table b start stop → start < stop → CoversTo stop family table (starts ++ start ∷ []) (groups ++ b.group ∷ []) (Some b)
pushed family table starts groups last b start stop c other all up = record {
  ranges = record {
    beside = omega (arith, longer, length-append groups (b.group ∷ []), c.ranges.beside);
    some = λ _. omega (arith, longer);
    none = λ z. absurd (omega arith);
    first = elim (cases_lt 0 (length starts)) [
      | inl some ↦ old 0 some ∙ c.ranges.first
      | inr none ↦ (
          let empty : length starts ≡ 0 = omega arith in
          let zero_start : start ≡ 0 = elim (cases_lt 0 start) [ inl more ↦ (let some : 0 < length starts = c.ranges.some more in absurd (omega arith)) | inr le ↦ omega arith ] in
          new 0 empty ∙ zero_start)
    ];
    rising = λ i lt. elim (cases_lt (i + 1) (length starts)) [
      | inl more ↦ omega (arith, c.ranges.rising i more, old i (omega arith), old (i + 1) more)
      | inr at_end ↦ omega (arith, c.ranges.below i (omega (arith, lt, longer)), old i (omega (arith, lt, longer)), new (i + 1) (omega (arith, lt, longer)))
    ];
    below = λ i lt. elim (cases_lt i (length starts)) [
      | inl more ↦ omega (arith, c.ranges.below i more, old i more)
      | inr at_end ↦ omega (arith, new i (omega (arith, lt, longer)))
    ];
    held = λ i n lt from to. elim (cases_lt i (length starts)) [
      | inl before ↦ (
          let here : start_at starts i ≤ n = omega (arith, from, old i before) in
          let there : n < stop_at start starts i = omega (arith, to, stop_more stop i (push starts start) (omega (arith, before, longer)), next_start i before) in
          c.ranges.held i n before here there ∙ ap (longest_at family table) (sym (old i before)))
      | inr at_end ↦ (
          let is : length starts ≡ i = omega (arith, lt, longer) in
          let here : start ≤ n = omega (arith, from, new i is) in
          all n here (omega (arith, to, stop_last stop i (push starts start) (omega (arith, is, longer)))) ∙ sym at_start ∙ ap (longest_at family table) (sym (new i is)))
    ];
    group = λ i lt. elim (cases_lt i (length starts)) [
      | inl before ↦ ap (λ (n : ℕ). group_of table (address_in family n)) (old i before) ∙ c.ranges.group i before ∙ ap (λ (g : GroupId). Some g) (sym (get_or_append_left groups (b.group ∷ []) _ i (omega (arith, before, c.ranges.beside))))
      | inr at_end ↦ (
          let is : length starts ≡ i = omega (arith, lt, longer) in
          ap (λ (n : ℕ). group_of table (address_in family n)) (new i is) ∙ ap (option_map (λ (e : Entry). e.1)) at_start ∙ ap (λ (g : GroupId). Some g) (sym (get_or_push groups b.group _ i (c.ranges.beside ∙ is))))
    ];
    differ = λ i lt same. elim (cases_lt (i + 1) (length starts)) [
      | inl more ↦ c.ranges.differ i more (ap (longest_at family table) (sym (old i (omega arith))) ∙ same ∙ ap (longest_at family table) (old (i + 1) more))
      | inr at_end ↦ (
          let is : length starts ≡ i + 1 = omega (arith, lt, longer) in
          let before : length starts - 1 ≡ i = omega arith in
          other (one_block family last b (c.final (omega arith) ∙ ap (λ (k : ℕ). longest_at family table (start_at starts k)) before ∙ ap (longest_at family table) (sym (old i (omega arith))) ∙ same ∙ ap (longest_at family table) (new (i + 1) is) ∙ at_start)))
    ];
  };
  final = λ _. sym at_start ∙ ap (longest_at family table) (sym (new (length (push starts start) - 1) (omega (arith, longer))));
  unbegun = λ z. absurd (omega (arith, z, longer));
}
  where
    longer : length (push starts start) ≡ length starts + 1
    longer = length-append starts (start ∷ [])

    old : (i : ℕ) → i < length starts → start_at (push starts start) i ≡ start_at starts i
    old i lt = get_or_append_left starts (start ∷ []) _ i lt

    new : (i : ℕ) → length starts ≡ i → start_at (push starts start) i ≡ start
    new i is = get_or_push starts start _ i is

    next_start : (i : ℕ) → i < length starts → start_at (push starts start) (i + 1) ≡ stop_at start starts i
    next_start i lt = elim (cases_lt (i + 1) (length starts)) [
      | inl more ↦ old (i + 1) more ∙ sym (stop_more start i starts more)
      | inr at_end ↦ new (i + 1) (omega arith) ∙ sym (stop_last start i starts at_end)
    ]

    at_start : longest_at family table start ≡ Some (entry_of family b)
    at_start = all start (omega arith) up
