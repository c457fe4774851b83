-- A table without faults is sound: what each rule says of one value.
use Rattle.std.proofs.Common.{◌≡◌, ℕ, ◌-◌, ◌<◌, ◌≤◌, ℤ, pos, negsuc, Bool, true, false, not, ◌||◌, nat_lt, cond, List, [], ◌∷◌, length, Option, None, Some, IfSome, is_some, refl, ap, sym, ◌∙◌, arith}
use Rattle.std.proofs.lemmas.Bool.Decides.{nat_tests}
use Rattle.toml.specs.Data.{Data, Members, string, integer, float, boolean, datetime, array, table}
use Rattle.topology_text.specs.Schema.{is_item_kind, is_kind, kind_of}
use Rattle.topology_text.specs.Values.{failing, is_in_range, is_out_of_range, is_over, is_within, whole_if, wrong_in}
use Rattle.topology_text.specs.Walk.{items_of_value, items_where}
use Rattle.topology_text.specs.Names.{ascend, entry_at, is_deep, is_misplaced, is_pool}
use Rattle.topology_text.specs.Topology.{natural, natural_in}
use Rattle.topology_text.specs.declared.schema.At.TheVariants.{Whole}
use Rattle.topology_text.specs.declared.schema.Key.{Key}
use Rattle.topology_text.specs.declared.schema.Kind.TheVariants.{Table, Text}
use Rattle.topology_text.proofs.Quiet.{not_whole}

pub not_over : (limit n : ℕ) → whole_if (is_over (Some limit) n) ≡ [] → n ≤ limit
not_over limit n h = let under : nat_lt limit n ≡ false = not_whole (nat_lt limit n) h in grind (arith, nat_tests)

pub within_high : (low high : ℕ) (z : ℤ) → not (is_within low high z) ≡ false → natural (integer z) ≤ high
within_high low high (pos n) h = grind (arith, nat_tests)
within_high low high (negsuc n) h = cc

pub within_low : (low high : ℕ) (z : ℤ) → not (is_within low high z) ≡ false → low ≤ natural (integer z)
within_low low high (pos n) h = grind (arith, nat_tests)
within_low low high (negsuc n) h = cc

-- a value of a key's kind
of_kind : (k : Key) (d : Data) → wrong_in k (Some d) ≡ [] → is_kind (kind_of k) d ≡ true
of_kind k d h = go (is_kind (kind_of k) d) h
  where
    go : (b : Bool) → cond b (items_where (λ e. not (is_item_kind (kind_of k) e)) (items_of_value (Some d))) (Whole ∷ []) ≡ [] → b ≡ true
    go true q = refl
    go false q = cc

is_text : (d : Data) → is_kind Text d ≡ true → (t : List ℕ) × (d ≡ string t)
is_text (string t) h = (t, refl)
is_text (integer z) h = cc
is_text (float x) h = cc
is_text (boolean b) h = cc
is_text (datetime t) h = cc
is_text (array ds) h = cc
is_text (table ms) h = cc

pub is_table : (d : Data) → is_kind Table d ≡ true → (ms : Members) × (d ≡ table ms)
is_table (table ms) h = (ms, refl)
is_table (string t) h = cc
is_table (integer z) h = cc
is_table (float x) h = cc
is_table (boolean b) h = cc
is_table (datetime t) h = cc
is_table (array ds) h = cc

-- what stands at a key for a text, or for a table, is one
pub text_there : (k : Key) → kind_of k ≡ Text → (o : Option Data) → is_some o ≡ true → wrong_in k o ≡ [] → (t : List ℕ) × (o ≡ Some (string t))
text_there k text None there kind = cc
text_there k text (Some d) there kind = let (t, is) = is_text d (ap (λ x. is_kind x d) (sym text) ∙ of_kind k d kind) in (t, ap Some is)

pub table_there : (k : Key) → kind_of k ≡ Table → (o : Option Data) → is_some o ≡ true → wrong_in k o ≡ [] → (ms : Members) × (o ≡ Some (table ms))
table_there k is_one None there kind = cc
table_there k is_one (Some d) there kind = let (ms, is) = is_table d (ap (λ x. is_kind x d) (sym is_one) ∙ of_kind k d kind) in (ms, ap Some is)

-- a number within its key's range is below what follows on the range, and what is no number counts as 0
pub number_fits : (k : Key) (low limit : ℕ) → 0 < limit → ((z : ℤ) → is_in_range k z ≡ is_within low (limit - 1) z) → (o : Option Data) → failing (is_out_of_range k) o ≡ [] → natural_in o < limit
number_fits k low limit some is None range = some
number_fits k low limit some is (Some (integer z)) range = let high : natural (integer z) ≤ limit - 1 = within_high low (limit - 1) z (ap (λ b. not b) (sym (is z)) ∙ not_whole _ range) in omega (arith, some, high)
number_fits k low limit some is (Some (string t)) range = some
number_fits k low limit some is (Some (float x)) range = some
number_fits k low limit some is (Some (boolean b)) range = some
number_fits k low limit some is (Some (datetime t)) range = some
number_fits k low limit some is (Some (array ds)) range = some
number_fits k low limit some is (Some (table ms)) range = some

pub parent_before : (nodes : List Data) (i : ℕ) (o : Option ℕ) → whole_if (is_misplaced nodes i o) ≡ [] → IfSome o (λ p. p < i)
parent_before nodes i None h = tt
parent_before nodes i (Some p) h =
    let well : is_misplaced nodes i (Some p) ≡ false = not_whole (is_misplaced nodes i (Some p)) h in
    less (nat_lt p i) refl well
  where
    less : (b : Bool) → nat_lt p i ≡ b → (not b || is_pool (entry_at nodes p)) ≡ false → p < i
    less true is well = grind (arith, nat_tests)
    less false is well = cc

pub parent_inner : (nodes : List Data) (i : ℕ) (o : Option ℕ) → whole_if (is_misplaced nodes i o) ≡ [] → IfSome o (λ p. is_pool (entry_at nodes p) ≡ false)
parent_inner nodes i None h = tt
parent_inner nodes i (Some p) h =
    let well : is_misplaced nodes i (Some p) ≡ false = not_whole (is_misplaced nodes i (Some p)) h in
    inner (nat_lt p i) well
  where
    inner : (b : Bool) → (not b || is_pool (entry_at nodes p)) ≡ false → is_pool (entry_at nodes p) ≡ false
    inner true well = well
    inner false well = cc

pub not_deep : (nodes : List Data) (i : ℕ) → whole_if (is_deep nodes i) ≡ [] → length (ascend 9 nodes (Some i)) ≤ 8
not_deep nodes i h = not_over 8 (length (ascend 9 nodes (Some i))) h
