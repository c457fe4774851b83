-- Each address has a longest prefix, where both defaults are there.
use Rattle.std.proofs.Common.{zero, suc, length, take, ◌≡◌, ℕ, ◌^◌, ◌<◌, ◌≤◌, List, [], ◌∷◌, Option, Some, None, true, refl, sym, ap, subst, arith, eq-eqb, inl, inr}
use Rattle.std.specs.Prelude.{map, option_map, Contains, IsSome, slice_index_or}
use Rattle.std.proofs.Math.Nat.{div-eq_of_lt}
use Rattle.addr_text.specs.declared.address.Addr.{Addr}
use Rattle.addr_text.specs.declared.address.Addr.TheVariants.{V4, V6}
use Rattle.addr_text.specs.declared.address.Prefix.{Prefix}
use Rattle.addr_text.specs.Addresses.{default_v4, default_v6}
use Rattle.map_model.specs.declared.instance.GroupId.{GroupId}
use Rattle.prefix_lookup.specs.Longest.{IsAddress, holds, longest, group_of, HasLongest}
use Rattle.prefix_lookup.specs.Table.{IsTable}
use Rattle.prefix_lookup.specs.Steps.{best_of}
use Rattle.prefix_lookup.proofs.Longest.{Entry, In, is_longest_of}
use Rattle.prefix_lookup.proofs.Chosen.{AtLeast, takes_all, after_all}

-- a prefix of the table has its entry
pub entry_of : (table : List Entry) (p : Prefix) (k : ℕ) → k < length (map (λ e. e.0) table) → slice_index_or (map (λ e. e.0) table) k p ≡ p → (e : Entry) × In e table × (e.0 ≡ p)
entry_of [] p k lt is = absurd (omega arith)
entry_of (e ∷ es) p zero lt is = (e, inl refl, is)
entry_of (e ∷ es) p (suc k) lt is = let r = entry_of es p k (omega arith) is in (r.0, inr r.1, r.2)

-- the default of its family holds an address
default_holds_v4 : (n : ℕ) → n < 2 ^ 32 → holds default_v4 (V4 n) ≡ true
default_holds_v4 n fits = eq-eqb _ _ (sym (div-eq_of_lt fits))

default_holds_v6 : (n : ℕ) → n < 2 ^ 128 → holds default_v6 (V6 n) ≡ true
default_holds_v6 n fits = eq-eqb _ _ (sym (div-eq_of_lt fits))

not_none : (m : ℕ) (o : Option Entry) → AtLeast m o → o ≡ None → ⊥
not_none m None long e = long
not_none m (Some r) long e = absurd cc

by_default : (a : Addr) (p : Prefix) (table : List Entry) → Contains (map (λ e. e.0) table) p → holds p a ≡ true → longest table a ≡ None → ⊥
by_default a p table c h none =
    let r = entry_of table p c.0 c.1 c.2 in
    not_none r.0.0.len (longest table a) (takes_all a table r.0 r.1 (subst (λ (q : Prefix). holds q a ≡ true) (sym r.2) h)) none

-- so no address is without a longest prefix
pub not_without : (a : Addr) (table : List Entry) → IsAddress a → IsTable table → longest table a ≡ None → ⊥
not_without (V4 n) table fits t none = by_default (V4 n) default_v4 table t.all_v4 (default_holds_v4 n fits) none
not_without (V6 n) table fits t none = by_default (V6 n) default_v6 table t.all_v6 (default_holds_v6 n fits) none

-- so each address has a group, that of its longest prefix
pub has_group : (a : Addr) (table : List Entry) → IsAddress a → IsTable table → (g : GroupId) × (group_of table a ≡ Some g) × HasLongest table a g
has_group a table fits t = by (longest table a) refl
  where
    by : (o : Option Entry) → longest table a ≡ o → (g : GroupId) × (group_of table a ≡ Some g) × HasLongest table a g
    by None is = absurd (not_without a table fits t is)
    by (Some e) is = (e.1, ap (λ (o : Option Entry). option_map (λ f. f.1) o) is, (e.0, is_longest_of a table e is))

-- after the last entry there is one
pub some_after_all : (a : Addr) (i : ℕ) (table : List Entry) (o : Option Entry) → length table ≤ i → o ≡ best_of (take i table) a → IsAddress a → IsTable table → IsSome o
some_after_all a i table None le e fits t = absurd (not_without a table fits t (sym (after_all a i table None le e)))
some_after_all a i table (Some r) le e fits t = refl
