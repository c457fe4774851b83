-- The addresses of an entry, each in the list of its family.
use Rattle.std.proofs.Common.{◌≡◌, ℕ, ◌≤◌, suc, Bool, true, false, not, ◌&&◌, nat_lt, cond, List, [], ◌∷◌, length, Option, None, Some, IsTrue, All, refl, subst, arith}
use Rattle.std.proofs.lemmas.Bool.Decides.{nat_tests}
use Rattle.std.proofs.lemmas.List.Elements.{All-cons, All-nil}
use Rattle.std.specs.List.{cons_option, filter_map}
use Rattle.std.proofs.lemmas.List.{nil_from_length}
use Rattle.addr_text.specs.declared.address.Addr.{Addr}
use Rattle.addr_text.specs.Addresses.{addr_of}
use Rattle.toml.specs.Data.{Data, string, integer, float, boolean, datetime, array, table}
use Rattle.topology_text.specs.Hosts.{IsHosts, is_v4, is_v6}
use Rattle.topology_text.specs.Texts.{address_if}
use Rattle.topology_text.specs.Topology.{address_in, hosts_of, items_in}
use Rattle.topology_text.specs.declared.schema.Key.TheVariants.{A, Aaaa}

length-filter_map : {X Y : Type 0} (f : X → Option Y) (xs : List X) → length (filter_map f xs) ≤ length xs
length-filter_map f [] = omega arith
length-filter_map f (x ∷ xs) = one (f x) (filter_map f xs) (length xs) (length-filter_map f xs)
  where
    one : {Y : Type 0} (o : Option Y) (ys : List Y) (n : ℕ) → length ys ≤ n → length (cons_option o ys) ≤ suc n
    one None ys n h = omega arith
    one (Some y) ys n h = omega arith

All-filter_map : {X Y : Type 0} (f : X → Option Y) (P : Y → Type 0) (xs : List X) → ((x : X) (y : Y) → f x ≡ Some y → P y) → All P (filter_map f xs)
All-filter_map f P [] each = All-nil P
All-filter_map f P (x ∷ xs) each = one (f x) refl (All-filter_map f P xs each)
  where
    one : (o : Option _) → f x ≡ o → All P (filter_map f xs) → All P (cons_option o (filter_map f xs))
    one None is rest = rest
    one (Some y) is rest = All-cons P y (filter_map f xs) (each x y is) rest

-- an address that passes a test does
passed : (test : Addr → Bool) (o : Option Addr) (a : Addr) → address_if test o ≡ Some a → test a ≡ true
passed test None a h = cc
passed test (Some b) a h = by_test (test b) refl h
  where
    by_test : (c : Bool) → test b ≡ c → cond c (Some b) None ≡ Some a → test a ≡ true
    by_test true is some = let same : b ≡ a = cc in subst (λ x. test x ≡ true) same is
    by_test false is some = cc

v4_passed : (d : Data) (a : Addr) → address_in A d ≡ Some a → is_v4 a ≡ true
v4_passed (string t) a h = passed is_v4 (addr_of t) a h
v4_passed (integer z) a h = cc
v4_passed (float x) a h = cc
v4_passed (boolean b) a h = cc
v4_passed (datetime t) a h = cc
v4_passed (array ds) a h = cc
v4_passed (table ms) a h = cc

v6_passed : (d : Data) (a : Addr) → address_in Aaaa d ≡ Some a → is_v6 a ≡ true
v6_passed (string t) a h = passed is_v6 (addr_of t) a h
v6_passed (integer z) a h = cc
v6_passed (float x) a h = cc
v6_passed (boolean b) a h = cc
v6_passed (datetime t) a h = cc
v6_passed (array ds) a h = cc
v6_passed (table ms) a h = cc

pub hosts_good : (e : Data) → length (items_in e A) ≤ 40 → length (items_in e Aaaa) ≤ 40 → IsHosts (hosts_of e)
hosts_good e few more = record {
  few_v4 = omega (arith, length-filter_map (address_in A) (items_in e A));
  few_v6 = omega (arith, length-filter_map (address_in Aaaa) (items_in e Aaaa));
  v4 = All-filter_map (address_in A) (λ a. IsTrue (is_v4 a)) (items_in e A) v4_passed;
  v6 = All-filter_map (address_in Aaaa) (λ a. IsTrue (is_v6 a)) (items_in e Aaaa) v6_passed;
}

-- a node that is no pool has no items in its lists, so no addresses
no_items : (n : ℕ) (flag : Bool) → flag ≡ false → (nat_lt 0 n && not flag) ≡ false → n ≡ 0
no_items n true off shape = cc
no_items n false off shape = grind (arith, nat_tests)

pub hosts_none : (e : Data) → items_in e A ≡ [] → items_in e Aaaa ≡ [] → hosts_of e ≡ record { v4 = []; v6 = [] }
hosts_none e a aaaa = rw (a, aaaa) refl

pub list_empty : (flag : Bool) (ds : List Data) → flag ≡ false → (nat_lt 0 (length ds) && not flag) ≡ false → ds ≡ []
list_empty flag ds off shape = nil_from_length ds (no_items (length ds) flag off shape)
