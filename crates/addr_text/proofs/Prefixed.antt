-- What is read as a prefix is one.
use Rattle.std.proofs.Common.{◌≡◌, ℕ, ◌≤◌, ◌==◌, Bool, true, false, cond, nat_le, List, Option, None, Some, option_map, refl, subst, arith}
use Rattle.std.proofs.lemmas.Bool.Decides.{nat_tests}
use Rattle.std.specs.Option.{option_and_then}
use Rattle.std.specs.List.{after_first, before_first}
use Rattle.addr_text.specs.declared.address.Addr.{Addr}
use Rattle.addr_text.specs.declared.address.Prefix.{Prefix}
use Rattle.addr_text.specs.Numbers.{all_of, decimal_digit, in_base, is_plain, number_of, only_if}
use Rattle.addr_text.specs.Addresses.{IsPrefix, addr_of, bits_of, is_clear, prefix_at, prefix_of, prefix_with}

-- a number that is read is no higher than its limit
number_within : (limit : ℕ) (text : List ℕ) (n : ℕ) → number_of limit text ≡ Some n → n ≤ limit
number_within limit text n is = plain (is_plain text) (option_map (in_base 10) (all_of decimal_digit text)) is
  where
    tested : (b : Bool) (m : ℕ) → nat_le m limit ≡ b → cond b (Some m) None ≡ Some n → n ≤ limit
    tested true m low e = let same : m ≡ n = cc in let few : m ≤ limit = grind (arith, nat_tests) in omega arith
    tested false m low e = cc

    plain : (b : Bool) (o : Option ℕ) → cond b (only_if (λ m. nat_le m limit) o) None ≡ Some n → n ≤ limit
    plain false o e = cc
    plain true None e = cc
    plain true (Some m) e = tested (nat_le m limit) m refl e

one_prefix : (addr : Addr) (n : ℕ) (b : Bool) (p : Prefix) → n ≤ bits_of addr → is_clear addr n ≡ b → option_map (prefix_at addr) (cond b (Some n) None) ≡ Some p → IsPrefix p
one_prefix addr n false p low clear e = cc
one_prefix addr n true p low clear e = let is : prefix_at addr n ≡ p = cc in subst IsPrefix is (record { len = low; clear = clear })

with_size : (size : List ℕ) (addr : Addr) (p : Prefix) → prefix_with size addr ≡ Some p → IsPrefix p
with_size size addr p e = go (number_of (bits_of addr) size) (λ n is. number_within (bits_of addr) size n is) e
  where
    go : (o : Option ℕ) → ((n : ℕ) → o ≡ Some n → n ≤ bits_of addr) → option_map (prefix_at addr) (only_if (is_clear addr) o) ≡ Some p → IsPrefix p
    go None low h = cc
    go (Some n) low h = one_prefix addr n (is_clear addr n) p (low n refl) refl h

pub prefix_is : (text : List ℕ) (p : Prefix) → prefix_of text ≡ Some p → IsPrefix p
unfolding prefix_of
prefix_is text p e = go (addr_of (before_first (λ b. b == 47) text)) e
  where
    go : (o : Option Addr) → option_and_then (prefix_with (after_first (λ b. b == 47) text)) o ≡ Some p → IsPrefix p
    go None h = cc
    go (Some addr) h = with_size (after_first (λ b. b == 47) text) addr p h
