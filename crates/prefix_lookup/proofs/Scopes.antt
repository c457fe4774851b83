-- The scope, by its definition and by the search for it.
use Rattle.std.proofs.Common.{◌≡◌, ℕ, ◌<◌, ◌≤◌, true, false, List, length, get_or, sym, subst, arith, inl, inr}
use Rattle.std.specs.Prelude.{not, All}
use Rattle.std.specs.List.{range_with_len}
use Rattle.std.proofs.lemmas.Bool.{cases_lt}
use Rattle.std.proofs.lemmas.List.FromFn.{get_or-range_with_len, length-range_with_len}
use Rattle.std.proofs.lemmas.List.Sums.{fails_before_first, passes_at_first, position_or_len_is, prefix_len-le-length}
use Rattle.addr_text.specs.declared.address.Addr.{Addr}
use Rattle.addr_text.specs.Addresses.{IsPrefix, bits_of}
use Rattle.prefix_lookup.specs.Longest.{IsAddress}
use Rattle.prefix_lookup.specs.Scope.{is_undivided, scope_of, IsScope}
use Rattle.prefix_lookup.proofs.Longest.{Entry}
use Rattle.prefix_lookup.proofs.Blocks.{uniform, not_uniform, undivided_at_last}

-- the least number of bits at which nothing divides is the scope
is_scope : (a : Addr) (s : ℕ) (table : List Entry) → IsAddress a → s ≤ bits_of a → All (λ e. IsPrefix e.0) table → is_undivided table a s ≡ true → ((t : ℕ) → t < s → is_undivided table a t ≡ false) → IsScope table a s
is_scope a s table small le prefixes h before = record { within = le; uniform = uniform a s table h; least = λ t lt u. not_uniform a t table small prefixes (before t lt) u }

at : (n k : ℕ) → k < n → get_or (range_with_len 0 n) k 0 ≡ k
at n k lt = omega (arith, get_or-range_with_len 0 n k 0 lt)

scope_within : (a : Addr) (table : List Entry) → scope_of table a ≤ bits_of a
unfolding scope_of
scope_within a table = omega (arith, prefix_len-le-length (λ s. not (is_undivided table a s)) (range_with_len 0 (bits_of a)), length-range_with_len 0 (bits_of a))

divided_before : (a : Addr) (table : List Entry) (t : ℕ) → t < scope_of table a → is_undivided table a t ≡ false
unfolding scope_of
divided_before a table t lt = subst (λ (n : ℕ). is_undivided table a n ≡ false) (at (bits_of a) t (omega (arith, scope_within a table))) (fails_before_first (is_undivided table a) (range_with_len 0 (bits_of a)) t 0 lt)

undivided_at_scope : (a : Addr) (table : List Entry) → All (λ e. IsPrefix e.0) table → is_undivided table a (scope_of table a) ≡ true
unfolding scope_of
undivided_at_scope a table prefixes =
    elim (cases_lt (scope_of table a) (bits_of a)) [
      | inl lt ↦ subst (λ (n : ℕ). is_undivided table a n ≡ true) (at (bits_of a) (scope_of table a) lt) (passes_at_first (is_undivided table a) (range_with_len 0 (bits_of a)) 0 (omega (arith, length-range_with_len 0 (bits_of a))))
      | inr ge ↦
          let last : bits_of a ≡ scope_of table a = omega (arith, scope_within a table) in
          subst (λ (n : ℕ). is_undivided table a n ≡ true) last (undivided_at_last a table prefixes)
    ]

-- the scope that computes is what its words say
pub scope_is : (a : Addr) (table : List Entry) → IsAddress a → All (λ e. IsPrefix e.0) table → IsScope table a (scope_of table a)
scope_is a table small prefixes = is_scope a (scope_of table a) table small (scope_within a table) prefixes (undivided_at_scope a table prefixes) (divided_before a table)

-- the search ends at it
pub scope_at : (a : Addr) (s : ℕ) (table : List Entry) → s ≤ bits_of a → ((t : ℕ) → t < s → is_undivided table a t ≡ false) → (s < bits_of a → is_undivided table a s ≡ true) → s ≡ scope_of table a
unfolding scope_of
scope_at a s table le before here =
    let size : length (range_with_len 0 (bits_of a)) ≡ bits_of a = length-range_with_len 0 (bits_of a) in
    sym (position_or_len_is (is_undivided table a) (range_with_len 0 (bits_of a)) s 0 (omega arith)
    (λ k lt. subst (λ (n : ℕ). is_undivided table a n ≡ false) (sym (at (bits_of a) k (omega arith))) (before k lt))
    (λ lt. subst (λ (n : ℕ). is_undivided table a n ≡ true) (sym (at (bits_of a) s (omega arith))) (here (omega arith))))

-- an address has one scope
pub one_scope : (a : Addr) (s t : ℕ) (table : List Entry) → IsScope table a s → IsScope table a t → s ≡ t
one_scope a s t table first second =
    elim (cases_lt s t) [
      | inl lt ↦ absurd (second.least s lt first.uniform)
      | inr le ↦ elim (cases_lt t s) [ inl lt ↦ absurd (first.least t lt second.uniform) | inr ge ↦ omega arith ]
    ]
