-- What the entry of the longest prefix is, by the definition alone.
use Rattle.std.proofs.Common.{suc, length, get_or, ◌≡◌, ℕ, ◌<◌, Bool, true, false, cond, ◌&&◌, ltb, List, [], ◌∷◌, Some, refl, sym, subst, arith, inl, inr}
use Rattle.std.specs.Prelude.{not, find, ◌⊎◌, Contains}
use Rattle.std.proofs.lemmas.Bool.{and_parts, and_from, not-true, both_ways, cases_lt, lt-ltb}
use Rattle.std.proofs.lemmas.List.Folds.{list_any_at}
use Rattle.addr_text.specs.declared.address.Addr.{Addr}
use Rattle.addr_text.specs.declared.address.Prefix.{Prefix}
use Rattle.map_model.specs.declared.instance.GroupId.{GroupId}
use Rattle.prefix_lookup.specs.Longest.{holds, is_surpassed, is_longest, longest, IsLongest}

-- a prefix with its group
abbrev pub Entry : Type 0
Entry = Prefix × GroupId

-- the entry is of the table
abbrev pub In : Entry → List Entry → Type 0
In e [] = ⊥
In e (f ∷ fs) = (e ≡ f) ⊎ In e fs

pub in_contains : (table : List Entry) (r : Entry) → In r table → Contains table r
in_contains [] r i = absurd i
in_contains (p ∷ ps) r (inl here) = (0, omega arith, sym here)
in_contains (p ∷ ps) r (inr there) = let c = in_contains ps r there in (suc c.0, omega (arith, c.1), c.2)

-- what is found is of the list, and passes
found : (test : Entry → Bool) (es : List Entry) (r : Entry) → find test es ≡ Some r → In r es × (test r ≡ true)
found test [] r e = absurd cc
found test (p ∷ ps) r e = by (test p) refl (found test ps r) e
  where
    by : (b : Bool) → test p ≡ b → (find test ps ≡ Some r → In r ps × (test r ≡ true)) → cond b (Some p) (find test ps) ≡ Some r → In r (p ∷ ps) × (test r ≡ true)
    by true t later e = let same : p ≡ r = cc in (inl (sym same), subst (λ (x : Entry). test x ≡ true) same t)
    by false t later e = let l = later e in (inr l.0, l.1)

-- an entry that holds the address and is longer surpasses
pub surpassed_at : (a : Addr) (table : List Entry) (e : Entry) (k : ℕ) (d : Entry) → k < length table → holds (get_or table k d).0 a ≡ true → e.0.len < (get_or table k d).0.len → is_surpassed table a e ≡ true
surpassed_at a table e k d lt h long = list_any_at (λ f. holds f.0 a && ltb e.0.len f.0.len) table k d lt (and_from _ _ h (lt-ltb _ _ long))

pub is_longest_of : (a : Addr) (table : List Entry) (r : Entry) → longest table a ≡ Some r → IsLongest table a r
unfolding longest
is_longest_of a table r e =
    let f = found (is_longest table a) table r e in
    let parts = and_parts (holds r.0 a) (not (is_surpassed table a r)) f.1 in
    record {
      among = in_contains table r f.0;
      holding = parts.0;
      most = λ k d lt h. elim (cases_lt r.0.len (get_or table k d).0.len) [
        | inl long ↦ absurd (both_ways (is_surpassed table a r) (not-true _ parts.1) (surpassed_at a table r k d lt h long))
        | inr short ↦ short
      ];
    }
