-- Going over records, and keeping the only OPT.
use Rattle.std.proofs.Common.{◌≡◌, ℕ, suc, ◌+◌, ◌-◌, ◌<◌, ◌≤◌, Bool, true, false, List, [], ◌∷◌, Option, Some, None, cond, refl, sym, ◌∙◌, arith, filter}
use Rattle.dns_wire.specs.Wire.{◌>>=◌, Record, record_in, records_in}
use Rattle.dns_wire.specs.Message.{Extension, is_opt, is_root, extension_of, only_opt}
use Rattle.dns_wire.specs.Steps.{with_record}

-- the only OPT of some records, where one may have been found before
abbrev pub only_more : Option Extension → List Record → Option (Option Extension)
only_more None rs = only_opt rs
only_more (Some e) [] = Some (Some e)
only_more (Some e) (_ ∷ _) = None

nothing : {A B : Type 0} (o : Option A) → (o >>= λ _. let n : Option B = None in n) ≡ None
nothing None = refl
nothing (Some x) = refl

root : (b : Bool) (r : Record) (opts : List Record) → is_root r.owner ≡ b → only_opt (r ∷ opts) ≡ (cond b (Some (Some (extension_of r))) None >>= λ f. only_more f opts)
root true r [] e = rw e refl
root true r (_ ∷ _) e = refl
root false r [] e = rw e refl
root false r (_ ∷ _) e = refl

-- what is found in so many records
abbrev pub opt_after : Option Extension → ℕ → List ℕ → Option (Option Extension)
opt_after found count octets = records_in count octets >>= λ rs. only_more found (filter is_opt rs)

-- the next record comes first
filtered : (b : Bool) (found : Option Extension) (r : Record) (rs : List Record) → is_opt r ≡ b → only_more found (filter is_opt (r ∷ rs)) ≡ (with_record found r >>= λ f. only_more f (filter is_opt rs))
filtered true None r rs e = rw e (root (is_root r.owner) r (filter is_opt rs) refl)
filtered true (Some x) r rs e = rw e refl
filtered false found r rs e = rw e refl

commute : (found : Option Extension) (r : Record) (o : Option (List Record)) → ((o >>= λ others. Some (r ∷ others)) >>= λ rs. only_more found (filter is_opt rs)) ≡ (with_record found r >>= λ f. o >>= λ rs. only_more f (filter is_opt rs))
commute found r None = sym (nothing (with_record found r))
commute found r (Some rs) = filtered (is_opt r) found r rs refl

pub opt_after-suc : (found : Option Extension) (count : ℕ) (octets : List ℕ) → opt_after found (suc count) octets ≡ (record_in octets >>= λ x. with_record found x.0 >>= λ f. opt_after f count x.1)
unfolding records_in
opt_after-suc found count octets = by_first (record_in octets)
  where
    by_first : (o : Option (Record × List ℕ)) → ((o >>= λ x. records_in count x.1 >>= λ others. Some (x.0 ∷ others)) >>= λ rs. only_more found (filter is_opt rs)) ≡ (o >>= λ x. with_record found x.0 >>= λ f. opt_after f count x.1)
    by_first None = refl
    by_first (Some x) = commute found x.0 (records_in count x.1)

pub goes_on : (found f : Option Extension) (count i : ℕ) (octets after : List ℕ) (r : Record) (all : Option (Option Extension)) → i < count → record_in octets ≡ Some (r, after) → with_record found r ≡ Some f
    → opt_after found (count - i) octets ≡ all → opt_after f (count - (i + 1)) after ≡ all
goes_on found f count i octets after r all lt read kept so_far =
    let k : count - i ≡ suc (count - (i + 1)) = omega arith in
    let one : opt_after found (count - i) octets ≡ opt_after f (count - (i + 1)) after = rw k (opt_after-suc found (count - (i + 1)) octets ∙ rw read (rw kept refl)) in
    sym one ∙ so_far

pub no_record : (found : Option Extension) (count i : ℕ) (octets : List ℕ) (all : Option (Option Extension)) → i < count → record_in octets ≡ None → opt_after found (count - i) octets ≡ all → all ≡ None
no_record found count i octets all lt read so_far =
    let k : count - i ≡ suc (count - (i + 1)) = omega arith in
    sym so_far ∙ rw k (opt_after-suc found (count - (i + 1)) octets ∙ rw read refl)

pub refused : (found : Option Extension) (count i : ℕ) (octets after : List ℕ) (r : Record) (all : Option (Option Extension)) → i < count → record_in octets ≡ Some (r, after) → with_record found r ≡ None
    → opt_after found (count - i) octets ≡ all → all ≡ None
refused found count i octets after r all lt read kept so_far =
    let k : count - i ≡ suc (count - (i + 1)) = omega arith in
    sym so_far ∙ rw k (opt_after-suc found (count - (i + 1)) octets ∙ rw read (rw kept refl))

nothing_more : (found : Option Extension) → only_more found [] ≡ Some found
nothing_more None = refl
nothing_more (Some e) = refl

pub is_done : (found : Option Extension) (count i : ℕ) (octets : List ℕ) (all : Option (Option Extension)) → count ≤ i → opt_after found (count - i) octets ≡ all → Some found ≡ all
unfolding records_in
is_done found count i octets all le so_far =
    let k : count - i ≡ 0 = omega arith in
    let one : opt_after found (count - i) octets ≡ Some found = rw k (nothing_more found) in
    sym one ∙ so_far
