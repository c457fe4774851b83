-- The entry of the longest prefix, found by one entry after the other.
use Rattle.std.proofs.Common.{zero, suc, length, get_or, take, ◌≡◌, ℕ, ◌<◌, ◌≤◌, Bool, true, false, cond, ◌&&◌, ltb, List, [], ◌∷◌, Option, Some, None, refl, sym, ap, subst, ◌∙◌, arith, inl, inr}
use Rattle.std.specs.Prelude.{not, find, fold, ◌⊎◌, IfSome}
use Rattle.std.specs.Option.{option_map_or}
use Rattle.std.proofs.lemmas.Bool.{ltb-true, ltb-false, le-ltb, and_parts, and_left, and_right}
use Rattle.std.proofs.lemmas.List.{take_all}
use Rattle.std.proofs.lemmas.List.Folds.{list_any_none}
use Rattle.addr_text.specs.declared.address.Addr.{Addr}
use Rattle.prefix_lookup.specs.Longest.{holds, is_surpassed, is_longest, longest, IsLongest}
use Rattle.prefix_lookup.specs.Steps.{longer, best_of}
use Rattle.prefix_lookup.proofs.Longest.{Entry, In, in_contains, surpassed_at, is_longest_of}

-- there is one, of at least so many bits
abbrev pub AtLeast : ℕ → Option Entry → Type 0
AtLeast m None = ⊥
AtLeast m (Some e) = m ≤ e.0.len

-- if there is one, it is of fewer bits
abbrev pub Below : ℕ → Option Entry → Type 0
Below n None = Unit {0}
Below n (Some e) = e.0.len < n

-- if there is one, it holds the address
abbrev pub Holding : Addr → Option Entry → Type 0
Holding a None = Unit {0}
Holding a (Some e) = holds e.0 a ≡ true

-- the entry is of the list, and each one before it that holds the address is shorter
abbrev pub IsFirst : Addr → Entry → List Entry → Type 0
IsFirst a r [] = ⊥
IsFirst a r (e ∷ es) = (e ≡ r) ⊎ ((holds e.0 a ≡ true → e.0.len < r.0.len) × IsFirst a r es)

keeps : (a : Addr) (m : ℕ) (best : Option Entry) (e : Entry) → AtLeast m best → AtLeast m (longer a best e)
keeps a m None e h = absurd h
keeps a m (Some q) e h = by_test (holds e.0 a && ltb q.0.len e.0.len) refl
  where
    by_test : (b : Bool) → (holds e.0 a && ltb q.0.len e.0.len) ≡ b → AtLeast m (cond b (Some e) (Some q))
    by_test true t = let more : q.0.len < e.0.len = ltb-true _ _ (and_parts (holds e.0 a) (ltb q.0.len e.0.len) t).1 in omega arith
    by_test false t = h

takes : (a : Addr) (best : Option Entry) (e : Entry) → holds e.0 a ≡ true → AtLeast e.0.len (longer a best e)
takes a None e h = subst (λ (b : Bool). AtLeast e.0.len (cond (b && true) (Some e) None)) (sym h) (omega arith)
takes a (Some q) e h = subst (λ (b : Bool). AtLeast e.0.len (cond (b && ltb q.0.len e.0.len) (Some e) (Some q))) (sym h) (by_test (ltb q.0.len e.0.len) refl)
  where
    by_test : (b : Bool) → ltb q.0.len e.0.len ≡ b → AtLeast e.0.len (cond b (Some e) (Some q))
    by_test true t = omega arith
    by_test false t = ltb-false _ _ t

still_holding : (a : Addr) (best : Option Entry) (e : Entry) → Holding a best → Holding a (longer a best e)
still_holding a best e h = by_test (holds e.0 a && option_map_or (λ b. ltb b.0.len e.0.len) best true) refl
  where
    by_test : (b : Bool) → (holds e.0 a && option_map_or (λ b. ltb b.0.len e.0.len) best true) ≡ b → Holding a (cond b (Some e) best)
    by_test true t = (and_parts (holds e.0 a) (option_map_or (λ b. ltb b.0.len e.0.len) best true) t).0
    by_test false t = h

keeps_all : (a : Addr) (m : ℕ) (best : Option Entry) (table : List Entry) → AtLeast m best → AtLeast m (fold (longer a) best table)
keeps_all a m best [] h = h
keeps_all a m best (e ∷ es) h = keeps_all a m (longer a best e) es (keeps a m best e h)

takes_from : (a : Addr) (best : Option Entry) (table : List Entry) (e : Entry) → In e table → holds e.0 a ≡ true → AtLeast e.0.len (fold (longer a) best table)
takes_from a best [] e among h = absurd among
takes_from a best (q ∷ qs) e (inl here) h = keeps_all a e.0.len (longer a best q) qs (subst (λ (r : Entry). AtLeast e.0.len (longer a best r)) here (takes a best e h))
takes_from a best (q ∷ qs) e (inr there) h = takes_from a (longer a best q) qs e there h

holding_from : (a : Addr) (best : Option Entry) (table : List Entry) → Holding a best → Holding a (fold (longer a) best table)
holding_from a best [] h = h
holding_from a best (e ∷ es) h = holding_from a (longer a best e) es (still_holding a best e h)

between : (m n : ℕ) (o : Option Entry) → AtLeast m o → Below n o → m < n
between m n None long short = absurd long
between m n (Some e) long short = omega arith

-- what was the best is no longer than what is
was_below : (a : Addr) (n : ℕ) (best : Option Entry) (e : Entry) → Below n (longer a best e) → Below n best
was_below a n None e short = tt
was_below a n (Some q) e short = between q.0.len n (longer a (Some q) e) (keeps a q.0.len (Some q) e (omega arith)) short

-- the best is the old one, or the one more, which is longer
replaced : (a : Addr) (best : Option Entry) (p r : Entry) (b : Bool) → (holds p.0 a && option_map_or (λ b. ltb b.0.len p.0.len) best true) ≡ b → cond b (Some p) best ≡ Some r → (best ≡ Some r) ⊎ (Below r.0.len best × (p ≡ r))
replaced a best p r false t e = inl e
replaced a None p r true t e = let same : p ≡ r = cc in inr (tt, same)
replaced a (Some q) p r true t e =
    let same : p ≡ r = cc in
    inr (subst (λ (x : Entry). q.0.len < x.0.len) same (ltb-true _ _ (and_parts (holds p.0 a) (ltb q.0.len p.0.len) t).1), same)

chosen : (a : Addr) (best : Option Entry) (table : List Entry) (r : Entry) → fold (longer a) best table ≡ Some r → (best ≡ Some r) ⊎ (Below r.0.len best × IsFirst a r table)
chosen a best [] r e = inl e
chosen a best (p ∷ ps) r e =
    elim (chosen a (longer a best p) ps r e) [
      | inr later ↦ inr (was_below a r.0.len best p later.0, inr ((λ h. between p.0.len r.0.len (longer a best p) (takes a best p h) later.0), later.1))
      | inl now ↦ elim (replaced a best p r (holds p.0 a && option_map_or (λ b. ltb b.0.len p.0.len) best true) refl now) [
        | inl old ↦ inl old
        | inr this ↦ inr (this.0, inl this.1)
      ]
    ]

first_in : (a : Addr) (r : Entry) (es : List Entry) → IsFirst a r es → In r es
first_in a r [] first = absurd first
first_in a r (e ∷ es) (inl here) = inl (sym here)
first_in a r (e ∷ es) (inr later) = inr (first_in a r es later.1)

-- an entry that is shorter where it holds the address is not the longest
outdone : (a : Addr) (table : List Entry) (e r : Entry) → In r table → holds r.0 a ≡ true → (holds e.0 a ≡ true → e.0.len < r.0.len) → is_longest table a e ≡ false
outdone a table e r i h shorter = by (holds e.0 a) refl
  where
    by : (b : Bool) → holds e.0 a ≡ b → is_longest table a e ≡ false
    by false t = and_left _ _ t
    by true t =
        let c = in_contains table r i in
        let over : is_surpassed table a e ≡ true = surpassed_at a table e c.0 r c.1 (subst (λ (x : Entry). holds x.0 a ≡ true) (sym c.2) h) (subst (λ (x : Entry). e.0.len < x.0.len) (sym c.2) (shorter t)) in
        and_right _ _ (ap not over)

finds : (a : Addr) (table es : List Entry) (r : Entry) → is_longest table a r ≡ true → In r table → holds r.0 a ≡ true → IsFirst a r es → find (is_longest table a) es ≡ Some r
finds a table [] r most i h first = absurd first
finds a table (e ∷ es) r most i h (inl here) = ap (λ (b : Bool). cond b (Some e) (find (is_longest table a) es)) (ap (is_longest table a) here ∙ most) ∙ ap (λ (x : Entry). Some x) here
finds a table (e ∷ es) r most i h (inr later) = ap (λ (b : Bool). cond b (Some e) (find (is_longest table a) es)) (outdone a table e r i h later.0) ∙ finds a table es r most i h later.1

finds_none : (test : Entry → Bool) (es : List Entry) → ((e : Entry) → In e es → test e ≡ false) → find test es ≡ None
finds_none test [] each = refl
finds_none test (e ∷ es) each = ap (λ (b : Bool). cond b (Some e) (find test es)) (each e (inl refl)) ∙ finds_none test es (λ f i. each f (inr i))

in_at : (table : List Entry) (k : ℕ) (d : Entry) → k < length table → In (get_or table k d) table
in_at [] k d lt = absurd (omega arith)
in_at (p ∷ ps) zero d lt = inl refl
in_at (p ∷ ps) (suc k) d lt = inr (in_at ps k d (omega arith))

-- one after the other gives the entry of the longest prefix
pub best_is : (a : Addr) (table : List Entry) → best_of table a ≡ longest table a
unfolding longest
best_is a table = by (best_of table a) refl
  where
    most : (r : Entry) → best_of table a ≡ Some r → (e : Entry) → In e table → holds e.0 a ≡ true → e.0.len ≤ r.0.len
    most r is e i h = subst (AtLeast e.0.len) is (takes_from a None table e i h)

    unsurpassed : (r : Entry) → best_of table a ≡ Some r → is_surpassed table a r ≡ false
    unsurpassed r is = list_any_none (λ f. holds f.0 a && ltb r.0.len f.0.len) table (λ k d lt. none_at (get_or table k d) (in_at table k d lt) (holds (get_or table k d).0 a) refl)
      where
        none_at : (f : Entry) → In f table → (b : Bool) → holds f.0 a ≡ b → (holds f.0 a && ltb r.0.len f.0.len) ≡ false
        none_at f i false t = and_left _ _ t
        none_at f i true t = and_right _ _ (le-ltb r.0.len f.0.len (most r is f i t))

    none_holds : best_of table a ≡ None → (e : Entry) → In e table → (b : Bool) → holds e.0 a ≡ b → is_longest table a e ≡ false
    none_holds is e i false t = and_left _ _ t
    none_holds is e i true t = absurd (subst (AtLeast e.0.len) is (takes_from a None table e i t))

    by : (o : Option Entry) → best_of table a ≡ o → best_of table a ≡ find (is_longest table a) table
    by None is = is ∙ sym (finds_none (is_longest table a) table (λ e i. none_holds is e i (holds e.0 a) refl))
    by (Some r) is =
        elim (chosen a None table r is) [
          | inl none ↦ absurd cc
          | inr c ↦
              let holding : holds r.0 a ≡ true = subst (Holding a) is (holding_from a None table tt) in
              let longest_one : is_longest table a r ≡ true = ap (λ (b : Bool). b && not (is_surpassed table a r)) holding ∙ ap not (unsurpassed r is) in
              is ∙ sym (finds a table table r longest_one (first_in a r table c.1) holding c.1)
        ]

-- an entry whose prefix holds the address is no longer than the longest
pub takes_all : (a : Addr) (table : List Entry) (e : Entry) → In e table → holds e.0 a ≡ true → AtLeast e.0.len (longest table a)
takes_all a table e i h = subst (AtLeast e.0.len) (best_is a table) (takes_from a None table e i h)

-- the longest holds the address
pub holding_all : (a : Addr) (table : List Entry) → Holding a (longest table a)
holding_all a table = subst (Holding a) (best_is a table) (holding_from a None table tt)

-- after the last entry
pub after_all : (a : Addr) (i : ℕ) (table : List Entry) (o : Option Entry) → length table ≤ i → o ≡ best_of (take i table) a → o ≡ longest table a
after_all a i table o le e = e ∙ ap (λ (l : List Entry). best_of l a) (take_all i table le) ∙ best_is a table

longest_if_some : (a : Addr) (table : List Entry) (o : Option Entry) → o ≡ longest table a → IfSome o (IsLongest table a)
longest_if_some a table None e = tt
longest_if_some a table (Some r) e = is_longest_of a table r (sym e)

pub longest_after_all : (a : Addr) (i : ℕ) (table : List Entry) (o : Option Entry) → length table ≤ i → o ≡ best_of (take i table) a → IfSome o (IsLongest table a)
longest_after_all a i table o le e = longest_if_some a table o (after_all a i table o le e)
