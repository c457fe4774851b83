-- Groups and services of classes that stand for the second time.
use Rattle.std.proofs.Common.{◌≡◌, ℕ, ◌+◌, ◌<◌, ◌≤◌, nat_lt, Bool, true, false, ◌||◌, List, [], ◌∷◌, ◌++◌, length, get_or, take, Option, None, Some, refl, ap, sym, ◌∙◌, arith}
use Rattle.std.proofs.lemmas.Bool.Decides.{nat_tests}
use Rattle.std.proofs.lemmas.List.{get_or_append_left, get_or_past, get_or-append-add, length-append, take_more}
use Rattle.std.proofs.lemmas.List.Elements.{filter_map-append}
use Rattle.std.proofs.lemmas.List.Folds.{list_any-append}
use Rattle.std.specs.List.{cons_option, filter_map, list_any}
use Rattle.toml.specs.Data.{Data, boolean}
use Rattle.topology_text.specs.Names.{entry_at, is_paired, is_same_pair}

-- so far the noted pairs are those of the entries, and there is a flag for each
pub record AreFlagged (f : Data → Option (ℕ × ℕ)) (ds : List Data) (i : ℕ) (seen : List (ℕ × ℕ)) (flags : List Bool) : Type 0 where
  pub noted : (p : ℕ × ℕ) → list_any (is_same_pair p) seen ≡ list_any (is_same_pair p) (filter_map f (take i ds))
  pub as_many : length flags ≡ i
  pub each : (j : ℕ) → j < i → get_or flags j false ≡ is_paired (filter_map f (take j ds)) (f (entry_at ds j))

same_pair : (p q : ℕ × ℕ) → is_same_pair p q ≡ true → p ≡ q
same_pair (a, b) (c, e) h = let one : a ≡ c = grind (arith, nat_tests) in let two : b ≡ e = grind (arith, nat_tests) in ap (λ x. (x, b)) one ∙ ap (λ y. (c, y)) two

paired_same : (xs ys : List (ℕ × ℕ)) → ((p : ℕ × ℕ) → list_any (is_same_pair p) xs ≡ list_any (is_same_pair p) ys) → (o : Option (ℕ × ℕ)) → is_paired xs o ≡ is_paired ys o
paired_same xs ys same None = refl
paired_same xs ys same (Some p) = same p

-- one more entry among those before
one_more : (f : Data → Option (ℕ × ℕ)) (ds : List Data) (i : ℕ) → i < length ds → filter_map f (take (i + 1) ds) ≡ filter_map f (take i ds) ++ cons_option (f (entry_at ds i)) []
one_more f ds i h = ap (filter_map f) (take_more ds i (boolean false) h) ∙ filter_map-append f (take i ds) (entry_at ds i ∷ [])

-- a pair that is there already adds nothing
nothing_new : (xs : List (ℕ × ℕ)) (o : Option (ℕ × ℕ)) (p : ℕ × ℕ) → is_paired xs o ≡ true → list_any (is_same_pair p) xs ≡ list_any (is_same_pair p) (xs ++ cons_option o [])
nothing_new xs None p h = cc
nothing_new xs (Some q) p h = sym (list_any-append (is_same_pair p) xs (q ∷ []) ∙ one (is_same_pair p q) refl)
  where
    one : (b : Bool) → is_same_pair p q ≡ b → (list_any (is_same_pair p) xs || (b || false)) ≡ list_any (is_same_pair p) xs
    one false is = off (list_any (is_same_pair p) xs)
      where
        off : (b : Bool) → (b || false) ≡ b
        off true = refl
        off false = refl
    one true is =
        let there : list_any (is_same_pair p) xs ≡ true = ap (λ x. list_any (is_same_pair x) xs) (same_pair p q is) ∙ h in
        ap (λ b. b || true) there ∙ sym there

pub flagged_on : (f : Data → Option (ℕ × ℕ)) (ds : List Data) (i : ℕ) (old new : List (ℕ × ℕ)) (flags : List Bool) (b : Bool) → AreFlagged f ds i old flags → i < length ds
    → b ≡ is_paired old (f (entry_at ds i)) → (b ≡ true → new ≡ old) → (b ≡ false → new ≡ old ++ cons_option (f (entry_at ds i)) []) → AreFlagged f ds (i + 1) new (flags ++ b ∷ [])
flagged_on f ds i old new flags b s h told kept fresh =
    let o = f (entry_at ds i) in
    let front = filter_map f (take i ds) in
    let there : b ≡ is_paired front o = told ∙ paired_same old front s.noted o in
    let many = s.as_many in
    record {
      noted = λ p. more b refl kept fresh there p ∙ sym (ap (list_any (is_same_pair p)) (one_more f ds i h));
      as_many = omega (arith, many, length-append flags (b ∷ []));
      each = λ j l. at j l (nat_lt j i) refl;
    }
  where
    more : (c : Bool) → b ≡ c → (c ≡ true → new ≡ old) → (c ≡ false → new ≡ old ++ cons_option (f (entry_at ds i)) []) → c ≡ is_paired (filter_map f (take i ds)) (f (entry_at ds i)) → (p : ℕ × ℕ)
        → list_any (is_same_pair p) new ≡ list_any (is_same_pair p) (filter_map f (take i ds) ++ cons_option (f (entry_at ds i)) [])
    more true is kept fresh there p = ap (list_any (is_same_pair p)) (kept refl) ∙ s.noted p ∙ nothing_new (filter_map f (take i ds)) (f (entry_at ds i)) p (sym there)
    more false is kept fresh there p =
        let last = cons_option (f (entry_at ds i)) [] in
        ap (list_any (is_same_pair p)) (fresh refl) ∙ list_any-append (is_same_pair p) old last ∙ ap (λ x. x || list_any (is_same_pair p) last) (s.noted p) ∙ sym (list_any-append (is_same_pair p) (filter_map f (take i ds)) last)

    below : (j i : ℕ) → nat_lt j i ≡ true → j < i
    below j i h = grind (arith, nat_tests)

    last : (j i : ℕ) → j < i + 1 → nat_lt j i ≡ false → j ≡ i
    last j i l h = let over : i ≤ j = grind (arith, nat_tests) in omega (arith, l, over)

    at : (j : ℕ) → j < i + 1 → (c : Bool) → nat_lt j i ≡ c → get_or (flags ++ b ∷ []) j false ≡ is_paired (filter_map f (take j ds)) (f (entry_at ds j))
    at j l true is = get_or_append_left flags (b ∷ []) false j (let many = s.as_many in let low = below j i is in omega (arith, many, low)) ∙ s.each j (below j i is)
    at j l false is =
        let many = s.as_many in
        let e = last j i l is in
        let here : j ≡ length flags + 0 = omega (arith, many, e) in
        ap (λ n. get_or (flags ++ b ∷ []) n false) here ∙ get_or-append-add flags (b ∷ []) 0 false ∙ told ∙ paired_same old (filter_map f (take i ds)) s.noted (f (entry_at ds i)) ∙ ap (λ n. is_paired (filter_map f (take n ds)) (f (entry_at ds n))) (sym e)

-- all entries
pub flagged_end : (f : Data → Option (ℕ × ℕ)) (ds : List Data) (i : ℕ) (seen : List (ℕ × ℕ)) (flags : List Bool) → f (boolean false) ≡ None → AreFlagged f ds i seen flags → length ds ≤ i
    → (j : ℕ) → get_or flags j false ≡ is_paired (filter_map f (take j ds)) (f (entry_at ds j))
flagged_end f ds i seen flags none s e j = at (nat_lt j i) refl
  where
    below : (j i : ℕ) → nat_lt j i ≡ true → j < i
    below j i h = grind (arith, nat_tests)

    over : (j i : ℕ) → nat_lt j i ≡ false → i ≤ j
    over j i h = grind (arith, nat_tests)

    at : (c : Bool) → nat_lt j i ≡ c → get_or flags j false ≡ is_paired (filter_map f (take j ds)) (f (entry_at ds j))
    at true is = s.each j (below j i is)
    at false is =
        let many = s.as_many in
        let past = over j i is in
        get_or_past flags j false (omega (arith, many, past)) ∙ sym (ap (is_paired (filter_map f (take j ds))) (ap f (get_or_past ds j (boolean false) (omega (arith, e, past))) ∙ none))
