-- Items of feeders, one more and some fewer.
use Rattle.std.proofs.Common.{◌≡◌, ◌≢◌, ℕ, ◌+◌, ◌<◌, ◌≤◌, ◌^◌, false, cond, ◌==◌, ne_eqb, eq-eqb, eqb-true, lt_of_not-le, Bool, true, false, zero, suc, List, [], ◌∷◌, ◌++◌, length, map, count_by, All, append_assoc, append-nil, refl, ap, sym, subst, ◌∙◌, arith}
use Rattle.std.proofs.lemmas.List.{map-append}
use Rattle.std.proofs.lemmas.List.Elements.{All-cons, All-head, All-nil, All-push, All-tail, filter-append}
use Rattle.std.proofs.lemmas.List.FromFn.{map-range_with_len_more}
use Rattle.std.proofs.lemmas.List.Sums.{sum_by-append}
use Rattle.std.specs.List.{range_with_len}
use Rattle.atomic_table.specs.Seated.{TableId}
use Rattle.feed_queue.specs.Ends.{fresh_feeder}
use Rattle.demand_feed.specs.declared.sent.Item.{Item}
use Rattle.demand_feed.specs.declared.sent.What.{What}
use Rattle.feed_queue.specs.Items.{AreTaken, Fits, MaySend, batches, is_batch, item, numbered, only, sent_by, whats_of}

-- what a feeder sent, and then more
numbered_join : (k n : ℕ) (ws vs : List What) → numbered k n (ws ++ vs) ≡ numbered k n ws ++ numbered k (n + length ws) vs
numbered_join k n [] vs = ap (λ m. numbered k m vs) (omega arith)
numbered_join k n (w ∷ ws) vs = ap (λ xs. item k n w ∷ xs) (numbered_join k (n + 1) ws vs ∙ ap (λ m. numbered k (n + 1) ws ++ numbered k m vs) (omega arith))

whats_numbered : (k n : ℕ) (ws : List What) → whats_of (numbered k n ws) ≡ ws
whats_numbered k n [] = refl
whats_numbered k n (w ∷ ws) = ap (λ xs. w ∷ xs) (whats_numbered k (n + 1) ws)

tail_is : (x y : Item) (xs ys : List Item) → x ∷ xs ≡ y ∷ ys → xs ≡ ys
tail_is x y xs ys e = cc

head_is : (x y : Item) (xs ys : List Item) → x ∷ xs ≡ y ∷ ys → x ≡ y
head_is x y xs ys e = cc

-- a beginning of what a feeder sent
numbers_of : (k n : ℕ) (xs ys : List Item) (ws : List What) → xs ++ ys ≡ numbered k n ws → xs ≡ numbered k n (map (λ (x : Item). x.what) xs)
numbers_of k n [] ys ws e = refl
numbers_of k n (x ∷ xs) ys [] e = cc
numbers_of k n (x ∷ xs) ys (w ∷ ws) e =
    let h : x ≡ item k n w = head_is x (item k n w) (xs ++ ys) (numbered k (n + 1) ws) e in
    let t : xs ++ ys ≡ numbered k (n + 1) ws = tail_is x (item k n w) (xs ++ ys) (numbered k (n + 1) ws) e in
    let here : x ≡ item k n x.what = h ∙ ap (item k n) (sym (ap (λ (y : Item). y.what) h)) in
    ap (λ y. y ∷ xs) here ∙ ap (λ ys. item k n x.what ∷ ys) (numbers_of k (n + 1) xs ys ws t)

pub only_join : (k : ℕ) (xs ys : List Item) → only k (xs ++ ys) ≡ only k xs ++ only k ys
only_join k xs ys = filter-append (λ x. x.feeder == k) xs ys

pub sent_join : (k : ℕ) (xs ys : List Item) → sent_by k (xs ++ ys) ≡ sent_by k xs ++ sent_by k ys
sent_join k xs ys = ap (map (λ (x : Item). x.what)) (only_join k xs ys) ∙ map-append (λ (x : Item). x.what) (only k xs) (only k ys)

pub only_here : (k : ℕ) (x : Item) → x.feeder ≡ k → only k (x ∷ []) ≡ x ∷ []
only_here k x e = ap (λ b. cond b (x ∷ []) []) (eq-eqb x.feeder k e)

pub only_else : (k : ℕ) (x : Item) → x.feeder ≢ k → only k (x ∷ []) ≡ []
only_else k x e = ap (λ b. cond b (x ∷ []) []) (ne_eqb x.feeder k e)

-- of what a feeder may send, a beginning
all_before : (groups nodes : ℕ) (us vs : List What) → All (Fits groups nodes) (us ++ vs) → All (Fits groups nodes) us
all_before groups nodes [] vs h = All-nil (Fits groups nodes)
all_before groups nodes (u ∷ us) vs h = All-cons (Fits groups nodes) u us (All-head (Fits groups nodes) u (us ++ vs) h) (all_before groups nodes us vs (All-tail (Fits groups nodes) u (us ++ vs) h))

pub batches_join : (us vs : List What) → batches (us ++ vs) ≡ batches us + batches vs
batches_join us vs = sum_by-append (λ w. cond (is_batch w) 1 0) us vs

pub may_before : (groups nodes : ℕ) (us vs : List What) → MaySend groups nodes (us ++ vs) → MaySend groups nodes us
may_before groups nodes us vs h = record { fits = all_before groups nodes us vs h.fits; few = omega (arith, h.few, batches_join us vs) }

pub may_more : (groups nodes : ℕ) (ws : List What) (w : What) → MaySend groups nodes ws → Fits groups nodes w → batches (ws ++ w ∷ []) < 2 ^ 61 → MaySend groups nodes (ws ++ w ∷ [])
may_more groups nodes ws w h fits few = record { fits = All-push (Fits groups nodes) ws w h.fits fits; few = few }

pub may_none : (groups nodes : ℕ) → MaySend groups nodes []
may_none groups nodes = record { fits = All-nil (Fits groups nodes); few = omega arith }

nil_before : (us vs : List What) → us ++ vs ≡ [] → us ≡ []
nil_before [] vs e = refl
nil_before (u ∷ us) vs e = cc

-- what was taken, where it and what is in the queue are the feeders' items
pub taken_of : (groups nodes feeders : ℕ) (sent : ℕ → List What) (got items : List Item)
    → feeders ≤ 4 → ((k : ℕ) → feeders ≤ k → sent k ≡ []) → ((k : ℕ) → MaySend groups nodes (sent k)) → ((k : ℕ) → only k (got ++ items) ≡ numbered k 0 (sent k)) → AreTaken groups nodes feeders got
taken_of groups nodes feeders sent got items four none may each = record {
  four = four;
  numbers = λ k. numbers_of k 0 (only k got) (only k items) (sent k) (sym (only_join k got items) ∙ each k);
  may = λ k. may_before groups nodes (sent_by k got) (sent_by k items) (subst (MaySend groups nodes) (sym (is k)) (may k));
  none = λ k past. nil_before (sent_by k got) (sent_by k items) (is k ∙ none k past);
}
  where
    is : (k : ℕ) → sent_by k got ++ sent_by k items ≡ sent k
    is k = sym (sent_join k got items) ∙ ap (map (λ (x : Item). x.what)) (each k) ∙ whats_numbered k 0 (sent k)

-- what was taken and what is in the queue is what was sent
pub accounts_of : (k : ℕ) (ws : List What) (got items : List Item) → only k (got ++ items) ≡ numbered k 0 ws → ws ≡ sent_by k got ++ sent_by k items
accounts_of k ws got items each = sym (whats_numbered k 0 ws) ∙ ap (map (λ (x : Item). x.what)) (sym each) ∙ sent_join k got items

-- one item more of this feeder
pub each_here : (k : ℕ) (ws : List What) (got items : List Item) (x : Item) → x.feeder ≡ k → x.number ≡ length ws → only k (got ++ items) ≡ numbered k 0 ws → only k (got ++ (items ++ x ∷ [])) ≡ numbered k 0 (ws ++ x.what ∷ [])
each_here k ws got items x feeder number each =
    let count : x.number ≡ 0 + length ws = omega (arith, number) in
    let is : x ≡ item k (0 + length ws) x.what = ap (λ (p : ℕ × ℕ). item p.0 p.1 x.what) (λ i. (feeder i, count i)) in
    ap (only k) (sym (append_assoc got items (x ∷ [])))
    ∙ only_join k (got ++ items) (x ∷ [])
    ∙ ap (λ xs. xs ++ only k (x ∷ [])) each
    ∙ ap (λ xs. numbered k 0 ws ++ xs) (only_here k x feeder)
    ∙ ap (λ y. numbered k 0 ws ++ y ∷ []) is
    ∙ sym (numbered_join k 0 ws (x.what ∷ []))

-- and of another
pub each_else : (k : ℕ) (ws : List What) (got items : List Item) (x : Item) → x.feeder ≢ k → only k (got ++ items) ≡ numbered k 0 ws → only k (got ++ (items ++ x ∷ [])) ≡ numbered k 0 ws
each_else k ws got items x other each =
    ap (only k) (sym (append_assoc got items (x ∷ [])))
    ∙ only_join k (got ++ items) (x ∷ [])
    ∙ ap (λ xs. only k (got ++ items) ++ xs) (only_else k x other)
    ∙ append-nil (only k (got ++ items))
    ∙ each

-- one feeder more
pub fresh_more : (queue : TableId) (n : ℕ) → map (fresh_feeder queue) (range_with_len 0 (n + 1)) ≡ map (fresh_feeder queue) (range_with_len 0 n) ++ fresh_feeder queue n ∷ []
fresh_more queue n = map-range_with_len_more (fresh_feeder queue) 0 n n (omega arith)

-- how many batches there are with one item more
pub batches_one : (ws : List What) (w : What) → batches (ws ++ w ∷ []) ≡ batches ws + cond (is_batch w) 1 0
batches_one ws w = batches_join ws (w ∷ []) ∙ ap (λ n. batches ws + n) (omega arith)

-- an item that is no batch may follow
pub few_more : (groups nodes : ℕ) (ws : List What) (w : What) → MaySend groups nodes ws → is_batch w ≡ false → batches (ws ++ w ∷ []) < 2 ^ 61
few_more groups nodes ws w may other = let one : batches (ws ++ w ∷ []) ≡ batches ws + cond false 1 0 = batches_one ws w ∙ ap (λ b. batches ws + cond b 1 0) other in omega (arith, may.few, one)

cons_nil : (w : What) (ws : List What) → w ∷ ws ≢ []
cons_nil w ws e = cc

here_more : (k : ℕ) (x : Item) (xs : List Item) → x.feeder ≡ k → sent_by k (x ∷ xs) ≡ x.what ∷ sent_by k xs
here_more k x xs e = ap (λ b. map (λ (y : Item). y.what) (cond b (x ∷ only k xs) (only k xs))) (eq-eqb x.feeder k e)

else_same : (k : ℕ) (x : Item) (xs : List Item) → x.feeder ≢ k → sent_by k (x ∷ xs) ≡ sent_by k xs
else_same k x xs e = ap (λ b. map (λ (y : Item). y.what) (cond b (x ∷ only k xs) (only k xs))) (ne_eqb x.feeder k e)

sent_last : (xs : List Item) (x : Item) → sent_by x.feeder (xs ++ x ∷ []) ≡ sent_by x.feeder xs ++ x.what ∷ []
sent_last xs x = sent_join x.feeder xs (x ∷ []) ∙ ap (λ l. sent_by x.feeder xs ++ l) (here_more x.feeder x [] refl)

last_of_all : (P : What → Type 0) (ws : List What) (w : What) → All P (ws ++ w ∷ []) → P w
last_of_all P [] w h = All-head P w [] h
last_of_all P (v ∷ ws) w h = last_of_all P ws w (All-tail P v (ws ++ w ∷ []) h)

not_nil : (ws : List What) (w : What) → ws ++ w ∷ [] ≢ []
not_nil [] w e = cc
not_nil (v ∷ ws) w e = cc

-- the item that was taken last
pub last_fits : (groups nodes feeders : ℕ) (xs : List Item) (x : Item) → AreTaken groups nodes feeders (xs ++ x ∷ []) → Fits groups nodes x.what × (x.feeder < feeders)
last_fits groups nodes feeders xs x h = (
  last_of_all (Fits groups nodes) (sent_by x.feeder xs) x.what (subst (All (Fits groups nodes)) (sent_last xs x) (h.may x.feeder).fits),
  lt_of_not-le (λ past. not_nil (sent_by x.feeder xs) x.what (sym (sent_last xs x) ∙ h.none x.feeder past)),
)

none_tail : (x : Item) (xs : List Item) → ((k : ℕ) → 4 ≤ k → sent_by k (x ∷ xs) ≡ []) → (k : ℕ) → 4 ≤ k → sent_by k xs ≡ []
none_tail x xs none k past = at (x.feeder == k) refl
  where
    at : (b : Bool) → (x.feeder == k) ≡ b → sent_by k xs ≡ []
    at true e = absurd (cons_nil x.what (sent_by k xs) (sym (here_more k x xs (eqb-true x.feeder k e)) ∙ none k past))
    at false e = sym (ap (λ b. map (λ (y : Item). y.what) (cond b (x ∷ only k xs) (only k xs))) e) ∙ none k past

module _ (test : What → Bool) where
  -- how many of what was sent pass a test
  abbrev pub passed : List What → ℕ
  passed ws = count_by test ws

  pub passed_first : (w : What) (ws : List What) → passed (w ∷ ws) ≡ cond (test w) 1 0 + passed ws
  passed_first w ws = sum_by-append (λ v. cond (test v) 1 0) (w ∷ []) ws ∙ ap (λ n. n + passed ws) (omega arith)

  abbrev pub passed_of : ℕ → List Item → ℕ
  passed_of k xs = passed (sent_by k xs)

  of_here : (k : ℕ) (x : Item) (xs : List Item) → x.feeder ≡ k → passed_of k (x ∷ xs) ≡ cond (test x.what) 1 0 + passed_of k xs
  of_here k x xs e = ap passed (here_more k x xs e) ∙ passed_first x.what (sent_by k xs)

  of_else : (k : ℕ) (x : Item) (xs : List Item) → x.feeder ≢ k → passed_of k (x ∷ xs) ≡ passed_of k xs
  of_else k x xs e = ap passed (else_same k x xs e)

  one_in_four : (x : Item) (xs : List Item) → (4 ≤ x.feeder → sent_by x.feeder (x ∷ xs) ≡ []) → passed (whats_of xs) ≡ passed_of 0 xs + passed_of 1 xs + passed_of 2 xs + passed_of 3 xs
      → (f : ℕ) → x.feeder ≡ f → passed (whats_of (x ∷ xs)) ≡ passed_of 0 (x ∷ xs) + passed_of 1 (x ∷ xs) + passed_of 2 (x ∷ xs) + passed_of 3 (x ∷ xs)
  one_in_four x xs none rest zero e = omega (arith, passed_first x.what (whats_of xs), rest, of_here 0 x xs e, of_else 1 x xs (λ o. omega (arith, e, o)), of_else 2 x xs (λ o. omega (arith, e, o)), of_else 3 x xs (λ o. omega (arith, e, o)))
  one_in_four x xs none rest (suc zero) e = omega (arith, passed_first x.what (whats_of xs), rest, of_here 1 x xs e, of_else 0 x xs (λ o. omega (arith, e, o)), of_else 2 x xs (λ o. omega (arith, e, o)), of_else 3 x xs (λ o. omega (arith, e, o)))
  one_in_four x xs none rest (suc (suc zero)) e = omega (arith, passed_first x.what (whats_of xs), rest, of_here 2 x xs e, of_else 1 x xs (λ o. omega (arith, e, o)), of_else 0 x xs (λ o. omega (arith, e, o)), of_else 3 x xs (λ o. omega (arith, e, o)))
  one_in_four x xs none rest (suc (suc (suc zero))) e = omega (arith, passed_first x.what (whats_of xs), rest, of_here 3 x xs e, of_else 1 x xs (λ o. omega (arith, e, o)), of_else 2 x xs (λ o. omega (arith, e, o)), of_else 0 x xs (λ o. omega (arith, e, o)))
  one_in_four x xs none rest (suc (suc (suc (suc n)))) e = absurd (cons_nil x.what (sent_by x.feeder xs) (sym (here_more x.feeder x xs refl) ∙ none (omega (arith, e))))

  -- all that pass are those of four feeders
  pub all_four : (xs : List Item) → ((k : ℕ) → 4 ≤ k → sent_by k xs ≡ []) → passed (whats_of xs) ≡ passed_of 0 xs + passed_of 1 xs + passed_of 2 xs + passed_of 3 xs
  all_four [] none = refl
  all_four (x ∷ xs) none = one_in_four x xs (none x.feeder) (all_four xs (none_tail x xs none)) x.feeder refl

-- of all feeders fewer than 2^63 batches were taken
pub few_in_all : (groups nodes feeders : ℕ) (taken : List Item) → AreTaken groups nodes feeders taken → batches (whats_of taken) + 4 ≤ 2 ^ 63
few_in_all groups nodes feeders taken h = omega (arith, all_four is_batch taken (λ k past. h.none k (omega (arith, past, h.four))), (h.may 0).few, (h.may 1).few, (h.may 2).few, (h.may 3).few)
