-- A table and its queues stay as they should be, as units come and go.
use Rattle.std.proofs.Common.{◌≡◌, ◌≢◌, ℕ, ◌/◌, ◌%◌, ◌<◌, ◌==◌, true, false, ◌||◌, List, [], ◌∷◌, length, map, Contains, slice_index, slice_set, get_or-set_same, get_or-set_other, length-set, Option, None, Some, IfSome, slice_get, refl, sym, ap, ◌∙◌, subst, arith, ◌⊎◌, inl, inr}
use Rattle.std.specs.List.{list_any}
use Rattle.std.specs.Prelude.{Result, Ok, Err, OnOk, is_err}
use Rattle.std.proofs.lemmas.Bool.{cases_eq, cases_Bool}
use Rattle.map_model.specs.declared.instance.NodeId.{NodeId}
use Rattle.map_model.specs.Market.{IsMarket, Market, path}
use Rattle.map_model.specs.Allocation.{IsOffer, counts_at, is_under}
use Rattle.map_model.proofs.MapForm.{few_places}
use Rattle.offer_pool.specs.declared.queue.Seat.{Seat}
use Rattle.offer_pool.specs.Seats.{IsSeatUnder, KeepsFirst, seat_at}
use Rattle.offer_pool.specs.Table.{amount_in, place_at}
use Rattle.offer_pool.specs.Filed.{AreAmounts, AreFiled, IsHeld, IsLive, queue_at}
use Rattle.offer_pool.proofs.Queues.{Contains-first, is_among}

-- an offer has its place in the table
pub place_there : (m : Market) (amounts : List ℕ) → IsMarket m → AreAmounts m amounts → (g k : ℕ) → IsOffer m g k → place_at g k < length amounts
place_there m amounts market table g k offer = let few = few_places m market g k offer in let there = offer.group in omega (arith, table.size, few, there)

-- two offers at one place are one
same_offer : (m : Market) → IsMarket m → (g k h j : ℕ) → IsOffer m g k → IsOffer m h j → place_at g k ≡ place_at h j → (g ≡ h) × (k ≡ j)
same_offer m market g k h j one two e = let few = few_places m market g k one in let less = few_places m market h j two in (omega arith, omega arith)

-- the amounts after one was changed
pub amount-set : (amounts : List ℕ) (g k v : ℕ) → place_at g k < length amounts → amount_in (slice_set amounts (place_at g k) v) g k ≡ v
amount-set amounts g k v within = get_or-set_same amounts (place_at g k) v 0 within

pub amount-set_other : (amounts : List ℕ) (at v g k : ℕ) → place_at g k ≢ at → amount_in (slice_set amounts at v) g k ≡ amount_in amounts g k
amount-set_other amounts at v g k other = get_or-set_other amounts at (place_at g k) v 0 other

pub amounts-set : (m : Market) (amounts : List ℕ) → IsMarket m → AreAmounts m amounts → (g k v : ℕ) → IsOffer m g k → AreAmounts m (slice_set amounts (place_at g k) v)
amounts-set m amounts market table g k v offer =
    let few = few_places m market g k offer in record {
      size = length-set amounts (place_at g k) v ∙ table.size;
      offers = λ i some. at i (cases_eq i (place_at g k)) some;
    }
  where
    at : (i : ℕ) → (i ≡ place_at g k) ⊎ (i ≢ place_at g k) → 0 < slice_index (slice_set amounts (place_at g k) v) i → IsOffer m (i / 16) (i % 16)
    at i (inl e) some =
        let few = few_places m market g k offer in
        let q : i / 16 ≡ g = omega arith in
        let r : i % 16 ≡ k = omega arith in
        subst (λ (x : ℕ). IsOffer m x (i % 16)) (sym q) (subst (λ (x : ℕ). IsOffer m g x) (sym r) offer)
    at i (inr ne) some = table.offers i (omega (arith, some, get_or-set_other amounts (place_at g k) i v 0 ne))

-- the nodes of a path are those that are above
pub among-path : (nodes : List NodeId) (m : Market) (pool : ℕ) → map (λ x. x.0) nodes ≡ path m pool → (n : ℕ) → is_among n nodes ≡ is_under m n pool
among-path nodes m pool is n = any-map nodes ∙ ap (list_any (λ x. x == n)) is
  where
    any-map : (xs : List NodeId) → list_any (λ x. x.0 == n) xs ≡ list_any (λ x. x == n) (map (λ x. x.0) xs)
    any-map [] = refl
    any-map (x ∷ xs) = ap (λ b. (x.0 == n) || b) (any-map xs)

-- seats of one offer came to queues of the nodes above it
pub record ArePushed (m : Market) (q0 q1 : List (List Seat)) (g k : ℕ) (nodes : List NodeId) : Type 0 where
  pub offer : IsOffer m g k
  pub among : (n : ℕ) → is_among n nodes ≡ counts_at m n g k
  pub kept : (n : ℕ) (s : Seat) → Contains (queue_at q0 n) s → Contains (queue_at q1 n) s
  pub from : (n : ℕ) (s : Seat) → Contains (queue_at q1 n) s → Contains (queue_at q0 n) s ⊎ (s ≡ seat_at m g k)
  pub others : (n : ℕ) → is_among n nodes ≡ false → queue_at q1 n ≡ queue_at q0 n

-- What became of the queues: seats of one offer came (q0 to q1), then queues of the nodes above it were cleaned (q1 to q2). And what became of the amounts: only that offer's may have changed.
pub record IsRefiling (m : Market) (a b : List ℕ) (q0 q1 q2 : List (List Seat)) (g k : ℕ) (nodes : List NodeId) : Type 0 where
  pub pushed : ArePushed m q0 q1 g k nodes
  pub count : length q2 ≡ length q0
  pub stays : (h j : ℕ) → IsOffer m h j → ((h ≡ g) × (k ≡ j) → ⊥) → amount_in b h j ≡ amount_in a h j
  pub filed : 0 < amount_in b g k → (0 < amount_in a g k) ⊎ ((n : ℕ) → is_among n nodes ≡ true → Contains (queue_at q1 n) (seat_at m g k))
  pub kept : (n : ℕ) (s : Seat) → Contains (queue_at q1 n) s → 0 < amount_in b s.group.0 s.place → Contains (queue_at q2 n) s
  pub from : (n : ℕ) (s : Seat) → Contains (queue_at q2 n) s → Contains (queue_at q1 n) s
  pub live : (n : ℕ) → is_among n nodes ≡ true → IsLive b (queue_at q2 n)
  pub others : (n : ℕ) → is_among n nodes ≡ false → queue_at q2 n ≡ queue_at q1 n

-- the offer, or another
which : (g k h j : ℕ) → ((h ≡ g) × (k ≡ j)) ⊎ ((h ≡ g) × (k ≡ j) → ⊥)
which g k h j = go (cases_eq h g) (cases_eq k j)
  where
    go : (h ≡ g) ⊎ (h ≢ g) → (k ≡ j) ⊎ (k ≢ j) → ((h ≡ g) × (k ≡ j)) ⊎ ((h ≡ g) × (k ≡ j) → ⊥)
    go (inl e) (inl f) = inl (e, f)
    go (inl e) (inr f) = inr (λ p. f p.1)
    go (inr e) f = inr (λ p. e p.0)

-- the seats of queues to which seats of one offer came
pub pushed_seats : (m : Market) (a : List ℕ) (q0 q1 : List (List Seat)) (g k : ℕ) (nodes : List NodeId) → AreFiled m a q0 → ArePushed m q0 q1 g k nodes → (n : ℕ) (s : Seat) → Contains (queue_at q1 n) s → IsSeatUnder m n s
pushed_seats m a q0 q1 g k nodes old p n s h = by (cases_Bool (is_among n nodes))
  where
    its_own : is_among n nodes ≡ true → s ≡ seat_at m g k → IsSeatUnder m n s
    its_own above e = subst (IsSeatUnder m n) (sym e) (record { offer = p.offer; seat = refl; under = sym (p.among n) ∙ above })

    came : is_among n nodes ≡ true → Contains (queue_at q0 n) s ⊎ (s ≡ seat_at m g k) → IsSeatUnder m n s
    came above (inl before) = old.seats n s before
    came above (inr e) = its_own above e

    by : (is_among n nodes ≡ true) ⊎ (is_among n nodes ≡ false) → IsSeatUnder m n s
    by (inl above) = came above (p.from n s h)
    by (inr not) = old.seats n s (subst (λ (q : List Seat). Contains q s) (p.others n not) h)

pub refiled : (m : Market) (a b : List ℕ) (q0 q1 q2 : List (List Seat)) (g k : ℕ) (nodes : List NodeId) → AreFiled m a q0 → IsRefiling m a b q0 q1 q2 g k nodes → AreFiled m b q2
refiled m a b q0 q1 q2 g k nodes old r = record {
  nodes = r.count ∙ old.nodes;
  filed = λ h j n offer some under. r.kept n (seat_at m h j) (there h j n offer some under (which g k h j)) some;
  seats = λ n s h. pushed_seats m a q0 q1 g k nodes old r.pushed n s (r.from n s h);
  live = λ n. alive n (cases_Bool (is_among n nodes));
}
  where
    came : (n : ℕ) → counts_at m n g k ≡ true → (0 < amount_in a g k) ⊎ ((o : ℕ) → is_among o nodes ≡ true → Contains (queue_at q1 o) (seat_at m g k)) → Contains (queue_at q1 n) (seat_at m g k)
    came n under (inl held) = r.pushed.kept n (seat_at m g k) (old.filed g k n r.pushed.offer held under)
    came n under (inr all) = all n (r.pushed.among n ∙ under)

    there : (h j n : ℕ) → IsOffer m h j → 0 < amount_in b h j → counts_at m n h j ≡ true → ((h ≡ g) × (k ≡ j)) ⊎ ((h ≡ g) × (k ≡ j) → ⊥) → Contains (queue_at q1 n) (seat_at m h j)
    there h j n offer some under (inl (e, f)) =
        let some_here : 0 < amount_in b g k = subst (λ (x : ℕ). 0 < amount_in b g x) (sym f) (subst (λ (x : ℕ). 0 < amount_in b x j) e some) in
        let under_here : counts_at m n g k ≡ true = ap (λ (x : ℕ). counts_at m n g x) f ∙ ap (λ (x : ℕ). counts_at m n x j) (sym e) ∙ under in
        subst (λ (x : ℕ). Contains (queue_at q1 n) (seat_at m x j)) (sym e) (subst (λ (x : ℕ). Contains (queue_at q1 n) (seat_at m g x)) f (came n under_here (r.filed some_here)))
    there h j n offer some under (inr ne) = r.pushed.kept n (seat_at m h j) (old.filed h j n offer (omega (arith, r.stays h j offer ne)) under)

    still : (n : ℕ) (s : Seat) → is_among n nodes ≡ false → IsSeatUnder m n s → 0 < amount_in a s.group.0 s.place → ((s.group.0 ≡ g) × (k ≡ s.place)) ⊎ ((s.group.0 ≡ g) × (k ≡ s.place) → ⊥) → 0 < amount_in b s.group.0 s.place
    still n s not seat some (inr ne) = omega (arith, r.stays s.group.0 s.place seat.offer ne)
    still n s not seat some (inl (e, f)) =
        let under : counts_at m n g k ≡ true = ap (λ (x : ℕ). counts_at m n g x) f ∙ ap (λ (x : ℕ). counts_at m n x s.place) (sym e) ∙ seat.under in
        let clash : true ≡ false = sym under ∙ sym (r.pushed.among n) ∙ not in cc

    first : (n : ℕ) → is_among n nodes ≡ false → (o : Option Seat) → slice_get (queue_at q0 n) 0 ≡ o → IfSome o (λ s. 0 < amount_in a s.group.0 s.place) → IfSome o (λ s. 0 < amount_in b s.group.0 s.place)
    first n not None e some = tt
    first n not (Some s) e some = still n s not (old.seats n s (Contains-first (queue_at q0 n) s e)) some (which g k s.group.0 s.place)

    alive : (n : ℕ) → (is_among n nodes ≡ true) ⊎ (is_among n nodes ≡ false) → IsLive b (queue_at q2 n)
    alive n (inl above) = r.live n above
    alive n (inr not) = subst (λ (q : List Seat). IsLive b q) (sym (r.others n not ∙ r.pushed.others n not)) (first n not (slice_get (queue_at q0 n) 0) refl (old.live n))

-- other amounts stay as one is changed
pub others-set : (m : Market) → IsMarket m → (a b : List ℕ) (g k v : ℕ) → IsOffer m g k → b ≡ slice_set a (place_at g k) v → (h j : ℕ) → IsOffer m h j → ((h ≡ g) × (k ≡ j) → ⊥) → amount_in b h j ≡ amount_in a h j
others-set m market a b g k v offer is h j other ne =
    ap (λ (l : List ℕ). amount_in l h j) is
    ∙ amount-set_other a (place_at g k) v h j (λ e. let same = same_offer m market h j g k other offer e in ne (same.0, sym same.1))

pub held_again : (m : Market) (a b : List ℕ) (q0 q1 q2 : List (List Seat)) (g k : ℕ) (nodes : List NodeId) → IsHeld m a q0 → AreAmounts m b → IsRefiling m a b q0 q1 q2 g k nodes → IsHeld m b q2
held_again m a b q0 q1 q2 g k nodes old table r = record { market = old.market; table = table; filing = refiled m a b q0 q1 q2 g k nodes old.filing r }

pub table-set : (m : Market) (a b : List ℕ) → IsMarket m → AreAmounts m a → (g k v : ℕ) → IsOffer m g k → b ≡ slice_set a (place_at g k) v → AreAmounts m b
table-set m a b market table g k v offer is = subst (AreAmounts m) (sym is) (amounts-set m a market table g k v offer)

-- where the seats of queues stand in a table
pub seat_place : (m : Market) (amounts : List ℕ) (n : ℕ) (s : Seat) → IsMarket m → AreAmounts m amounts → IsSeatUnder m n s → place_at s.group.0 s.place < length amounts
seat_place m amounts n s market table seat = place_there m amounts market table s.group.0 s.place seat.offer

pub on_not_err : {T E : Type 0} (r : Result T E) (P : Type 0) → is_err r ≡ false → OnOk r P → P
on_not_err (Ok x) P h p = p
on_not_err (Err e) P h p = cc

-- a first seat that is live stays so where its offer, or another, holds something now
live_still : (m : Market) → IsMarket m → (a : List ℕ) → AreAmounts m a → (g k v : ℕ) → IsOffer m g k → 0 < v → (q : List Seat) → IsLive a q → IsLive (slice_set a (place_at g k) v) q
live_still m market a table g k v offer some q live = go (slice_get q 0) live
  where
    at : (s : Seat) → (place_at s.group.0 s.place ≡ place_at g k) ⊎ (place_at s.group.0 s.place ≢ place_at g k) → 0 < amount_in a s.group.0 s.place → 0 < amount_in (slice_set a (place_at g k) v) s.group.0 s.place
    at s (inl e) held =
        let same : amount_in (slice_set a (place_at g k) v) s.group.0 s.place ≡ amount_in (slice_set a (place_at g k) v) g k = ap (λ (i : ℕ). slice_index (slice_set a (place_at g k) v) i) e in
        omega (arith, same, amount-set a g k v (place_there m a market table g k offer), some)
    at s (inr ne) held = omega (arith, amount-set_other a (place_at g k) v s.group.0 s.place ne, held)

    go : (o : Option Seat) → IfSome o (λ s. 0 < amount_in a s.group.0 s.place) → IfSome o (λ s. 0 < amount_in (slice_set a (place_at g k) v) s.group.0 s.place)
    go None h = tt
    go (Some s) h = at s (cases_eq (place_at s.group.0 s.place) (place_at g k)) h

-- a queue to which the seat of an offer came that holds something now
pub live_came : (m : Market) → IsMarket m → (a b : List ℕ) → AreAmounts m a → (g k v : ℕ) → IsOffer m g k → 0 < v → b ≡ slice_set a (place_at g k) v → (old new : List Seat) → KeepsFirst (seat_at m g k) old new → IsLive a old → IsLive b new
live_came m market a b table g k v offer some is old new (inl e) live =
    let here : amount_in b g k ≡ v = ap (λ (l : List ℕ). amount_in l g k) is ∙ amount-set a g k v (place_there m a market table g k offer) in
    subst (λ (o : Option Seat). IfSome o (λ s. 0 < amount_in b s.group.0 s.place)) (sym e) (omega (arith, here, some))
live_came m market a b table g k v offer some is old new (inr e) live =
    subst (λ (o : Option Seat). IfSome o (λ s. 0 < amount_in b s.group.0 s.place)) (sym e) (subst (λ (l : List ℕ). IsLive l old) (sym is) (live_still m market a table g k v offer some old live))
