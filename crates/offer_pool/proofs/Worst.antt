-- The worst seat of a queue is the worst offer that is held.
use Rattle.std.proofs.Common.{◌≡◌, ℕ, ◌/◌, ◌%◌, ◌<◌, true, false, ◌&&◌, not, List, Contains, All, slice_index, Option, None, Some, IfSome, slice_get, refl, sym, ap, ◌∙◌, subst, arith, ◌⊎◌, inl, inr}
use Rattle.std.specs.declared.cmp.Ordering.{Ordering}
use Rattle.std.specs.declared.cmp.Ordering.TheVariants.{Less, Equal, Greater}
use Rattle.std.specs.Ordering.{nat_cmp, ordering_then, is_le}
use Rattle.std.proofs.lemmas.List.Elements.{All-contains}
use Rattle.std.proofs.lemmas.Bool.{cases_Bool}
use Rattle.map_model.specs.declared.instance.Key.{Key}
use Rattle.map_model.specs.Market.{Market, key_of}
use Rattle.map_model.specs.Allocation.{IsOffer, amount_at, counts_at, key_le, load}
use Rattle.map_model.specs.Holding.{IsWorst, under_worse}
use Rattle.map_model.proofs.MapForm.{few_places}
use Rattle.offer_pool.specs.declared.queue.Seat.{Seat}
use Rattle.offer_pool.specs.Seats.{IsSeatUnder, seat_at, seat_le}
use Rattle.offer_pool.specs.Table.{amount_in, lines_in, place_at}
use Rattle.offer_pool.specs.Filed.{IsHeld, queue_at}
use Rattle.offer_pool.proofs.Queues.{Contains-first, Contains-none}
use Rattle.offer_pool.proofs.Refiled.{place_there}
use Rattle.offer_pool.proofs.Tables.{amount_is, units_none}

-- an order that looks further only at ties
shorter : (a b c d : Ordering) → is_le (ordering_then a (ordering_then b (ordering_then c d))) ≡ true → is_le (ordering_then a (ordering_then b c)) ≡ true
shorter Less b c d h = refl
shorter Greater b c d h = h
shorter Equal Less c d h = refl
shorter Equal Greater c d h = h
shorter Equal Equal Less d h = refl
shorter Equal Equal Greater d h = h
shorter Equal Equal Equal d h = refl

seats_by_key : (m : Market) (g k h j : ℕ) → seat_le (seat_at m g k) (seat_at m h j) ≡ true → key_le (key_of m g k) (key_of m h j) ≡ true
seats_by_key m g k h j le =
    shorter (nat_cmp (key_of m g k).score (key_of m h j).score) (nat_cmp g h) (nat_cmp (key_of m g k).pool.0 (key_of m h j).pool.0) (nat_cmp k j) le

-- what an offer holds
pub held_amount : (m : Market) (amounts : List ℕ) (queues : List (List Seat)) → IsHeld m amounts queues → (g k : ℕ) → IsOffer m g k → amount_at (lines_in amounts) g k ≡ amount_in amounts g k
held_amount m amounts queues held g k offer = amount_is amounts g k (few_places m held.market g k offer) (place_there m amounts held.market held.table g k offer)

-- an offer that holds something is filed under each node above it
filed_at : (m : Market) (amounts : List ℕ) (queues : List (List Seat)) → IsHeld m amounts queues → (n i : ℕ) → 0 < slice_index amounts i → counts_at m n (i / 16) (i % 16) ≡ true → Contains (queue_at queues n) (seat_at m (i / 16) (i % 16))
filed_at m amounts queues held n i some under =
    let at : place_at (i / 16) (i % 16) ≡ i = omega arith in
    let here : amount_in amounts (i / 16) (i % 16) ≡ slice_index amounts i = ap (λ (j : ℕ). slice_index amounts j) at in
    held.filing.filed (i / 16) (i % 16) n (held.table.offers i some) (omega (arith, here, some)) under

-- a node with no seat holds nothing
pub worst_none : (m : Market) (amounts : List ℕ) (queues : List (List Seat)) → IsHeld m amounts queues → (n : ℕ) → slice_get (queue_at queues n) 0 ≡ None → load m (lines_in amounts) n ≡ 0
worst_none m amounts queues held n none = units_none (counts_at m n) amounts (λ i within some. out i some (cases_Bool (counts_at m n (i / 16) (i % 16))))
  where
    out : (i : ℕ) → 0 < slice_index amounts i → (counts_at m n (i / 16) (i % 16) ≡ true) ⊎ (counts_at m n (i / 16) (i % 16) ≡ false) → counts_at m n (i / 16) (i % 16) ≡ false
    out i some (inl under) = absurd (Contains-none (queue_at queues n) (seat_at m (i / 16) (i % 16)) none (filed_at m amounts queues held n i some under))
    out i some (inr outside) = outside

-- the first seat has the key of its offer
pub worst_seat : (m : Market) (amounts : List ℕ) (queues : List (List Seat)) → IsHeld m amounts queues → (n : ℕ) (s : Seat) → slice_get (queue_at queues n) 0 ≡ Some s
    → key_of m s.group.0 s.place ≡ record { score = s.score; group = s.group; pool = s.pool }
worst_seat m amounts queues held n s first = sym (ap (λ (t : Seat). key t) (held.filing.seats n s (Contains-first (queue_at queues n) s first)).seat)
  where
    key : Seat → Key
    key t = record { score = t.score; group = t.group; pool = t.pool }

-- the first seat is that of the worst offer
pub worst_some : (m : Market) (amounts : List ℕ) (queues : List (List Seat)) → IsHeld m amounts queues → (n : ℕ) (s : Seat) → slice_get (queue_at queues n) 0 ≡ Some s → All (λ t. seat_le t s ≡ true) (queue_at queues n)
    → IsWorst m (lines_in amounts) n s.group.0 s.place (amount_in amounts s.group.0 s.place)
worst_some m amounts queues held n s first all = record {
  offer = seat.offer;
  under = seat.under;
  some = live (slice_get (queue_at queues n) 0) first (held.filing.live n);
  held = held_amount m amounts queues held s.group.0 s.place seat.offer;
  worst = units_none (under_worse m n (key_of m s.group.0 s.place)) amounts (λ i within some. better i some (cases_Bool (counts_at m n (i / 16) (i % 16))));
}
  where
    seat : IsSeatUnder m n s
    seat = held.filing.seats n s (Contains-first (queue_at queues n) s first)

    live : (o : Option Seat) → o ≡ Some s → IfSome o (λ t. 0 < amount_in amounts t.group.0 t.place) → 0 < amount_in amounts s.group.0 s.place
    live None e h = cc
    live (Some t) e h = let same : t ≡ s = cc in subst (λ (x : Seat). 0 < amount_in amounts x.group.0 x.place) same h

    better : (i : ℕ) → 0 < slice_index amounts i → (counts_at m n (i / 16) (i % 16) ≡ true) ⊎ (counts_at m n (i / 16) (i % 16) ≡ false) → under_worse m n (key_of m s.group.0 s.place) (i / 16) (i % 16) ≡ false
    better i some (inr outside) = ap (λ b. b && not (key_le (key_of m (i / 16) (i % 16)) (key_of m s.group.0 s.place))) outside
    better i some (inl under) =
        let le : seat_le (seat_at m (i / 16) (i % 16)) s ≡ true = All-contains (λ t. seat_le t s ≡ true) (queue_at queues n) (seat_at m (i / 16) (i % 16)) all (filed_at m amounts queues held n i some under) in
        let by_seats : seat_le (seat_at m (i / 16) (i % 16)) (seat_at m s.group.0 s.place) ≡ true = ap (λ (t : Seat). seat_le (seat_at m (i / 16) (i % 16)) t) (sym seat.seat) ∙ le in
        let by_keys = seats_by_key m (i / 16) (i % 16) s.group.0 s.place by_seats in
        ap (λ b. b && not (key_le (key_of m (i / 16) (i % 16)) (key_of m s.group.0 s.place))) under ∙ ap (λ b. not b) by_keys
