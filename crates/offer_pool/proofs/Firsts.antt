-- Which seat of a queue is first, as one comes.
use Rattle.std.proofs.Common.{◌≡◌, false, List, ◌∷◌, Contains, Option, None, Some, slice_get, refl, sym, ap, ◌∙◌, inl, inr}
use Rattle.std.specs.declared.cmp.Ordering.{Ordering}
use Rattle.std.specs.declared.cmp.Ordering.TheVariants.{Less, Equal, Greater}
use Rattle.std.specs.Ordering.{nat_cmp, ordering_reverse, is_lt}
use Rattle.std.specs.BinaryHeap.{IsHeap}
use Rattle.std.specs.Cmp.{IsTotalOrder}
use Rattle.std.specs.List.Sorted.{IsPermutation}
use Rattle.std.proofs.HeapSift.{greatest}
use Rattle.std.proofs.lemmas.Bool.{true≢false}
use Rattle.std.proofs.lemmas.Cmp.{nat_cmp_total, on_total, then_total}
use Rattle.std.proofs.lemmas.List.Elements.{All-contains, All-from_recursion}
use Rattle.std.proofs.lemmas.Map.Lookups.{exact_unsigned}
use Rattle.std.proofs.lemmas.Option.{get_or_from_slice_get}
use Rattle.offer_pool.specs.declared.queue.Seat.{Seat}
use Rattle.offer_pool.specs.Seats.{KeepsFirst, seat_cmp}
use Rattle.offer_pool.proofs.Queues.{Contains-came, Contains-first, Contains-none, came_cases, came_itself}
use Rattle.map_model.proofs.Keys.{then_tie}

-- seats are in a total order
seats_total : IsTotalOrder seat_cmp
seats_total =
    then_total (on_total (λ (s : Seat). s.score) nat_cmp_total) (then_total (on_total (λ (s : Seat). s.group.0) nat_cmp_total) (then_total (on_total (λ (s : Seat). s.pool.0) nat_cmp_total) (on_total (λ (s : Seat). s.place) nat_cmp_total)))

-- no seat of a queue is greater than its first
first_greatest : (xs : List Seat) (w s : Seat) → IsHeap seat_cmp xs → slice_get xs 0 ≡ Some w → Contains xs s → is_lt (seat_cmp w s) ≡ false
first_greatest xs w s heap first there = All-contains (λ y. is_lt (seat_cmp w y) ≡ false) xs s (All-from_recursion (λ y. is_lt (seat_cmp w y) ≡ false) xs (greatest seats_total xs w (sym (get_or_from_slice_get xs 0 w w first)) heap)) there

-- of two seats neither of which is less than the other, both are one
same_seat : (a b : Seat) → is_lt (seat_cmp a b) ≡ false → is_lt (seat_cmp b a) ≡ false → a ≡ b
same_seat a b not_less not_more = as_one (tied (seat_cmp a b) not_less (ap is_lt (sym (seats_total.antisymm b a)) ∙ not_more))
  where
    tied : (o : Ordering) → is_lt o ≡ false → is_lt (ordering_reverse o) ≡ false → o ≡ Equal
    tied Less h i = absurd (true≢false h)
    tied Equal h i = refl
    tied Greater h i = absurd (true≢false i)

    as_one : seat_cmp a b ≡ Equal → a ≡ b
    as_one e =
        let p = then_tie (nat_cmp a.score b.score) _ e in
        let q = then_tie (nat_cmp a.group.0 b.group.0) _ p.1 in
        let r = then_tie (nat_cmp a.pool.0 b.pool.0) _ q.1 in
        λ i. record { score = exact_unsigned a.score b.score p.0 i; group = record { 0 = exact_unsigned a.group.0 b.group.0 q.0 i }; pool = record { 0 = exact_unsigned a.pool.0 b.pool.0 r.0 i }; place = exact_unsigned a.place b.place r.1 i }

-- the first seat of a queue to which one came
pub first_kept : (old new : List Seat) (seat : Seat) → IsHeap seat_cmp old → IsHeap seat_cmp new → IsPermutation (seat ∷ old) new → KeepsFirst seat old new
first_kept old new seat heap heap' p = go (slice_get new 0) refl
  where
    before : (t : Seat) → slice_get new 0 ≡ Some t → Contains old t → (o : Option Seat) → slice_get old 0 ≡ o → Some t ≡ slice_get old 0
    before t e was None f = absurd (Contains-none old t f was)
    before t e was (Some w) f = ap Some (same_seat t w (first_greatest new t w heap' e (Contains-came old new seat w p (Contains-first old w f))) (first_greatest old w t heap f was)) ∙ sym f

    go : (o : Option Seat) → slice_get new 0 ≡ o → KeepsFirst seat old new
    go None e = absurd (Contains-none new seat e (came_itself old new seat p))
    go (Some t) e = elim (came_cases old new seat t p (Contains-first new t e)) [
      | inl was ↦ inr (e ∙ before t e was (slice_get old 0) refl)
      | inr is ↦ inl (e ∙ ap Some is)
    ]

-- one seat that comes twice comes once
pub keeps_again : (s : Seat) (q0 q1 q2 : List Seat) → KeepsFirst s q0 q1 → KeepsFirst s q1 q2 → KeepsFirst s q0 q2
keeps_again s q0 q1 q2 h (inl e) = inl e
keeps_again s q0 q1 q2 (inl e) (inr f) = inl (f ∙ e)
keeps_again s q0 q1 q2 (inr e) (inr f) = inr (f ∙ e)
