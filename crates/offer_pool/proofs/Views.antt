-- What contracts see of a table and its queues.
use Rattle.std.proofs.Common.{◌≡◌, ℕ, ◌+◌, ◌-◌, ◌<◌, ◌≤◌, List, [], ◌++◌, length, get_or, take, drop, slice_set, sym, ap, ◌∙◌, subst, arith, if◌then◌else◌, Option, Some, None, All, true, slice_get}
use Rattle.std.specs.Prelude.{Result, Ok, Err, OnOk}
use Rattle.std.proofs.Math.Seq.{take-append_seam}
use Rattle.std.proofs.lemmas.List.{get_or_default}
use Rattle.map_model.specs.Market.{Market}
use Rattle.map_model.specs.Allocation.{AreLines, IsOffer, amount_at, load, units_of}
use Rattle.map_model.specs.Holding.{IsWorst, IsWorstKey, Puts, Takes}
use Rattle.map_model.proofs.MapForm.{few_places}
use Rattle.offer_pool.specs.declared.queue.Seat.{Seat}
use Rattle.offer_pool.specs.Holdings.{Holdings}
use Rattle.offer_pool.specs.Seats.{seat_le}
use Rattle.offer_pool.specs.Table.{amount_in, lines_in, place_at}
use Rattle.offer_pool.specs.Filed.{IsHeld, queue_at}
use Rattle.offer_pool.proofs.Refiled.{place_there}
use Rattle.offer_pool.proofs.Tables.{lines_form, units_fewer, units_more}
use Rattle.offer_pool.proofs.Worst.{held_amount, worst_none, worst_seat, worst_some}

-- the view of a table
abbrev pub seen : Market → List ℕ → Holdings
seen m a = record { market = m; lines = lines_in a }

pub view_form : (m : Market) (a : List ℕ) (q : List (List Seat)) (h : Holdings) → IsHeld m a q → seen m a ≡ h → AreLines h.market h.lines
view_form m a q h held is = subst (λ (x : Holdings). AreLines x.market x.lines) is (lines_form m a held.market held.table)

pub view_offer : (m : Market) (a : List ℕ) (h : Holdings) (g k : ℕ) → seen m a ≡ h → IsOffer h.market g k → IsOffer m g k
view_offer m a h g k is offer = subst (λ (x : Holdings). IsOffer x.market g k) (sym is) offer

pub view_amount : (m : Market) (a : List ℕ) (q : List (List Seat)) (h : Holdings) (g k : ℕ) → IsHeld m a q → seen m a ≡ h → IsOffer h.market g k → amount_in a g k ≡ amount_at h.lines g k
view_amount m a q h g k held is offer = sym (held_amount m a q held g k (view_offer m a h g k is offer)) ∙ ap (λ (x : Holdings). amount_at x.lines g k) is

pub view_puts : (m : Market) (a b c : List ℕ) (q : List (List Seat)) (h : Holdings) (g k u : ℕ) → IsHeld m a q → seen m a ≡ h → IsOffer h.market g k → c ≡ b → b ≡ slice_set a (place_at g k) (amount_in a g k + u) → Puts h.lines (lines_in c) g k u
view_puts m a b c q h g k u held is offer back set test =
    let here = view_offer m a h g k is offer in
    ap (λ (l : List ℕ). units_of test (lines_in l)) (back ∙ set)
    ∙ units_more a g k u (few_places m held.market g k here) (place_there m a held.market held.table g k here) test
    ∙ ap (λ (x : Holdings). units_of test x.lines + (if test g k then u else 0)) is

pub view_takes : (m : Market) (a b c : List ℕ) (q : List (List Seat)) (h : Holdings) (g k u : ℕ) → IsHeld m a q → seen m a ≡ h → IsOffer h.market g k → u ≤ amount_in a g k → c ≡ b → b ≡ slice_set a (place_at g k) (amount_in a g k - u) → Takes h.lines (lines_in c) g k u
view_takes m a b c q h g k u held is offer enough back set test =
    let here = view_offer m a h g k is offer in
    ap (λ (l : List ℕ). units_of test (lines_in l) + (if test g k then u else 0)) (back ∙ set)
    ∙ units_fewer a g k u (few_places m held.market g k here) (place_there m a held.market held.table g k here) enough test
    ∙ ap (λ (x : Holdings). units_of test x.lines) is

pub form_again : (m : Market) (b c : List ℕ) (q : List (List Seat)) → IsHeld m b q → c ≡ b → AreLines m (lines_in c)
form_again m b c q held back = subst (λ (l : List ℕ). AreLines m (lines_in l)) (sym back) (lines_form m b held.market held.table)

-- what a vector holds after its slice was written
pub vec_back : {X : Type 0} (n : ℕ) (new old : List X) → n ≡ length new → take n (new ++ drop (length new) old) ≡ new
vec_back n new old is = ap (λ (k : ℕ). take k (new ++ drop (length new) old)) is ∙ take-append_seam new (drop (length new) old)

pub on_ok_map : {T E : Type 0} (r : Result T E) (P Q : Type 0) → (P → Q) → OnOk r P → OnOk r Q
on_ok_map (Ok x) P Q f p = f p
on_ok_map (Err e) P Q f p = p

-- The queue that was read at a node that is there is the node's.
module _ (m : Market) (a : List ℕ) (q : List (List Seat)) (h : Holdings) (n : ℕ) (seats : List Seat) (held : IsHeld m a q) (is : seen m a ≡ h) (there : n < length h.market.nodes) (read : seats ≡ get_or q n seats) where
  same : seats ≡ queue_at q n
  same = let inner : n < length m.nodes = subst (λ (x : Holdings). n < length x.market.nodes) (sym is) there in read ∙ get_or_default q n seats [] (omega (arith, inner, held.filing.nodes))

  first_is : (o : Option Seat) → o ≡ slice_get seats 0 → slice_get (queue_at q n) 0 ≡ o
  first_is o found = ap (λ (l : List Seat). slice_get l 0) (sym same) ∙ sym found

  all_le : (s : Seat) → All (λ t. seat_le t s ≡ true) seats → All (λ t. seat_le t s ≡ true) (queue_at q n)
  all_le s all = subst (λ (l : List Seat). All (λ t. seat_le t s ≡ true) l) same all

  pub view_worst : (s : Seat) → Some s ≡ slice_get seats 0 → All (λ t. seat_le t s ≡ true) seats → IsWorst h.market h.lines n s.group.0 s.place (amount_in a s.group.0 s.place)
  view_worst s first all = subst (λ (x : Holdings). IsWorst x.market x.lines n s.group.0 s.place (amount_in a s.group.0 s.place)) is (worst_some m a q held n s (first_is (Some s) first) (all_le s all))

  -- the key of the worst seat
  pub view_key : (s : Seat) → Some s ≡ slice_get seats 0 → All (λ t. seat_le t s ≡ true) seats → IsWorstKey h.market h.lines n (record { score = s.score; group = s.group; pool = s.pool })
  view_key s first all =
      subst (λ (x : Holdings). IsWorstKey x.market x.lines n (record { score = s.score; group = s.group; pool = s.pool })) is
      (s.group.0, s.place, amount_in a s.group.0 s.place, worst_some m a q held n s (first_is (Some s) first) (all_le s all), worst_seat m a q held n s (first_is (Some s) first))

  pub view_none : None ≡ slice_get seats 0 → load h.market h.lines n ≡ 0
  view_none first = subst (λ (x : Holdings). load x.market x.lines n ≡ 0) is (worst_none m a q held n (first_is None first))
