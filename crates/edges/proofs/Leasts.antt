-- The least number of some places, and one place more.
use Rattle.std.proofs.Common.{◌≡◌, ◌⊎◌, ℕ, ◌≤◌, ◌+◌, zero, suc, refl, inl, inr, false, true, drop, Bool, List, Option, [], ◌∷◌, ◌++◌, All, take, None, Some, length, length-append, sym, ap, subst, ◌∙◌, arith}
use Rattle.std.specs.Prelude.{slice_get, is_some, nat_lt, not, ◌==◌, ◌&&◌, if◌then◌else◌}
use Rattle.std.proofs.lemmas.List.{get_or_append_left, take-append-drop, take_all}
use Rattle.std.proofs.lemmas.List.Elements.{All-append, All-cons, All-nil, All-push, All-weaker}
use Rattle.std.proofs.lemmas.Option.{get_or_from_slice_get, slice_get-get_or, slice_get_within}
use Rattle.std.proofs.Math.Seq.{get_or-append_seam}
use Rattle.edges.proofs.Going.{same_or_not}
use Rattle.edges.proofs.Told.{some_eq}
use Rattle.edges.specs.Places.{IsFound, IsLeastSoFar, IsVacant, is_same, key_of}
use Rattle.edges.specs.declared.places.Found.{Found}
use Rattle.edges.specs.declared.places.Wanted.{Wanted}
use Rattle.edges.specs.declared.places.Wanted.TheVariants.{FirstInTurn, Oldest, OldestOf}
use Rattle.edges.specs.declared.seat.Seat.{Seat}

got_on : {A : Type 0} (xs ys : List A) (k : ℕ) (x : A) → slice_get xs k ≡ Some x → slice_get (xs ++ ys) k ≡ Some x
got_on xs ys k x is =
    let lt = slice_get_within xs k x is in
    slice_get-get_or (xs ++ ys) k x (omega (arith, lt, length-append xs ys)) ∙ ap Some (get_or_append_left xs ys x k lt ∙ get_or_from_slice_get xs k x x is)

got_last : {A : Type 0} (xs : List A) (y : A) (k : ℕ) → length xs ≡ k → slice_get (xs ++ y ∷ []) k ≡ Some y
got_last xs y k is = subst (λ n. slice_get (xs ++ y ∷ []) n ≡ Some y) is (slice_get-get_or (xs ++ y ∷ []) (length xs) y (omega (arith, length-append xs (y ∷ []))) ∙ ap Some (get_or-append_seam xs y [] y))

only : (wanted : Wanted) (seat : Seat) (key least : ℕ) → key_of wanted seat ≡ Some key → least ≤ key → (k : ℕ) → key_of wanted seat ≡ Some k → least ≤ k
only wanted seat key least is le k e =
    let same : key ≡ k = cc (sym is ∙ e) in
    omega (arith, le, same)

-- the one that was found stays
pub kept : (wanted : Wanted) (before : List Seat) (seat : Seat) (key : ℕ) (other : Found) → key_of wanted seat ≡ Some key → other.key ≤ key → IsLeastSoFar wanted before (Some other) → IsLeastSoFar wanted (before ++ seat ∷ []) (Some other)
kept wanted before seat key other is le f = (f.0, got_on before (seat ∷ []) other.place f.0 f.1, f.2, All-push (λ (s : Seat). (k : ℕ) → key_of wanted s ≡ Some k → other.key ≤ k) before seat f.3 (only wanted seat key other.key is le))

-- the next one is less
pub newer : (wanted : Wanted) (before : List Seat) (seat : Seat) (key place : ℕ) (other : Found) → length before ≡ place → key_of wanted seat ≡ Some key → key ≤ other.key → IsLeastSoFar wanted before (Some other) → IsLeastSoFar wanted (before ++ seat ∷ []) (Some (record { place = place; key = key }))
newer wanted before seat key place other at is le f = (
  seat,
  got_last before seat place at,
  is,
  All-push (λ (s : Seat). (k : ℕ) → key_of wanted s ≡ Some k → key ≤ k) before seat
      (All-weaker (λ (s : Seat). (k : ℕ) → key_of wanted s ≡ Some k → other.key ≤ k) (λ (s : Seat). (k : ℕ) → key_of wanted s ≡ Some k → key ≤ k) (λ s p k e. let r = p k e in omega (arith, r, le)) before f.3) (only wanted seat key key is (omega arith)),
)

-- it is the first one
pub first : (wanted : Wanted) (before : List Seat) (seat : Seat) (key place : ℕ) → length before ≡ place → key_of wanted seat ≡ Some key → IsLeastSoFar wanted before None → IsLeastSoFar wanted (before ++ seat ∷ []) (Some (record { place = place; key = key }))
first wanted before seat key place at is f = (
  seat,
  got_last before seat place at,
  is,
  All-push (λ (s : Seat). (k : ℕ) → key_of wanted s ≡ Some k → key ≤ k) before seat
      (All-weaker (λ (s : Seat). key_of wanted s ≡ None) (λ (s : Seat). (k : ℕ) → key_of wanted s ≡ Some k → key ≤ k) (λ s none k e. absurd (cc (none, e))) before f) (only wanted seat key key is (omega arith)),
)

-- one that is not looked for
pub skipped : (wanted : Wanted) (before : List Seat) (seat : Seat) (found : Option Found) → key_of wanted seat ≡ None → IsLeastSoFar wanted before found → IsLeastSoFar wanted (before ++ seat ∷ []) found
skipped wanted before seat None is f = All-push (λ (s : Seat). key_of wanted s ≡ None) before seat f is
skipped wanted before seat (Some other) is f = (f.0, got_on before (seat ∷ []) other.place f.0 f.1, f.2, All-push (λ (s : Seat). (k : ℕ) → key_of wanted s ≡ Some k → other.key ≤ k) before seat f.3 (λ k e. absurd (cc (is, e))))

-- all were looked at
pub all_taken : (wanted : Wanted) (seats : List Seat) (i : ℕ) → length seats ≤ i → IsLeastSoFar wanted (take i seats) None → All (λ (s : Seat). key_of wanted s ≡ None) seats
all_taken wanted seats i le f = subst (λ (l : List Seat). All (λ (s : Seat). key_of wanted s ≡ None) l) (take_all i seats le) f

-- a place that has no connection has none
none_there : (b : Bool) → not b ≡ true → b ≡ false
none_there false is = refl
none_there true is = absurd (cc is)

-- nobody looks for one there
key_none : (wanted : Wanted) (seat : Seat) → IsVacant seat → key_of wanted seat ≡ None
key_none Oldest seat vacant = ap (λ b. if b && (seat.turn == 0) then Some seat.since else None) (none_there (is_some seat.line) vacant.0)
key_none (OldestOf addr) seat vacant = ap (λ b. if (b && is_same seat.peer.addr addr) && (seat.turn == 0) then Some seat.since else None) (none_there (is_some seat.line) vacant.0)
key_none FirstInTurn seat vacant = ap (λ n. if nat_lt 0 n then Some n else None) vacant.1

-- the places from one on have no connections
pub vacant_drop : (n : ℕ) (seats : List Seat) → ((i : ℕ) (seat : Seat) → n ≤ i → slice_get seats i ≡ Some seat → IsVacant seat) → All IsVacant (drop n seats)
vacant_drop zero [] vacant = All-nil IsVacant
vacant_drop zero (s ∷ ss) vacant = All-cons IsVacant s ss (vacant 0 s (omega arith) refl) (vacant_drop zero ss (λ i t le is. vacant (suc i) t (omega arith) is))
vacant_drop (suc n) [] vacant = All-nil IsVacant
vacant_drop (suc n) (s ∷ ss) vacant = vacant_drop n ss (λ i t le is. vacant (suc i) t (omega (arith, le)) is)

-- one place fewer
pub vacant_one : (n : ℕ) (seats : List Seat) (last : Seat) → slice_get seats n ≡ Some last → IsVacant last → ((i : ℕ) (seat : Seat) → n + 1 ≤ i → slice_get seats i ≡ Some seat → IsVacant seat) → (i : ℕ) (seat : Seat) → n ≤ i → slice_get seats i ≡ Some seat → IsVacant seat
vacant_one n seats last there vacant rest i seat le is = by (same_or_not i n)
  where
    by : (i ≡ n) ⊎ (i ≡ n → ⊥) → IsVacant seat
    by (inl e) = subst (λ s. IsVacant s) (some_eq last seat (sym there ∙ ap (λ k. slice_get seats k) (sym e) ∙ is)) vacant
    by (inr other) = rest i seat (omega (arith, le, other)) is

-- what is found in front of places without connections is found in all
pub found_in_front : (wanted : Wanted) (n : ℕ) (seats : List Seat) (found : Option ℕ) → All IsVacant (drop n seats) → IsFound wanted (take n seats) found → IsFound wanted seats found
found_in_front wanted n seats found vacant is = subst (λ (l : List Seat). IsFound wanted l found) (take-append-drop n seats) (more found is)
  where
    front : List Seat
    front = take n seats

    back : List Seat
    back = drop n seats

    more : (found : Option ℕ) → IsFound wanted front found → IsFound wanted (front ++ back) found
    more None none = All-append (λ (s : Seat). key_of wanted s ≡ None) front back none (All-weaker IsVacant (λ (s : Seat). key_of wanted s ≡ None) (λ s v. key_none wanted s v) back vacant)
    more (Some i) f = (f.0, f.1, got_on front back i f.0 f.2, f.3, All-append (λ (s : Seat). (k : ℕ) → key_of wanted s ≡ Some k → f.1 ≤ k) front back f.4 (All-weaker IsVacant (λ (s : Seat). (k : ℕ) → key_of wanted s ≡ Some k → f.1 ≤ k) (λ s v k e. absurd (cc (key_none wanted s v, e))) back vacant))
