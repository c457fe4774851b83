-- What becomes of all places, one thing after another.
use Rattle.std.proofs.Common.{◌≡◌, ◌⊎◌, ◌<◌, ◌≤◌, ◌+◌, ℕ, zero, suc, Bool, List, Option, Some, None, true, false, cond, refl, sym, subst, ap, ◌∙◌, ◌∷◌, [], ◌++◌, append-nil, length, set, arith, inl, inr, ⊎_elim, MatchBool, MatchOption}
use Rattle.std.specs.List.{AllZip, position_or_len, prefix_len}
use Rattle.std.specs.Prelude.{slice_get, drop, take, not, is_some, IfSome, nat_lt, nat_le, count_by, position, ◌==◌, ◌&&◌, ◌||◌, if◌then◌else◌}
use Rattle.std.proofs.lemmas.List.{drop_all, length-set, take_all}
use Rattle.std.proofs.lemmas.Bool.{eqb-true}
use Rattle.std.proofs.lemmas.Option.{slice_get_within, none-some}
use Rattle.addr_text.specs.declared.address.Addr.{Addr}
use Rattle.addr_text.specs.declared.address.Peer.{Peer}
use Rattle.outside.specs.Faults.{raised}
use Rattle.edges.proofs.Told.{got_at, some_eq}
use Rattle.edges.specs.Halls.{AreAllChanged, AreRounded, GoesOn, HasCome, IsEntered, IsGivenOut, IsGoneOn, IsIdle, IsLeft, IsLetIn, IsPlaceChangedAt, IsRound, IsSettled, IsTakenIn, IsToLeaveAt, IsTurned, Stays}
use Rattle.edges.specs.declared.ears.Taken.{Taken}
use Rattle.edges.specs.declared.ears.Taken.TheVariants as taken
use Rattle.edges.specs.declared.seat.Stirring.{Stirring}
use Rattle.edges.specs.Places.{AreCallsNoted, GivesWay, IsEndedByCalls, IsFound, IsLeast, IsPlaceFor, IsSamePeer, IsSameSeat, IsTaken, IsVacant, IsWoken, MayBeWoken, WasRead, is_free, is_of, reads_of, rested, socket_of, told_of}
use Rattle.edges.specs.declared.line.Line.{Line}
use Rattle.edges.specs.Rooms.{IsChangedAt, IsDue, IsEmpty, IsFilled, IsNotDue}
use Rattle.edges.specs.declared.places.Wanted.TheVariants.{Oldest, OldestOf}
use Rattle.edges.specs.declared.room.Room.{Room}
use Rattle.edges.specs.declared.seat.Seat.{Seat}
use Rattle.past_log.specs.Line.{new_line}
use Rattle.tcp_frames.specs.declared.front.TheConstants.{LARGEST_FRAME}

-- a number is below another one or not
pub within : (i k : ℕ) → (i < k) ⊎ (k ≤ i)
within i zero = inr (omega arith)
within zero (suc k) = inl (omega arith)
within (suc i) (suc k) = ⊎_elim (λ lt. inl (omega (arith, lt))) (λ le. inr (omega (arith, le))) (within i k)

-- two numbers are the same or not
pub same_or_not : (i k : ℕ) → (i ≡ k) ⊎ (i ≡ k → ⊥)
same_or_not zero zero = inl refl
same_or_not zero (suc k) = inr (λ e. omega (arith, e))
same_or_not (suc i) zero = inr (λ e. omega (arith, e))
same_or_not (suc i) (suc k) = by (same_or_not i k)
  where
    by : (i ≡ k) ⊎ (i ≡ k → ⊥) → (suc i ≡ suc k) ⊎ (suc i ≡ suc k → ⊥)
    by (inl e) = inl (ap suc e)
    by (inr n) = inr (λ e. n (omega (arith, e)))

-- what was set at one place changes no other one
pub got_other : {A : Type 0} (xs : List A) (i k : ℕ) (y : A) → (i ≡ k → ⊥) → slice_get (set xs k y) i ≡ slice_get xs i
got_other [] i k y n = refl
got_other (x ∷ xs) zero zero y n = absurd (n refl)
got_other (x ∷ xs) zero (suc k) y n = refl
got_other (x ∷ xs) (suc i) zero y n = refl
got_other (x ∷ xs) (suc i) (suc k) y n = got_other xs i k y (λ e. n (ap suc e))

-- one place changed so, and each other one stays
abbrev pub AtOr : ℕ → (Seat → Room → Seat → Room → Type 0) → ℕ → Seat → Room → Seat → Room → Type 0
AtOr k R i seat room seat' room' = ((i ≡ k) × R seat room seat' room') ⊎ ((i ≡ k → ⊥) × Stays seat room seat' room')

-- one thing behind another
one_behind : (R S T : ℕ → Seat → Room → Seat → Room → Type 0) (s0 s1 s2 : List Seat) (r0 r1 r2 : List Room)
    → ((i : ℕ) (s t u : Seat) (p q r : Room) → i < length s0 → i < length r0 → R i s p t q → S i t q u r → T i s p u r)
    → AreAllChanged R s0 r0 s1 r1 → AreAllChanged S s1 r1 s2 r2 → AreAllChanged T s0 r0 s2 r2
one_behind R S T s0 s1 s2 r0 r1 r2 both one two = record {
  seats_stay = two.seats_stay ∙ one.seats_stay;
  rooms_stay = two.rooms_stay ∙ one.rooms_stay;
  each = λ i seat room s r.
      let a = one.each i seat room s r in
      let b = two.each i a.0 a.1 a.2 a.3 in
      (b.0, b.1, b.2, b.3, both i seat a.0 b.0 room a.1 b.1 (slice_get_within s0 i seat s) (slice_get_within r0 i room r) a.4 b.4);
}

-- of two lists, one at a place
pub at_one : (R : Seat → Room → Seat → Room → Type 0) (k : ℕ) (seats : List Seat) (rooms : List Room) (seat seat' : Seat) (room room' : Room) → slice_get seats k ≡ Some seat → slice_get rooms k ≡ Some room → R seat room seat' room' → AreAllChanged (AtOr k R) seats rooms (set seats k seat') (set rooms k room')
at_one R k seats rooms seat seat' room room' s r changed = record {
  seats_stay = length-set seats k seat';
  rooms_stay = length-set rooms k room';
  each = λ i a b got had. by i a b got had (same_or_not i k);
}
  where
    by : (i : ℕ) (a : Seat) (b : Room) → slice_get seats i ≡ Some a → slice_get rooms i ≡ Some b → (i ≡ k) ⊎ (i ≡ k → ⊥) →
        (a' : Seat) × (b' : Room) × (slice_get (set seats k seat') i ≡ Some a') × (slice_get (set rooms k room') i ≡ Some b') × AtOr k R i a b a' b'
    by i a b got had (inr n) = (a, b, got_other seats i k seat' n ∙ got, got_other rooms i k room' n ∙ had, inr (n, (refl, refl)))
    by i a b got had (inl e) =
        let a-is : a ≡ seat = some_eq a seat (sym got ∙ ap (λ j. slice_get seats j) e ∙ s) in
        let b-is : b ≡ room = some_eq b room (sym had ∙ ap (λ j. slice_get rooms j) e ∙ r) in (
          seat',
          room',
          ap (λ j. slice_get (set seats k seat') j) e ∙ got_at seats k seat seat' s,
          ap (λ j. slice_get (set rooms k room') j) e ∙ got_at rooms k room room' r,
          inl (e, subst (λ x. R x b seat' room') (sym a-is) (subst (λ y. R seat y seat' room') (sym b-is) changed)),
        )

-- a number that was given out in a call was given out in one that began earlier and ended later
turned_wider : (l l1 m m1 turn : ℕ) (s : Seat) (r : Room) → l ≤ l1 → m ≤ m1 → IsTurned l1 m turn s r → IsTurned l m1 turn s r
turned_wider l l1 m m1 turn s r below above = by (nat_lt 0 turn) (nat_lt 0 s.turn)
  where
    by : (b c : Bool) → MatchBool b (s.turn ≡ turn) (MatchBool c (IsDue r × IsGivenOut l1 m s.turn) (IsNotDue r)) → MatchBool b (s.turn ≡ turn) (MatchBool c (IsDue r × IsGivenOut l m1 s.turn) (IsNotDue r))
    by true c same = same
    by false true (due, (after, before)) = (due, (omega (arith, below, after), omega (arith, above, before)))
    by false false rests = rests

goes_wider : (now l l1 m m1 : ℕ) (s t : Seat) (p q : Room) → l ≤ l1 → m ≤ m1 → GoesOn now l1 m s p t q → GoesOn now l m1 s p t q
goes_wider now l l1 m m1 s t p q below above (over, place, going, turned, since) = (over, place, going, turned_wider l l1 m m1 s.turn t q below above turned, since)

settled_wider : (now l l1 m m1 : ℕ) (s t : Seat) (p q : Room) → l ≤ l1 → m ≤ m1 → IsSettled now l1 m s p t q → IsSettled now l m1 s p t q
settled_wider now l l1 m m1 s t p q below above = by (is_free s)
  where
    by : (b : Bool) → MatchBool b (Stays s p t q) ((IsVacant t × IsEmpty q) ⊎ (GoesOn now l1 m s p t q × (IsToLeaveAt now t q → ⊥)))
        → MatchBool b (Stays s p t q) ((IsVacant t × IsEmpty q) ⊎ (GoesOn now l m1 s p t q × (IsToLeaveAt now t q → ⊥)))
    by true stays = stays
    by false (inl left) = inl left
    by false (inr (on, stays)) = inr (goes_wider now l l1 m m1 s t p q below above on, stays)

-- the places before one have gone on, and those from it on stay so far
abbrev IsSettledBelow : ℕ → ℕ → ℕ → ℕ → ℕ → Seat → Room → Seat → Room → Type 0
IsSettledBelow now last last' n i seat room seat' room' = (i < n → IsSettled now last last' seat room seat' room') × (n ≤ i → Stays seat room seat' room')

abbrev pub SettledBelow : ℕ → ℕ → ℕ → ℕ → List Seat → List Room → List Seat → List Room → Type 0
SettledBelow now last last' n seats rooms seats' rooms' = ((last ≤ last') × (last' ≤ raised last n)) × AreAllChanged (IsSettledBelow now last last' n) seats rooms seats' rooms'

-- one more
pub one_settled : (now l m m1 n : ℕ) (s0 s1 s2 : List Seat) (r0 r1 r2 : List Room) → SettledBelow now l m n s0 r0 s1 r1 → (n < length s1 → n < length r1 → IsPlaceChangedAt (IsSettled now m m1) n s1 r1 s2 r2) → ((length s1 ≤ n) ⊎ (length r1 ≤ n) → (s2 ≡ s1) × (r2 ≡ r1)) → (m ≤ m1) × (m1 ≤ raised m 1) → SettledBelow now l m1 (n + 1) s0 r0 s2 r2
one_settled now l m m1 n s0 s1 s2 r0 r1 r2 ((lower, few), below) at none (higher, one) = ((omega (arith, lower, higher), omega (arith, few, one)), by (within n (length s1)) (within n (length r1)))
  where
    Below : ℕ → ℕ → ℕ → Seat → Room → Seat → Room → Type 0
    Below m n = IsSettledBelow now l m n

    wider : (s t : Seat) (p q : Room) → IsSettled now l m s p t q → IsSettled now l m1 s p t q
    wider s t p q settled = settled_wider now l l m m1 s t p q (omega arith) higher settled

    past : (length s1 ≤ n) ⊎ (length r1 ≤ n) → AreAllChanged (Below m1 (n + 1)) s0 r0 s2 r2
    past le =
        let is = none le in
        subst (λ s. AreAllChanged (Below m1 (n + 1)) s0 r0 s r2) (sym is.0) (subst (λ r. AreAllChanged (Below m1 (n + 1)) s0 r0 s1 r) (sym is.1) (record {
          seats_stay = below.seats_stay;
          rooms_stay = below.rooms_stay;
          each = λ i seat room s r.
              let a = below.each i seat room s r in
              let lt : i < length s0 = slice_get_within s0 i seat s in
              let lt' : i < length r0 = slice_get_within r0 i room r in
              (a.0, a.1, a.2, a.3, ((λ less. wider seat a.0 room a.1 (a.4.0 (before i lt lt' less le))), λ more. a.4.1 (omega (arith, more))));
        }))
      where
        before : (i : ℕ) → i < length s0 → i < length r0 → i < n + 1 → (length s1 ≤ n) ⊎ (length r1 ≤ n) → i < n
        before i lt lt' less (inl le) = omega (arith, lt, less, le, below.seats_stay)
        before i lt lt' less (inr le) = omega (arith, lt', less, le, below.rooms_stay)

    by : (n < length s1) ⊎ (length s1 ≤ n) → (n < length r1) ⊎ (length r1 ≤ n) → AreAllChanged (Below m1 (n + 1)) s0 r0 s2 r2
    by (inr le) r = past (inl le)
    by (inl lt) (inr le) = past (inr le)
    by (inl lt) (inl lt') =
        let c = at lt lt' in
        one_behind (Below m n) (AtOr n Settles) (Below m1 (n + 1)) s0 s1 s2 r0 r1 r2 more below
        (subst (λ s. AreAllChanged (AtOr n Settles) s1 r1 s r2) (sym c.seat_is) (subst (λ r. AreAllChanged (AtOr n Settles) s1 r1 (set s1 n c.seat') r) (sym c.room_is) (at_one Settles n s1 r1 c.seat c.seat' c.room c.room' c.seat_was c.room_was c.changed)))
      where
        Settles : Seat → Room → Seat → Room → Type 0
        Settles = IsSettled now m m1

        more : (i : ℕ) (s t u : Seat) (p q r : Room) → i < length s0 → i < length r0 → Below m n i s p t q → AtOr n Settles i t q u r → Below m1 (n + 1) i s p u r
        more i s t u p q r in-s in-r before (inl (e, settled)) =
            let is = before.1 (omega (arith, e)) in
            ((λ less. settled_wider now l m m1 m1 s u p r lower (omega arith) (subst (λ x. Settles x p u r) is.0 (subst (λ y. Settles t y u r) is.1 settled))), λ le. absurd (omega (arith, le, e)))
        more i s t u p q r in-s in-r before (inr (other, stays)) = (
          (λ less. subst (λ x. IsSettled now l m1 s p x r) (sym stays.0) (subst (λ y. IsSettled now l m1 s p t y) (sym stays.1) (wider s t p q (before.0 (fewer less))))),
          λ le. let is = before.1 (omega (arith, le)) in (stays.0 ∙ is.0, stays.1 ∙ is.1),
        )
          where
            fewer : i < n + 1 → i < n
            fewer less = ⊎_elim (λ lt. lt) (λ le. absurd (other (omega (arith, less, le)))) (within i n)

-- the first free place is free
first_free : (seats : List Seat) (i : ℕ) (seat : Seat) → position is_free seats ≡ Some i → slice_get seats i ≡ Some seat → is_free seat ≡ true
first_free seats i seat at is = by (nat_lt (position_or_len is_free seats) (length seats)) at
  where
    next : (n : ℕ) → 1 + n ≡ suc n
    next n = omega arith

    one : (s : Seat) (ss : List Seat) (n : ℕ) (b : Bool) → is_free s ≡ b → (slice_get ss n ≡ Some seat → is_free seat ≡ true) → slice_get (s ∷ ss) (cond (not b) (1 + n) 0) ≡ Some seat → is_free seat ≡ true
    one s ss n true free more is = subst (λ x. is_free x ≡ true) (some_eq s seat is) free
    one s ss n false free more is = more (subst (λ k. slice_get (s ∷ ss) k ≡ Some seat) (next n) is)

    here : (seats : List Seat) → slice_get seats (prefix_len (λ s. not (is_free s)) seats) ≡ Some seat → is_free seat ≡ true
    here [] is = absurd (none-some seat is)
    here (s ∷ ss) is = one s ss (prefix_len (λ s. not (is_free s)) ss) (is_free s) refl (here ss) is

    by : (b : Bool) → cond b (Some (position_or_len is_free seats)) None ≡ Some i → is_free seat ≡ true
    by true at = here seats (subst (λ k. slice_get seats k ≡ Some seat) (sym (some_eq (position_or_len is_free seats) i at)) is)
    by false at = absurd (none-some i at)

-- one that is found by the time since when it is idle does not wait
no_turn : (b : Bool) (seat : Seat) (key : ℕ) → (if b && (seat.turn == 0) then Some seat.since else None) ≡ Some key → seat.turn ≡ 0
no_turn b seat key is = by b (seat.turn == 0) refl is
  where
    by : (b c : Bool) → (seat.turn == 0) ≡ c → (if b && c then Some seat.since else None) ≡ Some key → seat.turn ≡ 0
    by b true same is = eqb-true seat.turn 0 same
    by true false same is = absurd (none-some key is)
    by false false same is = absurd (none-some key is)

-- where a connection may come in, nothing waits
idle_oldest : (seats : List Seat) (i : ℕ) (seat : Seat) → IsLeast Oldest seats i → slice_get seats i ≡ Some seat → IsIdle seat
idle_oldest seats i seat least is = inr (subst (λ s. s.turn ≡ 0) (some_eq least.0 seat (sym least.2 ∙ is)) (no_turn (is_some least.0.line) least.0 least.1 least.3))

idle_oldest_of : (addr : Addr) (seats : List Seat) (i : ℕ) (seat : Seat) → IsLeast (OldestOf addr) seats i → slice_get seats i ≡ Some seat → IsIdle seat
idle_oldest_of addr seats i seat least is = inr (subst (λ s. s.turn ≡ 0) (some_eq least.0 seat (sym least.2 ∙ is)) (no_turn (is_of addr least.0) least.0 least.1 least.3))

idle_there : (seats : List Seat) (addr : Addr) (most i : ℕ) (seat : Seat) → IsPlaceFor seats addr most (Some i) → slice_get seats i ≡ Some seat → IsIdle seat
idle_there seats addr most i seat place is = by (nat_le most (count_by (is_of addr) seats)) (position is_free seats) refl place
  where
    by : (b : Bool) (o : Option ℕ) → position is_free seats ≡ o → MatchBool b (IsFound (OldestOf addr) seats (Some i)) (MatchOption o (IsFound Oldest seats (Some i)) (λ k. Some i ≡ Some k)) → IsIdle seat
    by true o at found = idle_oldest_of addr seats i seat found is
    by false None at found = idle_oldest seats i seat found is
    by false (Some k) at found = inl (first_free seats i seat (at ∙ sym found) is)

-- what each place became is also something else
pub also : (R S : ℕ → Seat → Room → Seat → Room → Type 0) (s0 s1 : List Seat) (r0 r1 : List Room) → ((i : ℕ) (s t : Seat) (p q : Room) → R i s p t q → S i s p t q) → AreAllChanged R s0 r0 s1 r1 → AreAllChanged S s0 r0 s1 r1
also R S s0 s1 r0 r1 so changed = record {
  seats_stay = changed.seats_stay;
  rooms_stay = changed.rooms_stay;
  each = λ i s p is has. let to = changed.each i s p is has in (to.0, to.1, to.2, to.3, so i s to.0 p to.1 to.4);
}

-- by two equations
pub moved : (R : ℕ → Seat → Room → Seat → Room → Type 0) (s0 s1 s2 : List Seat) (r0 r1 r2 : List Room) → s2 ≡ s1 → r2 ≡ r1 → AreAllChanged R s0 r0 s1 r1 → AreAllChanged R s0 r0 s2 r2
moved R s0 s1 s2 r0 r1 r2 s r c = subst (λ x. AreAllChanged R s0 r0 x r2) (sym s) (subst (λ y. AreAllChanged R s0 r0 s1 y) (sym r) c)

-- none comes
pub none_in : (now l m : ℕ) (seats : List Seat) (rooms : List Room) → AreAllChanged (λ _. IsLetIn now l m) seats rooms seats rooms
none_in now l m seats rooms = record { seats_stay = refl; rooms_stay = refl; each = λ i s p is has. (s, p, is, has, inl (refl, refl)) }

entered_wider : (now l l1 m m1 : ℕ) (s : Seat) (p : Room) → l ≤ l1 → m ≤ m1 → IsEntered now l1 m s p → IsEntered now l m1 s p
entered_wider now l l1 m m1 s p below above (inl left) = inl left
entered_wider now l l1 m m1 s p below above (inr (there, since, read, noted, none, turned, stays)) = inr (there, since, read, noted, none, turned_wider l l1 m m1 0 s p below above turned, stays)

-- some come, and then more
pub let_in_more : (now l m m1 : ℕ) (s0 s1 s2 : List Seat) (r0 r1 r2 : List Room) → l ≤ m → m ≤ m1 → AreAllChanged (λ _. IsLetIn now l m) s0 r0 s1 r1 → AreAllChanged (λ _. IsLetIn now m m1) s1 r1 s2 r2 → AreAllChanged (λ _. IsLetIn now l m1) s0 r0 s2 r2
let_in_more now l m m1 s0 s1 s2 r0 r1 r2 lower higher = one_behind (λ _. IsLetIn now l m) (λ _. IsLetIn now m m1) (λ _. IsLetIn now l m1) s0 s1 s2 r0 r1 r2 both
  where
    both : (i : ℕ) (s t u : Seat) (p q r : Room) → i < length s0 → i < length r0 → IsLetIn now l m s p t q → IsLetIn now m m1 t q u r → IsLetIn now l m1 s p u r
    both i s t u p q r in-s in-r (inl (t-is, q-is)) (inl (u-is, r-is)) = inl (u-is ∙ t-is, r-is ∙ q-is)
    both i s t u p q r in-s in-r (inl (t-is, q-is)) (inr (idle, came)) = inr (subst (λ x. IsIdle x) t-is idle, entered_wider now l m m1 m1 u r lower (omega arith) came)
    both i s t u p q r in-s in-r (inr (idle, came)) (inl (u-is, r-is)) =
        inr (idle, subst (λ x. IsEntered now l m1 x r) (sym u-is) (subst (λ y. IsEntered now l m1 t y) (sym r-is) (entered_wider now l l m m1 t q (omega arith) higher came)))
    both i s t u p q r in-s in-r (inr (idle, came)) (inr (idle', came')) = inr (idle, entered_wider now l m m1 m1 u r lower (omega arith) came')

line_same : (a b : Option Line) → socket_of b ≡ socket_of a → is_some b ≡ is_some a
line_same None None e = refl
line_same None (Some b) e = absurd (cc e)
line_same (Some a) None e = absurd (cc e)
line_same (Some a) (Some b) e = refl

-- the same connection is there
pub there_same : (s t : Seat) → IsSamePeer s t → is_free t ≡ is_free s
there_same s t same = ap not (line_same s.line t.line same.0)

-- of a socket that had no call all is noted
pub new_noted : (s : Seat) → told_of s.line ≡ new_line → AreCallsNoted s
new_noted s is = ((λ failed. absurd (cc (sym (ap (λ t. t.has_failed) is) ∙ failed))), (λ ended. absurd (cc (sym (ap (λ t. t.has_ended) is) ∙ ended))))

-- something may be read, with room for it
abbrev pub may_read : Bool → Bool → List ℕ → Bool
may_read is_readable is_over coming = is_readable && not is_over && nat_lt (length coming) LARGEST_FRAME

-- a connection came, was read, and waits where it is due
pub entered : (l m since : ℕ) (peer : Peer) (s0 s1 s2 s3 : Seat) (r0 r1 r3 : Room) → IsTaken peer since s0 → IsEmpty r0 → IsFilled r0.coming.items r1.coming.items r0.going.items r1.going.items → IsSameSeat s0 s1 → (may_read s0.is_readable s0.is_over r0.coming.items ≡ true → WasRead s1) → s2 ≡ record s1 { turn = s2.turn } → IsTurned l m s1.turn s2 r1
    → ((s3 ≡ s2) × (r3 ≡ r1) × (IsToLeaveAt s0.since s2 r1 → ⊥)) ⊎ (IsVacant s3 × IsEmpty r3) → IsEntered s0.since l m s3 r3
entered l m since peer s0 s1 s2 s3 r0 r1 r3 taken empty filled same read waits turned (inr left) = inl left
entered l m since peer s0 s1 s2 s3 r0 r1 r3 (here, of, at, rests, goes, opens, readable, fresh) empty filled same read waits turned (inl (s-is, r-is, stays)) =
    subst (λ x. IsEntered s0.since l m x r3) (sym s-is) (subst (λ y. IsEntered s0.since l m s2 y) (sym r-is) (inr come))
  where
    line-is : s2.line ≡ s1.line
    line-is = ap (λ x. x.line) waits

    there : is_free s1 ≡ false
    there = there_same s0 s1 same.0 ∙ here

    reads : WasRead s1 → 0 < reads_of s1.line
    reads (inl free) = absurd (cc (sym free ∙ there))
    reads (inr some) = some

    may : may_read s0.is_readable s0.is_over r0.coming.items ≡ true
    may = ap (λ b. may_read b s0.is_over r0.coming.items) readable ∙ ap (λ b. may_read true b r0.coming.items) goes ∙ ap (λ l. may_read true false l) empty.0

    come : HasCome s0.since l m s2 r1
    come = (
      ap (λ x. not (is_some x)) line-is ∙ there,
      ap (λ x. x.since) waits ∙ same.3,
      subst (λ x. 0 < reads_of x) (sym line-is) (reads (read may)),
      subst (λ x. AreCallsNoted x) (sym waits) (same.2.2 (new_noted s0 fresh)),
      filled.1 ∙ empty.1,
      subst (λ n. IsTurned l m n s2 r1) (same.1 ∙ rests) turned,
      stays,
    )

-- it may be read and written as another one
abbrev pub tried_again : Seat → Seat → Seat
tried_again seat other = record seat { is_readable = other.is_readable; is_writable = other.is_writable }

-- a connection went on, and was left where it was to be left
pub settled : (now l m : ℕ) (s0 s1 s2 s3 : Seat) (r0 r1 r3 : Room) → is_free s0 ≡ false → s1 ≡ tried_again s0 s1 → GoesOn now l m s1 r0 s2 r1 → ((s3 ≡ s2) × (r3 ≡ r1) × (IsToLeaveAt now s2 r1 → ⊥)) ⊎ (IsVacant s3 × IsEmpty r3) → IsSettled now l m s0 r0 s3 r3
settled now l m s0 s1 s2 s3 r0 r1 r3 there tried on left = subst (λ b. MatchBool b (Stays s0 r0 s3 r3) Outcome) (sym there) (by left)
  where
    Outcome : Type 0
    Outcome = (IsVacant s3 × IsEmpty r3) ⊎ (GoesOn now l m s0 r0 s3 r3 × (IsToLeaveAt now s3 r3 → ⊥))

    went : GoesOn now l m s0 r0 s2 r1
    went = subst (λ x. GoesOn now l m x r0 s2 r1) tried on

    by : ((s3 ≡ s2) × (r3 ≡ r1) × (IsToLeaveAt now s2 r1 → ⊥)) ⊎ (IsVacant s3 × IsEmpty r3) → Outcome
    by (inl (s-is, r-is, stays)) = inr (subst (λ x. GoesOn now l m s0 r0 x r3 × (IsToLeaveAt now x r3 → ⊥)) (sym s-is) (subst (λ y. GoesOn now l m s0 r0 s2 y × (IsToLeaveAt now s2 y → ⊥)) (sym r-is) (went, stays)))
    by (inr vacant) = inl vacant

-- what is handed back of a connection that is left
pub left_behind : (now l m : ℕ) (s0 s1 s2 : Seat) (r0 r1 : Room) (was : Option Seat) → s1 ≡ tried_again s0 s1 → GoesOn now l m s1 r0 s2 r1 → IsEndedByCalls s1 s2 → IfSome was (λ w. (w ≡ s2) × IsToLeaveAt now s2 r1) → IfSome was (IsLeft now l m s0 r0)
left_behind now l m s0 s1 s2 r0 r1 None tried on ended left = tt
left_behind now l m s0 s1 s2 r0 r1 (Some w) tried on ended (is, leaves) = subst (λ x. IsLeft now l m s0 r0 x) (sym is) (r1, subst (λ x. GoesOn now l m x r0 s2 r1) tried on, subst (λ x. IsEndedByCalls x s2) tried ended, leaves)

-- one comes to a place where nothing waits
placed : (now l m k : ℕ) (s1 s2 : List Seat) (r1 r2 : List Room) → ((s : Seat) → slice_get s1 k ≡ Some s → IsIdle s) → IsPlaceChangedAt (λ _ _. IsEntered now l m) k s1 r1 s2 r2 → AreAllChanged (λ _. IsLetIn now l m) s1 r1 s2 r2
placed now l m k s1 s2 r1 r2 idle at =
    moved (λ _. IsLetIn now l m) s1 (set s1 k at.seat') s2 r1 (set r1 k at.room') r2 at.seat_is at.room_is
    (also (AtOr k Comes) (λ _. IsLetIn now l m) s1 (set s1 k at.seat') r1 (set r1 k at.room') so (at_one Comes k s1 r1 at.seat at.seat' at.room at.room' at.seat_was at.room_was (idle at.seat at.seat_was, at.changed)))
  where
    Comes : Seat → Room → Seat → Room → Type 0
    Comes s p t q = IsIdle s × IsEntered now l m t q

    so : (i : ℕ) (s t : Seat) (p q : Room) → AtOr k Comes i s p t q → IsLetIn now l m s p t q
    so i s t p q (inl (e, comes)) = inr comes
    so i s t p q (inr (other, stays)) = inl stays

-- a connection that was taken off the queue came, or nothing changed
pub taken_in : (addr : Addr) (most now : ℕ) (came : Taken) (l m : ℕ) (s1 s2 : List Seat) (r1 r2 : List Room) → IsTakenIn addr most now came l m s1 r1 s2 r2 → AreAllChanged (λ _. IsLetIn now l m) s1 r1 s2 r2
taken_in addr most now (taken.At k) l m s1 s2 r1 r2 (place, (at, none)) = by (within k (length s1)) (within k (length r1))
  where
    stays : (s2 ≡ s1) × (r2 ≡ r1) → AreAllChanged (λ _. IsLetIn now l m) s1 r1 s2 r2
    stays (s, r) = moved (λ _. IsLetIn now l m) s1 s1 s2 r1 r1 r2 s r (none_in now l m s1 r1)

    by : (k < length s1) ⊎ (length s1 ≤ k) → (k < length r1) ⊎ (length r1 ≤ k) → AreAllChanged (λ _. IsLetIn now l m) s1 r1 s2 r2
    by (inl lt) (inl lt') = placed now l m k s1 s2 r1 r2 (λ s is. idle_there s1 addr most k s place is) (at lt lt')
    by (inl lt) (inr le) = stays (none (inr le))
    by (inr le) r = stays (none (inl le))
taken_in addr most now taken.Turned l m s1 s2 r1 r2 (place, s, r) = moved (λ _. IsLetIn now l m) s1 s1 s2 r1 r1 r2 s r (none_in now l m s1 r1)
taken_in addr most now taken.Refused l m s1 s2 r1 r2 (s, r) = moved (λ _. IsLetIn now l m) s1 s1 s2 r1 r1 r2 s r (none_in now l m s1 r1)

-- room was made, or there was none
pub room_made : (now l m : ℕ) (is_made : Bool) (s1 s2 : List Seat) (r1 r2 : List Room) → (is_made ≡ true → (i : ℕ) × GivesWay now s1 i × IsChangedAt (λ _ seat. IsVacant seat) i s1 s2 × IsChangedAt (λ _ room. IsEmpty room) i r1 r2)
    → (is_made ≡ false → (s2 ≡ s1) × (r2 ≡ r1)) → AreAllChanged (λ _. IsLetIn now l m) s1 r1 s2 r2
room_made now l m true s1 s2 r1 r2 made none =
    let (k, way, seat, room) = made refl in
    placed now l m k s1 s2 r1 r2 (λ s is. idle_oldest s1 k s way.0 is) (record { seat = seat.old; room = room.old; seat' = seat.new; room' = room.new; seat_was = seat.was; room_was = room.was; seat_is = seat.is; room_is = room.is; changed = inl (seat.changed, room.changed) })
room_made now l m false s1 s2 r1 r2 made none = let is = none refl in moved (λ _. IsLetIn now l m) s1 s1 s2 r1 r1 r2 is.0 is.1 (none_in now l m s1 r1)

-- of the seats alone
pub woken : (s0 s1 : List Seat) (rooms : List Room) → AllZip MayBeWoken s0 s1 → AreAllChanged (λ i s p t q. MayBeWoken s t × (q ≡ p)) s0 rooms s1 rooms
woken s0 s1 rooms same = record { seats_stay = long s0 s1 same; rooms_stay = refl; each = λ i seat room s r. let a = at s0 s1 i seat same s in (a.0, room, a.1, r, (a.2, refl)) }
  where
    long : (s0 s1 : List Seat) → AllZip MayBeWoken s0 s1 → length s1 ≡ length s0
    long [] [] z = refl
    long [] (t ∷ ts) z = absurd z
    long (s ∷ ss) [] z = absurd z
    long (s ∷ ss) (t ∷ ts) z = ap suc (long ss ts z.1)

    at : (s0 s1 : List Seat) (i : ℕ) (seat : Seat) → AllZip MayBeWoken s0 s1 → slice_get s0 i ≡ Some seat → (t : Seat) × (slice_get s1 i ≡ Some t) × MayBeWoken seat t
    at [] [] i seat z e = absurd (none-some seat e)
    at [] (t ∷ ts) i seat z e = absurd z
    at (s ∷ ss) [] i seat z e = absurd z
    at (s ∷ ss) (t ∷ ts) zero seat z e = (t, refl, subst (λ x. MayBeWoken x t) (some_eq s seat e) z.0)
    at (s ∷ ss) (t ∷ ts) (suc i) seat z e = at ss ts i seat z.1 e

-- seats that stay as they are
pub all_same : (seats : List Seat) → AllZip MayBeWoken seats seats
all_same [] = tt
all_same (s ∷ ss) = (refl, all_same ss)

-- what may be noted of a place at an event
abbrev noted : Bool → Bool → Bool → Seat → Seat
noted reads writes ends seat = record seat { is_readable = reads; is_writable = writes; is_closing = ends }

-- one is woken, where there is one
pub one_woken : (stirring : Stirring) (k : ℕ) (s0 s1 s2 : List Seat) → AllZip MayBeWoken s0 s1 → (k < length s1 → IsChangedAt (IsWoken stirring) k s1 s2) → (length s1 ≤ k → s2 ≡ s1) → AllZip MayBeWoken s0 s2
one_woken stirring k s0 s1 s2 same at none = by (within k (length s1))
  where
    trans : (s t u : Seat) → MayBeWoken s t → IsWoken stirring t u → MayBeWoken s u
    trans s t u same woke =
        let e : u ≡ noted (t.is_readable || stirring.is_readable) (t.is_writable || stirring.is_writable) (t.is_closing || stirring.is_closing) s
        = woke ∙ ap (λ x. noted (t.is_readable || stirring.is_readable) (t.is_writable || stirring.is_writable) (t.is_closing || stirring.is_closing) x) same in
        e ∙ ap (λ x. noted x.is_readable x.is_writable x.is_closing s) (sym e)

    placed : (s0 s1 : List Seat) (k : ℕ) (old new : Seat) → AllZip MayBeWoken s0 s1 → slice_get s1 k ≡ Some old → IsWoken stirring old new → AllZip MayBeWoken s0 (set s1 k new)
    placed [] [] k old new z e is = absurd (none-some old e)
    placed [] (t ∷ ts) k old new z e is = absurd z
    placed (s ∷ ss) [] k old new z e is = absurd z
    placed (s ∷ ss) (t ∷ ts) zero old new z e is = (trans s t new z.0 (subst (λ x. IsWoken stirring x new) (sym (some_eq t old e)) is), z.1)
    placed (s ∷ ss) (t ∷ ts) (suc k) old new z e is = (z.0, placed ss ts k old new z.1 e is)

    by : (k < length s1) ⊎ (length s1 ≤ k) → AllZip MayBeWoken s0 s2
    by (inl lt) = let c = at lt in subst (λ s. AllZip MayBeWoken s0 s) (sym c.is) (placed s0 s1 k c.old c.new same c.was c.changed)
    by (inr le) = subst (λ s. AllZip MayBeWoken s0 s) (sym (none le)) same

-- of a place that was woken, or not
pub kept_of : {A : Type 0} (f : Seat → A) → ((s : Seat) (reads writes ends : Bool) → f (noted reads writes ends s) ≡ f s) → (s t : Seat) → MayBeWoken s t → f t ≡ f s
kept_of f keeps s t woke = ap f woke ∙ keeps s t.is_readable t.is_writable t.is_closing

-- all go on, and then connections come
pub rounded : (now l k m : ℕ) (s0 s1 s2 : List Seat) (r0 r1 r2 : List Room) → l ≤ k → k ≤ m → AreAllChanged (λ _. IsSettled now l k) s0 r0 s1 r1 → AreAllChanged (λ _. IsLetIn now k m) s1 r1 s2 r2 → AreRounded now l m s0 r0 s2 r2
rounded now l k m s0 s1 s2 r0 r1 r2 lower higher went came = (k, lower, higher, record { seats_then = s1; rooms_then = r1; went = went; came = came })

-- a wait ahead of it
pub waited : (now l m : ℕ) (s0 s1 s2 : List Seat) (r0 r2 : List Room) → AllZip MayBeWoken s0 s1 → AreRounded now l m s1 r0 s2 r2 → IsRound now l m s0 r0 s2 r2
waited now l m s0 s1 s2 r0 r2 same (k, lower, higher, both) = (
  k,
  lower,
  higher,
  record {
    seats_then = both.seats_then;
    rooms_then = both.rooms_then;
    went = one_behind Woken (λ i. IsSettled now l k) (λ i. IsGoneOn now l k) s0 s1 both.seats_then r0 r0 both.rooms_then on (woken s0 s1 r0 same) both.went;
    came = both.came;
  },
)
  where
    Woken : ℕ → Seat → Room → Seat → Room → Type 0
    Woken i s p t q = MayBeWoken s t × (q ≡ p)

    on : (i : ℕ) (s t u : Seat) (p q r : Room) → i < length s0 → i < length r0 → Woken i s p t q → IsSettled now l k t q u r → IsGoneOn now l k s p u r
    on i s t u p q r in-s in-r (woke, is) settled = (t, woke, subst (λ x. IsSettled now l k t x u r) is settled)

-- what a vector holds behind a call that had its items
abbrev pub put : {A : Type 0} → ℕ → List A → List A → List A
put n new old = take n (new ++ drop (length new) old)

pub written : {A : Type 0} (n : ℕ) (new old : List A) → n ≡ length old → length new ≡ length old → put n new old ≡ new
written n new old is same =
    ap (λ l. take n (new ++ l)) (drop_all (length new) old (omega (arith, same))) ∙ ap (take n) (append-nil new) ∙ take_all n new (omega (arith, is, same))

long_woken : (s0 s1 : List Seat) → AllZip MayBeWoken s0 s1 → length s1 ≡ length s0
long_woken s0 s1 same = (woken s0 s1 [] same).seats_stay

-- how many seats and rooms there are behind it
long_rounded : (now l m : ℕ) (s0 s2 : List Seat) (r0 r2 : List Room) → AreRounded now l m s0 r0 s2 r2 → (length s2 ≡ length s0) × (length r2 ≡ length r0)
long_rounded now l m s0 s2 r0 r2 (k, lower, higher, both) = (both.came.seats_stay ∙ both.went.seats_stay, both.came.rooms_stay ∙ both.went.rooms_stay)

-- behind a wait, in vectors
pub wait_put : (n : ℕ) (s0 d1 w : List Seat) → n ≡ length s0 → d1 ≡ s0 → AllZip MayBeWoken d1 w → (put n w s0 ≡ w) × AllZip MayBeWoken s0 w
wait_put n s0 d1 w n-is d1-is same = let woke : AllZip MayBeWoken s0 w = subst (λ l. AllZip MayBeWoken l w) d1-is same in (written n w s0 n-is (long_woken s0 w woke), woke)

-- all of it, in vectors
pub round_put : (now l m n k : ℕ) (s0 w f d1 d2 : List Seat) (r0 g d3 : List Room) → n ≡ length s0 → k ≡ length r0 → d1 ≡ s0 → AllZip MayBeWoken d1 w → d2 ≡ put n w s0 → d3 ≡ r0 → AreRounded now l m d2 d3 f g
    → (put n f (put n w s0) ≡ f) × (put k g r0 ≡ g) × IsRound now l m s0 r0 (put n f (put n w s0)) (put k g r0)
round_put now l m n k s0 w f d1 d2 r0 g d3 n-is k-is d1-is same d2-is d3-is round = (
  f-is,
  g-is,
  subst (λ s. IsRound now l m s0 r0 s (put k g r0)) (sym f-is) (subst (λ r. IsRound now l m s0 r0 f r) (sym g-is) (waited now l m s0 w f r0 g woke.1 rounds)),
)
  where
    woke : (put n w s0 ≡ w) × AllZip MayBeWoken s0 w
    woke = wait_put n s0 d1 w n-is d1-is same

    rounds : AreRounded now l m w r0 f g
    rounds = subst (λ s. AreRounded now l m s r0 f g) (d2-is ∙ woke.0) (subst (λ r. AreRounded now l m d2 r f g) d3-is round)

    long : (length f ≡ length w) × (length g ≡ length r0)
    long = long_rounded now l m w f r0 g rounds

    f-is : put n f (put n w s0) ≡ f
    f-is = ap (put n f) woke.0 ∙ written n f w (n-is ∙ sym (long_woken s0 w woke.1)) long.0

    g-is : put k g r0 ≡ g
    g-is = written k g r0 k-is long.1

set_twice : {A : Type 0} (xs : List A) (i : ℕ) (x y : A) → set (set xs i x) i y ≡ set xs i y
set_twice [] i x y = refl
set_twice (z ∷ xs) zero x y = refl
set_twice (z ∷ xs) (suc i) x y = ap (λ l. z ∷ l) (set_twice xs i x y)

-- a connection that is taken back, in vectors
pub back_put : (now last last' n m k i : ℕ) (s0 s1 s2 d1 d2 : List Seat) (r0 r1 d3 : List Room) → n ≡ length s0 → m ≡ length r0 → d1 ≡ s0 → (k < length d1 → IsChangedAt (λ old new. new ≡ rested old) k d1 s1)
    → d2 ≡ put n s1 s0 → d3 ≡ r0 → (k < length d2 → k < length d3 → IsPlaceChangedAt (IsSettled now last last') k d2 d3 s2 r1) → k ≡ i → i < length s0 → i < length r0
    → IsPlaceChangedAt (λ seat. IsSettled now last last' (rested seat)) i s0 r0 (put n s2 (put n s1 s0)) (put m r1 r0)
back_put now last last' n m k i s0 s1 s2 d1 d2 r0 r1 d3 n-is m-is d1-is rest' d2-is d3-is settled' k-is lt lt' = record {
  seat = one.old;
  room = two.room;
  seat' = two.seat';
  room' = two.room';
  seat_was = one.was;
  room_was = two.room_was;
  seat_is = ap (put n s2) e1 ∙ written n s2 s1 (n-is ∙ sym long) long2 ∙ two.seat_is ∙ ap (λ l. set l i two.seat') one.is ∙ set_twice s0 i one.new two.seat';
  room_is = written m r1 r0 m-is long3 ∙ two.room_is;
  changed = subst (λ s. IsSettled now last last' s two.room two.seat' two.room') (new-is ∙ one.changed) two.changed;
}
  where
    rest : i < length d1 → IsChangedAt (λ old new. new ≡ rested old) i d1 s1
    rest = subst (λ j. j < length d1 → IsChangedAt (λ old new. new ≡ rested old) j d1 s1) k-is rest'

    Settles : Seat → Room → Seat → Room → Type 0
    Settles = IsSettled now last last'

    settled : i < length d2 → i < length d3 → IsPlaceChangedAt Settles i d2 d3 s2 r1
    settled = subst (λ j. j < length d2 → j < length d3 → IsPlaceChangedAt Settles j d2 d3 s2 r1) k-is settled'

    one : IsChangedAt (λ old new. new ≡ rested old) i s0 s1
    one = subst (λ l. IsChangedAt (λ old new. new ≡ rested old) i l s1) d1-is (rest (subst (λ l. i < length l) (sym d1-is) lt))

    long : length s1 ≡ length s0
    long = ap length one.is ∙ length-set s0 i one.new

    e1 : put n s1 s0 ≡ s1
    e1 = written n s1 s0 n-is long

    two : IsPlaceChangedAt Settles i s1 r0 s2 r1
    two = subst (λ l. IsPlaceChangedAt Settles i l r0 s2 r1) (d2-is ∙ e1) (subst (λ l. IsPlaceChangedAt Settles i d2 l s2 r1) d3-is
        (settled (subst (λ l. i < length l) (sym (d2-is ∙ e1)) (omega (arith, lt, long))) (subst (λ l. i < length l) (sym d3-is) lt')))

    long2 : length s2 ≡ length s1
    long2 = ap length two.seat_is ∙ length-set s1 i two.seat'

    long3 : length r1 ≡ length r0
    long3 = ap length two.room_is ∙ length-set r0 i two.room'

    new-is : two.seat ≡ one.new
    new-is = some_eq two.seat one.new (sym two.seat_was ∙ ap (λ l. slice_get l i) one.is ∙ got_at s0 i one.old one.new one.was)
