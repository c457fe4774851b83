-- No place has a greater number than the last that was given out.
use Rattle.std.proofs.Common.{◌≡◌, ◌⊎◌, ◌<◌, ◌≤◌, ℕ, Bool, List, Option, Some, None, true, false, refl, sym, subst, ap, ◌∙◌, length, set, arith, inl, inr, MatchBool}
use Rattle.std.specs.List.{All, AllZip}
use Rattle.std.specs.Prelude.{slice_get, nat_lt, get_or, not, is_some}
use Rattle.std.proofs.lemmas.Bool.Decides.{nat_tests}
use Rattle.std.proofs.lemmas.List.{length-set}
use Rattle.std.proofs.lemmas.Option.{get_or_from_slice_get, slice_get-get_or, slice_get_cases, slice_get_within}
use Rattle.outside.specs.declared.streams.Reading.{Reading}
use Rattle.outside.specs.declared.streams.Reading.TheVariants as read
use Rattle.edges.proofs.Going.{AtOr, also, at_one, got_other, kept_of, moved, new_noted, put, same_or_not, there_same, within, woken, written}
use Rattle.edges.proofs.Told.{got_at, some_eq}
use Rattle.edges.specs.Halls.{AreAllChanged, AreNumberedUpTo, GoesOn, IsGivenOut, IsHeard, IsLetIn, IsPlaceChangedAt, IsSameOrEnded, IsSettled, IsToLeaveAt, IsTurned, Stays}
use Rattle.edges.specs.Places.{AreCallsNoted, IsFollowed, IsOverNow, IsSamePeer, IsVacant, MayBeWoken, WasRead, is_free, rested, told_of}
use Rattle.edges.specs.declared.line.Line.{Line}
use Rattle.edges.specs.Rooms.{IsChangedAt, IsDue, IsEmpty, IsHandingOver, IsNotDue}
use Rattle.edges.specs.declared.room.Room.{Room}
use Rattle.edges.specs.declared.seat.Seat.{Seat}
use Rattle.past_log.specs.Line.{new_line}

-- a place has no greater number than the last one, and its connection was read since it came, with all noted that the system answered
abbrev pub IsInOrder : ℕ → Seat → Type 0
IsInOrder last seat = (seat.turn ≤ last) × IsFollowed seat

-- where that was so, it is so of a later last one
abbrev pub Bounded : ℕ → ℕ → Seat → Room → Seat → Room → Type 0
Bounded last last' seat room seat' room' = IsInOrder last seat → IsInOrder last' seat'

-- the same connection, which was read
read_same : (s t : Seat) → IsSamePeer s t → WasRead s → WasRead t
read_same s t same (inl free) = inl (there_same s t same ∙ free)
read_same s t same (inr read) = inr (omega (arith, read, same.2))

followed_same : (s t : Seat) → IsSamePeer s t → (AreCallsNoted s → AreCallsNoted t) → IsFollowed s → IsFollowed t
followed_same s t same noted (read, all) = (read_same s t same read, noted all)

-- where there is no connection, nothing is to be noted
followed_free : (s : Seat) → is_free s ≡ true → IsFollowed s
followed_free s free = (inl free, new_noted s (by s.line free))
  where
    by : (line : Option Line) → not (is_some line) ≡ true → told_of line ≡ new_line
    by None e = refl
    by (Some line) e = absurd (cc e)

turned_bounded : (l m turn : ℕ) (s : Seat) (r : Room) → l ≤ m → IsTurned l m turn s r → turn ≤ l → s.turn ≤ m
turned_bounded l m turn s r rises turned low = by (nat_lt 0 turn) (nat_lt 0 s.turn) refl turned
  where
    none : (n : ℕ) → nat_lt 0 n ≡ false → n ≤ m
    none n is = grind (arith, nat_tests, is)

    by : (b c : Bool) → nat_lt 0 s.turn ≡ c → MatchBool b (s.turn ≡ turn) (MatchBool c (IsDue r × IsGivenOut l m s.turn) (IsNotDue r)) → s.turn ≤ m
    by true c at same = omega (arith, same, low, rises)
    by false true at (due, (after, before)) = before
    by false false at rests = none s.turn at

settled_bounded : (now l m : ℕ) (s t : Seat) (p q : Room) → l ≤ m → IsSettled now l m s p t q → Bounded l m s p t q
settled_bounded now l m s t p q rises settled low = by (is_free s) settled
  where
    by : (b : Bool) → MatchBool b (Stays s p t q) ((IsVacant t × IsEmpty q) ⊎ (GoesOn now l m s p t q × (IsToLeaveAt now t q → ⊥))) → IsInOrder m t
    by true stays = (omega (arith, ap (λ x. x.turn) stays.0, low.0, rises), subst (λ x. IsFollowed x) (sym stays.0) low.1)
    by false (inl (vacant, empty)) = (omega (arith, vacant.1), followed_free t vacant.0)
    by false (inr ((end, place, going, turned, since), stays)) = (turned_bounded l m s.turn t q rises turned low.0, followed_same s t place end.2 low.1)

let_in_bounded : (now l m : ℕ) (s t : Seat) (p q : Room) → l ≤ m → IsLetIn now l m s p t q → Bounded l m s p t q
let_in_bounded now l m s t p q rises (inl stays) low = (omega (arith, ap (λ x. x.turn) stays.0, low.0, rises), subst (λ x. IsFollowed x) (sym stays.0) low.1)
let_in_bounded now l m s t p q rises (inr (idle, inl (vacant, empty))) low = (omega (arith, vacant.1), followed_free t vacant.0)
let_in_bounded now l m s t p q rises (inr (idle, inr (there, since, read, noted, none, turned, stays))) low = (turned_bounded l m 0 t q rises turned (omega arith), (inr read, noted))

woken_bounded : (l : ℕ) (s t : Seat) → MayBeWoken s t → IsInOrder l s → IsInOrder l t
woken_bounded l s t woke low = (omega (arith, kept_of (λ x. x.turn) (λ x a b c. refl) s t woke, low.0), subst (λ x. IsFollowed x) (sym woke) low.1)

-- what stands at a place that is there
pub there : {A : Type 0} (xs : List A) (i : ℕ) → i < length xs → (x : A) × (slice_get xs i ≡ Some x)
there {A = A} xs i lt = by (slice_get_cases xs i).1
  where
    by : ((x : A) × (i < length xs) × (slice_get xs i ≡ Some x) × (get_or xs i x ≡ x)) ⊎ ((length xs ≤ i) × (slice_get xs i ≡ None)) → (x : A) × (slice_get xs i ≡ Some x)
    by (inl (x, within, is, or)) = (x, is)
    by (inr (past, is)) = absurd (omega (arith, lt, past))

every : (m : ℕ) (ts : List Seat) → ((i : ℕ) (t : Seat) → slice_get ts i ≡ Some t → IsInOrder m t) → All (λ t. (t.turn ≤ m) × IsFollowed t) ts
every m ts each = λ k d lt. each k (get_or ts k d) (slice_get-get_or ts k d lt)

one_of : (m : ℕ) (ts : List Seat) (i : ℕ) (t : Seat) → All (λ t. (t.turn ≤ m) × IsFollowed t) ts → slice_get ts i ≡ Some t → IsInOrder m t
one_of m ts i t all is = subst (λ x. IsInOrder m x) (get_or_from_slice_get ts i t t is) (all i t (slice_get_within ts i t is))

-- so of all places
pub all_bounded : (l m : ℕ) (s0 s1 : List Seat) (r0 r1 : List Room) → AreAllChanged (λ _. Bounded l m) s0 r0 s1 r1 → AreNumberedUpTo l s0 r0 → AreNumberedUpTo m s1 r1
all_bounded l m s0 s1 r0 r1 changed (long, low) = (changed.rooms_stay ∙ long ∙ sym changed.seats_stay, every m s1 each)
  where
    each : (i : ℕ) (t : Seat) → slice_get s1 i ≡ Some t → IsInOrder m t
    each i t is =
        let lt : i < length s0 = omega (arith, slice_get_within s1 i t is, changed.seats_stay) in
        let s = there s0 i lt in
        let r = there r0 i (omega (arith, lt, long)) in
        let to = changed.each i s.0 r.0 s.1 r.1 in
        subst (λ x. IsInOrder m x) (some_eq to.0 t (sym to.2 ∙ is)) (to.4 (one_of l s0 i s.0 low s.1))

-- where all go on
pub settled_numbered : (now l m : ℕ) (s0 s1 : List Seat) (r0 r1 : List Room) → l ≤ m → AreAllChanged (λ _. IsSettled now l m) s0 r0 s1 r1 → AreNumberedUpTo l s0 r0 → AreNumberedUpTo m s1 r1
settled_numbered now l m s0 s1 r0 r1 rises went = all_bounded l m s0 s1 r0 r1 (also (λ _. IsSettled now l m) (λ _. Bounded l m) s0 s1 r0 r1 (λ i s t p q one. settled_bounded now l m s t p q rises one) went)

-- where connections come
pub let_in_numbered : (now l m : ℕ) (s0 s1 : List Seat) (r0 r1 : List Room) → l ≤ m → AreAllChanged (λ _. IsLetIn now l m) s0 r0 s1 r1 → AreNumberedUpTo l s0 r0 → AreNumberedUpTo m s1 r1
let_in_numbered now l m s0 s1 r0 r1 rises came = all_bounded l m s0 s1 r0 r1 (also (λ _. IsLetIn now l m) (λ _. Bounded l m) s0 s1 r0 r1 (λ i s t p q one. let_in_bounded now l m s t p q rises one) came)

-- where a wait is broken
pub woken_numbered : (l n : ℕ) (s0 w d : List Seat) (rooms : List Room) → n ≡ length s0 → d ≡ s0 → AllZip MayBeWoken d w → AreNumberedUpTo l s0 rooms → AreNumberedUpTo l (put n w s0) rooms
woken_numbered l n s0 w d rooms n-is d-is same =
    all_bounded l l s0 (put n w s0) rooms rooms (moved (λ _. Bounded l l) s0 w (put n w s0) rooms rooms rooms (written n w s0 n-is woke.seats_stay) refl
    (also (λ i s p t q. MayBeWoken s t × (q ≡ p)) (λ _. Bounded l l) s0 w rooms rooms (λ i s t p q one low. woken_bounded l s t one.0 low) woke))
  where
    woke : AreAllChanged (λ i s p t q. MayBeWoken s t × (q ≡ p)) s0 rooms w rooms
    woke = woken s0 w rooms (subst (λ l. AllZip MayBeWoken l w) d-is same)

-- one place changed
placed_numbered : (l m : ℕ) (s0 s1 : List Seat) (r0 r1 : List Room) (i : ℕ) (R : Seat → Room → Seat → Room → Type 0) → l ≤ m → ((s t : Seat) (p q : Room) → R s p t q → Bounded l m s p t q) → IsPlaceChangedAt R i s0 r0 s1 r1 → AreNumberedUpTo l s0 r0 → AreNumberedUpTo m s1 r1
placed_numbered l m s0 s1 r0 r1 i R rises bounded at before = all_bounded l m s0 s1 r0 r1 changed before
  where
    one : AreAllChanged (AtOr i R) s0 r0 s1 r1
    one = subst (λ s. AreAllChanged (AtOr i R) s0 r0 s r1) (sym at.seat_is) (subst (λ r. AreAllChanged (AtOr i R) s0 r0 (set s0 i at.seat') r) (sym at.room_is) (at_one R i s0 r0 at.seat at.seat' at.room at.room' at.seat_was at.room_was at.changed))

    so : (k : ℕ) (s t : Seat) (p q : Room) → AtOr i R k s p t q → Bounded l m s p t q
    so k s t p q (inl (e, r)) = bounded s t p q r
    so k s t p q (inr (other, stays)) = λ low. (omega (arith, ap (λ x. x.turn) stays.0, low.0, rises), subst (λ x. IsFollowed x) (sym stays.0) low.1)

    changed : AreAllChanged (λ _. Bounded l m) s0 r0 s1 r1
    changed = also (AtOr i R) (λ _. Bounded l m) s0 s1 r0 r1 so one

-- a connection that is taken back
pub back_numbered : (now l m i : ℕ) (s0 s1 : List Seat) (r0 r1 : List Room) → l ≤ m → (i < length s0 → i < length r0 → IsPlaceChangedAt (λ seat. IsSettled now l m (rested seat)) i s0 r0 s1 r1) → (length s0 ≤ i → (s1 ≡ s0) × (r1 ≡ r0)) → AreNumberedUpTo l s0 r0 → AreNumberedUpTo m s1 r1
back_numbered now l m i s0 s1 r0 r1 rises at none before = by (within i (length s0))
  where
    rested_bounded : (s t : Seat) (p q : Room) → IsSettled now l m (rested s) p t q → Bounded l m s p t q
    rested_bounded s t p q settled = λ low. settled_bounded now l m (rested s) t p q rises settled (omega arith, low.1)

    higher : (ts : List Seat) → All (λ t. (t.turn ≤ l) × IsFollowed t) ts → All (λ t. (t.turn ≤ m) × IsFollowed t) ts
    higher ts all = λ k d lt. let one = all k d lt in (omega (arith, one.0, rises), one.1)

    by : (i < length s0) ⊎ (length s0 ≤ i) → AreNumberedUpTo m s1 r1
    by (inl lt) = placed_numbered l m s0 s1 r0 r1 i (λ seat. IsSettled now l m (rested seat)) rises rested_bounded (at lt (omega (arith, lt, before.0))) before
    by (inr le) = let is = none le in subst (λ s. AreNumberedUpTo m s r1) (sym is.0) (subst (λ r. AreNumberedUpTo m s0 r) (sym is.1) (before.0, higher s0 before.1))

-- where there is no such place, in vectors
pub none_put : (n m i : ℕ) (s0 s1 s2 d1 d2 : List Seat) (r0 r1 d3 : List Room) → n ≡ length s0 → m ≡ length r0 → d1 ≡ s0 → (length d1 ≤ i → s1 ≡ d1) → d2 ≡ put n s1 s0 → d3 ≡ r0 → ((length d2 ≤ i) ⊎ (length d3 ≤ i) → (s2 ≡ d2) × (r1 ≡ d3)) → length s0 ≤ i
    → (put n s2 (put n s1 s0) ≡ s0) × (put m r1 r0 ≡ r0)
none_put n m i s0 s1 s2 d1 d2 r0 r1 d3 n-is m-is d1-is rest' d2-is d3-is settle' le = (
  written n s2 (put n s1 s0) (n-is ∙ sym (ap length one)) (ap length two ∙ sym (ap length one)) ∙ two,
  written m r1 r0 m-is (ap length last.1) ∙ last.1,
)
  where
    same : s1 ≡ s0
    same = rest' (subst (λ l. length l ≤ i) (sym d1-is) le) ∙ d1-is

    one : put n s1 s0 ≡ s0
    one = written n s1 s0 n-is (ap length same) ∙ same

    last : (s2 ≡ s0) × (r1 ≡ r0)
    last = let is = settle' (inl (subst (λ l. length l ≤ i) (sym (d2-is ∙ one)) le)) in (is.0 ∙ d2-is ∙ one, is.1 ∙ d3-is)

    two : s2 ≡ s0
    two = last.0

-- a list of which one changed is as long as before
changed_length : {A : Type 0} (R : A → A → Type 0) (i : ℕ) (xs ys : List A) → IsChangedAt R i xs ys → length ys ≡ length xs
changed_length R i xs ys c = ap length c.is ∙ length-set xs i c.new

-- what was read
pub heard_numbered : (l l' : ℕ) (buffer buffer' : List ℕ) (reading : Reading) (current : Option ℕ) (s0 s1 : List Seat) (r0 r1 : List Room) → l' ≡ l → IsSameOrEnded current s0 s1 → IsHeard buffer buffer' reading current r0 r1 → AreNumberedUpTo l s0 r0 → AreNumberedUpTo l' s1 r1
heard_numbered l l' buffer buffer' reading current s0 s1 r0 r1 l-is seats rooms (long, low) = subst (λ n. AreNumberedUpTo n s1 r1) (sym l-is) (by seats, all seats)
  where
    rooms-long : (o : Reading) → IsHeard buffer buffer' o current r0 r1 → length r1 ≡ length r0
    rooms-long (read.Got n) (i, batch, is, len, changed) = changed_length (IsHandingOver buffer buffer' batch) i r0 r1 changed
    rooms-long read.Quiet none = absurd none
    rooms-long read.Closed (inl same) = ap length same
    rooms-long read.Closed (inr (i, batch, is, len, changed)) = changed_length (IsHandingOver buffer buffer' batch) i r0 r1 changed
    rooms-long read.Failed none = absurd none

    by : IsSameOrEnded current s0 s1 → length r1 ≡ length s1
    by (inl same) = rooms-long reading rooms ∙ long ∙ sym (ap length same)
    by (inr (i, is, changed)) = rooms-long reading rooms ∙ long ∙ sym (changed_length IsOverNow i s0 s1 changed)

    ended : (i : ℕ) (old new : Seat) → slice_get s0 i ≡ Some old → new.turn ≡ old.turn → IsSamePeer old new → (AreCallsNoted old → AreCallsNoted new) → All (λ t. (t.turn ≤ l) × IsFollowed t) (set s0 i new)
    ended i old new is same peer noted = every l (set s0 i new) (λ k t at. at_place k t at (same_or_not k i))
      where
        at_place : (k : ℕ) (t : Seat) → slice_get (set s0 i new) k ≡ Some t → (k ≡ i) ⊎ (k ≡ i → ⊥) → IsInOrder l t
        at_place k t at (inr other) = one_of l s0 k t low (sym (got_other s0 k i new other) ∙ at)
        at_place k t at (inl e) =
            let t-is : new ≡ t = some_eq new t (sym (got_at s0 i old new is) ∙ sym (ap (λ j. slice_get (set s0 i new) j) e) ∙ at) in
            let was = one_of l s0 i old low is in
            subst (λ x. IsInOrder l x) t-is (omega (arith, same, was.0), followed_same old new peer noted was.1)

    all : IsSameOrEnded current s0 s1 → All (λ t. (t.turn ≤ l) × IsFollowed t) s1
    all (inl same) = subst (λ s. All (λ t. (t.turn ≤ l) × IsFollowed t) s) (sym same) low
    all (inr (i, is, changed)) = subst (λ s. All (λ t. (t.turn ≤ l) × IsFollowed t) s) (sym changed.is) (ended i changed.old changed.new changed.was changed.changed.0.1 changed.changed.0.0 changed.changed.0.2.2)
