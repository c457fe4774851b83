-- What streams tell is still of the connection that is handed over.
use Rattle.std.proofs.Common.{◌≡◌, ◌⊎◌, ◌<◌, ◌≤◌, ℕ, Bool, List, Option, Some, None, true, false, refl, sym, subst, ap, ◌∙◌, ◌++◌, ◌∷◌, [], append_assoc, length, take, drop, set, arith, inl, inr}
use Rattle.std.specs.Prelude.{slice_get}
use Rattle.std.proofs.lemmas.Grind.{get_or-set_at}
use Rattle.std.specs.List.{flat_map}
use Rattle.std.proofs.lemmas.List.{length-set, length-take-le, take-append-drop}
use Rattle.std.proofs.lemmas.Option.{slice_get-get_or, slice_get_within}
use Rattle.outside.specs.Streams.{Piece, Talk, StreamsTold, changed}
use Rattle.outside.specs.declared.streams.Reading.{Reading}
use Rattle.outside.specs.declared.streams.Reading.TheVariants as read
use Rattle.past_log.specs.Streams.{heard}
use Rattle.tcp_frames.specs.Split.{AreWhole, HasNoMessage, IsOverlong, framed}
use Rattle.tcp_frames.specs.declared.batch.Batch.{Batch}
use Rattle.tcp_frames.specs.declared.batch.TheConstants.{MOST_MESSAGES}
use Rattle.edges.specs.Halls.{AreHeardOnce, AreOfOneTalk, IsHeard, IsSameOrEnded, IsTakenFrom, IsTold}
use Rattle.edges.specs.Places.{IsOverNow}
use Rattle.edges.specs.Rooms.{IsChangedAt, IsHandingOver}
use Rattle.edges.specs.declared.room.Room.{Room}
use Rattle.edges.specs.declared.hall.Hall.{Hall}
use Rattle.edges.specs.declared.seat.Seat.{Seat}

-- a length that is too great stands alone at the front
overlong_front : (buffer rest coming : List ℕ) → coming ≡ take 2 buffer ++ rest → 2 ≤ length buffer → IsOverlong coming → IsOverlong (take 2 buffer)
overlong_front [] rest coming is some o = absurd (omega (arith, some))
overlong_front (x ∷ []) rest coming is some o = absurd (omega (arith, some))
overlong_front (x ∷ y ∷ zs) rest coming is some (high, low, behind, front, more) =
    let e : x ∷ y ∷ rest ≡ high ∷ low ∷ behind = sym is ∙ front in
    let one : x ≡ high = cc e in
    let two : y ≡ low = cc e in
    (high, low, [], ap (λ k. k ∷ y ∷ []) one ∙ ap (λ k. high ∷ k ∷ []) two, more)

-- what is to be handed on is a message, or a length that is too great
pub has_batch : (octets : List ℕ) (batch : Batch) → 0 < batch.len → batch.len ≤ length octets → (batch.is_faulty ≡ false → AreWhole MOST_MESSAGES (take batch.len octets)) → (batch.is_faulty ≡ true → (batch.len ≡ 2) × IsOverlong octets) → HasNoMessage octets → IsOverlong octets
has_batch octets batch some within whole faulty none = by batch.is_faulty refl
  where
    by : (b : Bool) → batch.is_faulty ≡ b → IsOverlong octets
    by true is = (faulty is).1
    by false is = first (whole is)
      where
        first : AreWhole MOST_MESSAGES (take batch.len octets) → IsOverlong octets
        first ([], are, short, few) = absurd (omega (arith, some, within, length-take-le batch.len octets within, ap length are))
        first (m ∷ ms, are, short, few) = absurd (none m (flat_map framed ms ++ drop batch.len octets) (short 0 [] (omega arith)) (sym (take-append-drop batch.len octets) ∙ ap (λ l. l ++ drop batch.len octets) are ∙ append_assoc (framed m) (flat_map framed ms) (drop batch.len octets)))

-- of two optional values
pub some_eq : {A : Type 0} (x y : A) → Some x ≡ Some y → x ≡ y
some_eq x y e = cc e

-- what is handed over is of one conversation
of_one : (buffer buffer' : List ℕ) (n : ℕ) (current : Option ℕ) (rooms rooms' : List Room) → IsTakenFrom buffer buffer' n current rooms rooms' → AreOfOneTalk (take n buffer')
of_one buffer buffer' n current rooms rooms' taken = subst (λ (k : ℕ). AreOfOneTalk (take k buffer')) taken.3 (by taken.1.is_faulty refl)
  where
    change : IsHandingOver buffer buffer' taken.1 taken.4.old taken.4.new
    change = taken.4.changed

    by : (b : Bool) → taken.1.is_faulty ≡ b → AreOfOneTalk (take taken.1.len buffer')
    by false is = inl (change.4 is)
    by true is =
        let two = change.5 is in
        inr (subst (λ (k : ℕ). IsOverlong (take k buffer')) (sym two.0) (overlong_front buffer' taken.4.new.coming.items taken.4.old.coming.items (subst (λ (k : ℕ). taken.4.old.coming.items ≡ take k buffer' ++ taken.4.new.coming.items) two.0 change.2) (omega (arith, change.0, change.1, two.0)) two.1))

-- a read
told_heard : (known : ℕ) (buffer buffer' : List ℕ) (reading : Reading) (current : Option ℕ) (is_read is_read' : Bool) (rooms rooms' : List Room) (seats : List Seat) (told : StreamsTold)
    → IsHeard buffer buffer' reading current rooms rooms' → (is_read ≡ true → reading ≡ read.Closed) → (is_read' ≡ true) ⊎ ((is_read' ≡ is_read) × (current ≡ None)) → IsTold current is_read seats told.current → IsTold current is_read' seats (heard known buffer' reading told).current
told_heard known buffer buffer' reading None is_read is_read' rooms rooms' seats told taken once read_is h = tt
told_heard known buffer buffer' reading (Some i) is_read is_read' rooms rooms' seats told taken once (inr r) h = absurd (cc r.1)
told_heard known buffer buffer' (read.Got n) (Some i) true is_read' rooms rooms' seats told taken once (inl is) h = absurd (cc (once refl))
told_heard known buffer buffer' (read.Got n) (Some i) false is_read' rooms rooms' seats told taken once (inl is) h =
    let p : Piece = record { octets = take n buffer'; known = known; place = told.answers } in
    let f : Talk → Talk = λ t. record t { pieces = t.pieces ++ p ∷ [] } in
    (h.0, f h.1, h.2, ap (changed f) h.3, h.4, subst (λ (b : Bool). AreHeardOnce b (f h.1).pieces) (sym is) (inr (p, ap (λ ps. ps ++ p ∷ []) h.5, of_one buffer buffer' n (Some i) rooms rooms' taken)))
told_heard known buffer buffer' read.Quiet (Some i) is_read is_read' rooms rooms' seats told taken once (inl is) h = absurd taken
told_heard known buffer buffer' read.Closed (Some i) is_read is_read' rooms rooms' seats told taken once (inl is) h = (h.0, h.1, h.2, h.3, h.4, subst (λ (b : Bool). AreHeardOnce b h.1.pieces) (sym is) (later is_read h.5))
  where
    later : (b : Bool) → AreHeardOnce b h.1.pieces → AreHeardOnce true h.1.pieces
    later false none = inl none
    later true some = some
told_heard known buffer buffer' read.Failed (Some i) is_read is_read' rooms rooms' seats told taken once (inl is) h = absurd taken

pub got_at : {A : Type 0} (xs : List A) (i : ℕ) (old new : A) → slice_get xs i ≡ Some old → slice_get (set xs i new) i ≡ Some new
got_at xs i old new is =
    let lt = slice_get_within xs i old is in
    slice_get-get_or (set xs i new) i new (omega (arith, lt, length-set xs i new)) ∙ ap Some (get_or-set_at xs i i new new refl lt)

-- the connection that is handed over is the same one
told_same : (current : Option ℕ) (is_read : Bool) (seats seats' : List Seat) (talk : Option Talk) → IsSameOrEnded current seats seats' → IsTold current is_read seats talk → IsTold current is_read seats' talk
told_same current is_read seats seats' talk (inl is) h = subst (λ (l : List Seat). IsTold current is_read l talk) (sym is) h
told_same None is_read seats seats' talk (inr _) h = tt
told_same (Some k) is_read seats seats' talk (inr s) h =
    let c : IsChangedAt IsOverNow s.0 seats seats' = s.2 in
    let at : s.0 ≡ k = some_eq s.0 k (sym s.1) in
    let got : slice_get seats' k ≡ Some c.new = subst (λ (n : ℕ). slice_get seats' n ≡ Some c.new) at (subst (λ (l : List Seat). slice_get l s.0 ≡ Some c.new) (sym c.is) (got_at seats s.0 c.old c.new c.was)) in
    let old : h.0 ≡ c.old = some_eq h.0 c.old (sym h.2 ∙ subst (λ (n : ℕ). slice_get seats n ≡ Some c.old) at c.was) in
    (c.new, h.1, got, h.3, h.4 ∙ ap (λ (s : Seat). s.peer) old ∙ sym c.changed.0.0.1, h.5)

-- what a read leaves
pub after_heard : (known : ℕ) (buffer buffer' : List ℕ) (reading : Reading) (current current' : Option ℕ) (is_read is_read' : Bool) (rooms rooms' : List Room) (seats seats' : List Seat) (told : StreamsTold)
    → IsHeard buffer buffer' reading current rooms rooms' → (is_read ≡ true → reading ≡ read.Closed) → (is_read' ≡ true) ⊎ ((is_read' ≡ is_read) × (current ≡ None)) → current' ≡ current → IsSameOrEnded current seats seats' → (told.is_ended ≡ false) × IsTold current is_read seats told.current → ((heard known buffer' reading told).is_ended ≡ false) × IsTold current' is_read' seats' (heard known buffer' reading told).current
after_heard known buffer buffer' reading current current' is_read is_read' rooms rooms' seats seats' told taken once read_is is same h =
    (still reading, subst (λ (o : Option ℕ). IsTold o is_read' seats' (heard known buffer' reading told).current) (sym is) (told_heard known buffer buffer' reading current is_read is_read' rooms rooms' seats' told taken once read_is (told_same current is_read seats seats' told.current same h.1)))
  where
    still : (r : Reading) → (heard known buffer' r told).is_ended ≡ false
    still (read.Got n) = h.0
    still read.Quiet = h.0
    still read.Closed = h.0
    still read.Failed = h.0

-- where there was something to read, it was read
pub read_or_not : (before after : Hall) → (after.is_read ≡ true) ⊎ ((after ≡ before) × (before.current ≡ None)) → (after.is_read ≡ true) ⊎ ((after.is_read ≡ before.is_read) × (before.current ≡ None))
read_or_not before after (inl is) = inl is
read_or_not before after (inr r) = inr (ap (λ (h : Hall). h.is_read) r.0, r.1)
