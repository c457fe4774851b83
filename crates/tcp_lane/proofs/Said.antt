-- Messages that are taken, one after another.
use Rattle.std.proofs.Common.{◌≡◌, ℕ, ◌+◌, ◌-◌, ◌<◌, ◌≤◌, true, false, List, [], ◌∷◌, ◌++◌, length, map, fold, take, Option, None, Some, refl, sym, ap, subst, ◌∙◌, arith, append_assoc, append-nil}
use Rattle.std.proofs.lemmas.List.{map-append}
use Rattle.std.proofs.lemmas.List.Elements.{All-push}
use Rattle.std.proofs.lemmas.List.Sums.{fold-append}
use Rattle.std.proofs.lemmas.Grind.{flat_map-append}
use Rattle.std.specs.List.{flat_map}
use Rattle.addr_text.specs.declared.address.Peer.{Peer}
use Rattle.outside.specs.Faults.{BothTell, DeviceState}
use Rattle.outside.specs.Limits.{largest_datagram}
use Rattle.outside.specs.Streams.{StreamsTold, failing, writing}
use Rattle.published_map.specs.Version.{Version}
use Rattle.answer_core.specs.declared.way.Way.TheVariants.{Stream}
use Rattle.lane_model.specs.Lanes.{following}
use Rattle.lane_model.specs.Turns.{Fate, Turn, silent, refused, tried}
use Rattle.lane_model.specs.Calls.{Eyes, AreTurns, IsTurn}
use Rattle.tcp_lane.specs.Replies.{stream_replies}
use Rattle.lane_model.proofs.Going.{one_more}
use Rattle.lane_model.proofs.Prefixes.{prefix_length}
use Rattle.lane_model.proofs.Runs.{turns_rises, tells_on}
use Rattle.name_workers.specs.Messages.{IsFared, IsFateBy, IsPut, known_after}
use Rattle.name_workers.specs.declared.fared.Fared.{Fared}
use Rattle.name_workers.specs.declared.fared.Fared.TheVariants as fared
use Rattle.name_workers.proofs.Messages.{message}
use Rattle.tcp_frames.specs.Split.{IsUnfinished, framed}
use Rattle.tcp_lane.specs.Turns.{AreKnown, AreWell, Said, is_well, known_behind, put_for, saying, turn_of}
use Rattle.tcp_lane.proofs.Known.{behind_more, known_more}
use Rattle.tcp_lane.specs.Calls.{inner}
use Rattle.tcp_lane.specs.Steps.{AreSaid, AreSoFar, IsAnswered, IsAnsweredBy, is_on, writes}

tells_itself : {A : Type 0} (x : Option A) → BothTell x x (λ b c. c ≡ b)
tells_itself None = tt
tells_itself (Some b) = refl

-- a number that is told of within is one that is told of by
pub tells_out : {A : Type 0} (R : ℕ → A → A → Type 0) (x y : Option A) → BothTell x y (λ b c. (k : ℕ) × R k b c) → (k : ℕ) × BothTell x y (R k)
tells_out R None None r = (0, tt)
tells_out R None (Some c) r = absurd r
tells_out R (Some b) None r = absurd r
tells_out R (Some b) (Some c) r = (r.0, r.1)

-- streams behind a message
put_told : (fate : Fate) (x y : Option StreamsTold) → is_well fate ≡ true → IsPut writes fate x y → (cut : ℕ) → BothTell x y (λ b c. c ≡ put_for cut b fate)
put_told silent x y well put cut = subst (λ k. BothTell x k (λ b c. c ≡ b)) (sym put) (tells_itself x)
put_told refused x y well put cut = absurd (cc well)
put_told (tried serial reply true) x y well put cut = put
put_told (tried serial reply false) x y well put cut = absurd (cc well)

put_cut : (fate : Fate) (x y : Option StreamsTold) → IsPut writes fate x y → (cut : ℕ) × BothTell x y (λ b c. c ≡ put_for cut b fate)
put_cut silent x y put = (0, subst (λ k. BothTell x k (λ b c. c ≡ b)) (sym put) (tells_itself x))
put_cut refused x y put = (0, subst (λ k. BothTell x k (λ b c. c ≡ b)) (sym put) (tells_itself x))
put_cut (tried serial reply true) x y put = (0, put)
put_cut (tried serial reply false) x y put = tells_out (λ k b c. c ≡ failing (writing serial (take k (framed reply)) b)) x y put

-- whether the lane goes on behind it
well_by : (r : Fared) (fate : Fate) → is_on r ≡ true → IsFateBy r fate → is_well fate ≡ true
well_by fared.Silent fate on e = ap is_well e
well_by fared.Sent fate on e = ap is_well e.2
well_by fared.Failed fate on e = absurd (cc on)
well_by fared.Refused fate on e = absurd (cc on)

over_by : (r : Fared) (before : List Said) (s : Said) (rest : List ℕ) → is_on r ≡ false → IsFateBy r s.fate → AreWell before → IsAnsweredBy r (before ++ s ∷ []) rest
over_by fared.Silent before s rest off e well = absurd (cc off)
over_by fared.Sent before s rest off e well = absurd (cc off)
over_by fared.Failed before s rest off e well = (before, s, refl, well, e)
over_by fared.Refused before s rest off e well = (before, s, refl, well, e)

pub so_far_none : (w n : ℕ) (peer : Peer) (octets : List ℕ) (e : Eyes Version) (p : DeviceState StreamsTold) → AreSoFar w n n peer octets octets e e p p
so_far_none w n peer octets e p = record { said = []; are_said = λ cut. record { session = refl; told = tells_itself p.past; known = λ k is. (tt, is) }; parts = refl; short = λ k d lt. absurd (omega (arith, lt)); well = λ k d lt. absurd (omega (arith, lt)) }

-- what is known along one message more
known_on : (k : ℕ) (said : List Said) (s : Said) (before after : ℕ) → AreKnown k said × (known_behind k said + 1 ≡ before) → s.known + 1 ≡ before → known_after s.known s.fate + 1 ≡ after → AreKnown k (said ++ s ∷ []) × (known_behind k (said ++ s ∷ []) + 1 ≡ after)
known_on k said s before after a is behind =
    let same : s.known ≡ known_behind k said = omega (arith, a.1, is) in (
      known_more k said s a.0 same,
      ap (λ x. x + 1) (behind_more k said s ∙ ap (λ x. known_after x s.fate) (sym same)) ∙ behind,
    )

-- one message more
said_more : (w n n1 n2 : ℕ) (peer : Peer) (said : List Said) (cut : ℕ) (s : Said) (e f g : Eyes Version) (p q r : DeviceState StreamsTold) → AreSaid w n n1 peer said cut e f p q → IsTurn stream_replies w (turn_of peer s) (inner f n1 q.faults) (inner g n2 r.faults)
    → BothTell q.past r.past (λ b c. c ≡ saying cut b s) → s.known + 1 ≡ length f.heard → known_after s.known s.fate + 1 ≡ length g.heard → AreSaid w n n2 peer (said ++ s ∷ []) cut e g p r
said_more w n n1 n2 peer said cut s e f g p q r are turn told is behind = record {
  session = subst (λ (log : List Turn). AreTurns stream_replies w log (inner e n p.faults) (inner g n2 r.faults)) (sym (map-append (turn_of peer) said (s ∷ [])))
      (one_more stream_replies w (map (turn_of peer) said) (turn_of peer s) (inner e n p.faults) (inner f n1 q.faults) (inner g n2 r.faults) are.session turn);
  told = tells_on p.past q.past r.past (λ b c. c ≡ fold (saying cut) b said) (λ b c. c ≡ saying cut b s) (λ b c. c ≡ fold (saying cut) b (said ++ s ∷ []))
      (λ b c d u v. v ∙ (ap (λ k. saying cut k s) u ∙ sym (fold-append (saying cut) b said (s ∷ [])))) are.told told;
  known = λ k first. known_on k said s (length f.heard) (length g.heard) (are.known k first) is behind;
}

parts_more : (octets rest behind : List ℕ) (said : List Said) (s : Said) → octets ≡ flat_map (λ x. framed x.octets) said ++ rest → rest ≡ framed s.octets ++ behind → octets ≡ flat_map (λ x. framed x.octets) (said ++ s ∷ []) ++ behind
parts_more octets rest behind said s p q =
    p ∙ (ap (λ l. flat_map (λ x. framed x.octets) said ++ l) q
    ∙ (sym (append_assoc (flat_map (λ x. framed x.octets) said) (framed s.octets) behind)
    ∙ ap (λ l. l ++ behind) (ap (λ l. flat_map (λ x. framed x.octets) said ++ l) (sym (append-nil (framed s.octets))) ∙ sym (flat_map-append (λ x. framed x.octets) said (s ∷ [])))))

still_some : (w n n1 : ℕ) (peer : Peer) (octets rest : List ℕ) (e f : Eyes Version) (p q : DeviceState StreamsTold) → 0 < length e.heard → AreSoFar w n n1 peer octets rest e f p q → length f.heard - 1 + 1 ≡ length f.heard
still_some w n n1 peer octets rest e f p q some so =
    let rise = turns_rises stream_replies w (map (turn_of peer) so.said) (inner e n p.faults) (inner f n1 q.faults) (so.are_said 0).session in
    let le = prefix_length e.heard f.heard rise.heard in
    omega (arith, some, le)

-- the lane goes on with the conversation
pub so_far_more : (w w' n n1 n2 : ℕ) (peer : Peer) (octets rest behind m : List ℕ) (r : Fared) (e f g : Eyes Version) (p q v : DeviceState StreamsTold) → 0 < length e.heard → w' ≡ w → n2 ≡ following n1 → AreSoFar w n n1 peer octets rest e f p q
    → rest ≡ framed m ++ behind → length m ≤ largest_datagram → IsFared writes Stream w' n1 peer.addr m r f g q v → is_on r ≡ true → AreSoFar w n n2 peer octets behind e g p v
so_far_more w w' n n1 n2 peer octets rest behind m r e f g p q v some same count so parts short x on =
    let now = still_some w n n1 peer octets rest e f p q some so in
    let one = message writes Stream w n1 n2 (length f.heard - 1) peer m r f g q v now count (subst (λ (k : ℕ). IsFared writes Stream k n1 peer.addr m r f g q v) same x) in
    let s : Said = record { octets = m; known = length f.heard - 1; fate = one.fate } in
    let well = well_by r one.fate on one.fate_is in
    record {
      said = so.said ++ s ∷ [];
      are_said = λ cut. said_more w n n1 n2 peer so.said cut s e f g p q v (so.are_said cut) one.turn (put_told one.fate q.past v.past well one.put cut) now one.behind;
      parts = parts_more octets rest behind so.said s so.parts parts;
      short = All-push (λ (y : Said). length y.octets ≤ largest_datagram) so.said s so.short short;
      well = All-push (λ (y : Said). is_well y.fate ≡ true) so.said s so.well well;
    }

-- it doesn't
pub answered_over : (w w' n n1 n2 : ℕ) (peer : Peer) (octets rest behind m : List ℕ) (r : Fared) (e f g : Eyes Version) (p q v : DeviceState StreamsTold) → 0 < length e.heard → w' ≡ w → n2 ≡ following n1 → AreSoFar w n n1 peer octets rest e f p q
    → rest ≡ framed m ++ behind → length m ≤ largest_datagram → IsFared writes Stream w' n1 peer.addr m r f g q v → is_on r ≡ false → IsAnswered w n n2 peer octets behind r e g p v
answered_over w w' n n1 n2 peer octets rest behind m r e f g p q v some same count so parts short x off =
    let now = still_some w n n1 peer octets rest e f p q some so in
    let one = message writes Stream w n1 n2 (length f.heard - 1) peer m r f g q v now count (subst (λ (k : ℕ). IsFared writes Stream k n1 peer.addr m r f g q v) same x) in
    let s : Said = record { octets = m; known = length f.heard - 1; fate = one.fate } in
    let put = put_cut one.fate q.past v.past one.put in
    record {
      first = length e.heard - 1;
      first_is = omega (arith, some);
      said = so.said ++ s ∷ [];
      cut = put.0;
      are_said = said_more w n n1 n2 peer so.said put.0 s e f g p q v (so.are_said put.0) one.turn put.1 now one.behind;
      parts = parts_more octets rest behind so.said s so.parts parts;
      short = All-push (λ (y : Said). length y.octets ≤ largest_datagram) so.said s so.short short;
      by = over_by r so.said s behind off one.fate_is so.well;
    }

-- no whole message is left
pub answered_all : (w n n1 : ℕ) (peer : Peer) (octets rest : List ℕ) (e f : Eyes Version) (p q : DeviceState StreamsTold) → 0 < length e.heard → AreSoFar w n n1 peer octets rest e f p q → IsUnfinished rest → IsAnswered w n n1 peer octets rest fared.Silent e f p q
answered_all w n n1 peer octets rest e f p q some so none = record { first = length e.heard - 1; first_is = omega (arith, some); said = so.said; cut = 0; are_said = so.are_said 0; parts = so.parts; short = so.short; by = (so.well, none) }
