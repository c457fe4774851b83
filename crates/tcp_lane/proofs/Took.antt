-- What a take of a stream lane is to the loop.
use Rattle.std.proofs.Common.{◌≡◌, ◌⊎◌, ℕ, ◌+◌, true, false, List, [], ◌∷◌, ◌++◌, map, refl, sym, ap, subst, ◌∙◌, arith, inl, inr}
use Rattle.std.proofs.lemmas.List.Sums.{sum_by-append, sum_by-cons}
use Rattle.std.proofs.lemmas.List.{map-append}
use Rattle.std.proofs.lemmas.List.Elements.{All-append, All-cons, All-nil, All-tail}
use Rattle.addr_text.specs.declared.address.Peer.{Peer}
use Rattle.answer_core.specs.declared.way.Way.TheVariants.{Stream}
use Rattle.outside.specs.Faults.{DeviceState}
use Rattle.outside.specs.Port.{Packet}
use Rattle.outside.specs.Streams.{StreamsTold}
use Rattle.published_map.specs.Version.{Version}
use Rattle.lane_model.specs.Turns.{AreCalm, Fate, Turn, fails_of, failures, is_calm, took, silent, refused, tried}
use Rattle.lane_model.specs.Calls.{Eyes}
use Rattle.lane_model.proofs.Runs.{IsInOrder}
use Rattle.name_workers.specs.declared.ending.Step.{Step}
use Rattle.name_workers.specs.declared.ending.Step.TheVariants as step
use Rattle.name_workers.specs.Loop.{GoesOn, IsTook, alone}
use Rattle.name_workers.proofs.Loop.{order_on}
use Rattle.name_workers.proofs.Messages.{IsBare, bare_turn}
use Rattle.tcp_lane.specs.Turns.{AreWell, StreamCame, IsBroken, IsRuled, Said, StreamTurn, TalkState, lane_came, is_well, lead_of, turn_of, turns_of, idle, ended, missed, come, got, quiet, shut, broke}
use Rattle.tcp_lane.specs.Steps.{IsStepOf, IsTaken, conversations}

-- messages that all went well are calm, and none of them failed
well_by : (d : Packet) (f : Fate) → is_well f ≡ true → (is_calm (took d f) ≡ true) × (fails_of (took d f) ≡ 0)
well_by d silent e = (refl, refl)
well_by d refused e = absurd (cc e)
well_by d (tried serial octets true) e = (refl, refl)
well_by d (tried serial octets false) e = absurd (cc e)

well_is : (peer : Peer) (s : Said) → is_well s.fate ≡ true → (is_calm (turn_of peer s).came ≡ true) × (fails_of (turn_of peer s).came ≡ 0)
well_is peer s e = well_by (record { octets = s.octets; from = peer }) s.fate e

well_calm : (peer : Peer) (said : List Said) → AreWell said → AreCalm (map (turn_of peer) said)
well_calm peer [] w = All-nil (λ (t : Turn). is_calm t.came ≡ true)
well_calm peer (s ∷ said) w = All-cons (λ (t : Turn). is_calm t.came ≡ true) (turn_of peer s) (map (turn_of peer) said) (well_is peer s (w 0 s (omega arith))).0 (well_calm peer said (All-tail (λ (x : Said). is_well x.fate ≡ true) s said w))

well_failures : (peer : Peer) (said : List Said) → AreWell said → failures (map (turn_of peer) said) ≡ 0
well_failures peer [] w = refl
well_failures peer (s ∷ said) w =
    let here = sum_by-cons (λ y. fails_of y.came) (turn_of peer s) (map (turn_of peer) said) in
    here ∙ omega (arith, (well_is peer s (w 0 s (omega arith))).1, well_failures peer said (All-tail (λ (x : Said). is_well x.fate ≡ true) s said w))

-- the last message did not
broken_is : (peer : Peer) (said before : List Said) (s : Said) → said ≡ before ++ s ∷ [] → map (turn_of peer) said ≡ map (turn_of peer) before ++ turn_of peer s ∷ []
broken_is peer said before s is = ap (λ l. map (turn_of peer) l) is ∙ map-append (turn_of peer) before (s ∷ [])

lost_is : (peer : Peer) (s : Said) → ((serial : ℕ) × (octets : List ℕ) × (s.fate ≡ tried serial octets false)) → (is_calm (turn_of peer s).came ≡ true) × (fails_of (turn_of peer s).came ≡ 1)
lost_is peer s e = (
  subst (λ (f : Fate). is_calm (took (record { octets = s.octets; from = peer }) f) ≡ true) (sym e.2) refl,
  subst (λ (f : Fate). fails_of (took (record { octets = s.octets; from = peer }) f) ≡ 1) (sym e.2) refl,
)

lost_calm : (peer : Peer) (said : List Said) → IsBroken (λ f. (serial : ℕ) × (octets : List ℕ) × (f ≡ tried serial octets false)) said → AreCalm (map (turn_of peer) said)
lost_calm peer said b =
    subst AreCalm (sym (broken_is peer said b.0 b.1 b.2)) (All-append (λ (t : Turn). is_calm t.came ≡ true) (map (turn_of peer) b.0) (turn_of peer b.1 ∷ []) (well_calm peer b.0 b.3) (All-cons (λ (t : Turn). is_calm t.came ≡ true) (turn_of peer b.1) [] (lost_is peer b.1 b.4).0 (All-nil (λ (t : Turn). is_calm t.came ≡ true))))

lost_failures : (peer : Peer) (said : List Said) → IsBroken (λ f. (serial : ℕ) × (octets : List ℕ) × (f ≡ tried serial octets false)) said → failures (map (turn_of peer) said) ≡ 1
lost_failures peer said b =
    let last = sum_by-cons (λ (y : Turn). fails_of y.came) (turn_of peer b.1) [] in
    ap failures (broken_is peer said b.0 b.1 b.2) ∙ (sum_by-append (λ (y : Turn). fails_of y.came) (map (turn_of peer) b.0) (turn_of peer b.1 ∷ []) ∙ omega (arith, well_failures peer b.0 b.3, last, (lost_is peer b.1 b.4).1))

-- a turn, by its step
lead_calm : (t : StreamTurn) (said : List Said) → is_calm (lane_came t.came) ≡ true → AreCalm (map (turn_of t.peer) said) → AreCalm (lead_of t ∷ map (turn_of t.peer) said)
lead_calm t said c more = All-cons (λ (y : Turn). is_calm y.came ≡ true) (lead_of t) (map (turn_of t.peer) said) c more

lead_first : (t : StreamTurn) → failures (turns_of t) ≡ fails_of (lane_came t.came) + failures (map (turn_of t.peer) t.said)
lead_first t = sum_by-cons (λ (y : Turn). fails_of y.came) (lead_of t) (map (turn_of t.peer) t.said)

failed_by : (t : StreamTurn) → (AreWell t.said × (fails_of (lane_came t.came) ≡ 1)) ⊎ (IsBroken (λ f. (serial : ℕ) × (octets : List ℕ) × (f ≡ tried serial octets false)) t.said × (fails_of (lane_came t.came) ≡ 0)) → AreCalm (map (turn_of t.peer) t.said) × (failures (turns_of t) ≡ 1)
failed_by t (inl x) = (well_calm t.peer t.said x.0, lead_first t ∙ omega (arith, x.1, well_failures t.peer t.said x.0))
failed_by t (inr x) = (lost_calm t.peer t.said x.0, lead_first t ∙ omega (arith, x.1, lost_failures t.peer t.said x.0))

blind_order : (t : StreamTurn) → IsBroken (λ f. f ≡ refused) t.said → is_calm (lane_came t.came) ≡ true → IsInOrder (turns_of t)
blind_order t b c =
    subst (λ (l : List Turn). IsInOrder (lead_of t ∷ l)) (sym (broken_is t.peer t.said b.0 b.1 b.2)) (order_on (lead_of t ∷ map (turn_of t.peer) b.0) (turn_of t.peer b.1 ∷ []) (lead_calm t b.0 c (well_calm t.peer b.0 b.3)) (λ r. refl, tt))

pub ended_silent : (t : StreamTurn) (l l' : TalkState) → t.came ≡ ended → IsRuled t.came l t l' → t.said ≡ []
ended_silent t l l' is r = (subst (λ (h : StreamCame). IsRuled h l t l') is r).1

end_order : (t : StreamTurn) → t.said ≡ [] → IsInOrder (turns_of t)
end_order t none = subst (λ (l : List Said). IsInOrder (lead_of t ∷ map (turn_of t.peer) l)) (sym none) (λ r. refl, tt)

goes : {S Q : Type 0} (state : S → TalkState) (told : Q → DeviceState StreamsTold) (s : Step) (t : StreamTurn) (l l' : TalkState) → IsRuled t.came l t l' → IsStepOf s t.came t.said → GoesOn (conversations state told) s t
goes state told step.Stopped t l l' r x = x
goes state told step.On t l l' r x = (lead_calm t t.said x.1 (well_calm t.peer t.said x.0), lead_first t ∙ omega (arith, x.2, well_failures t.peer t.said x.0))
goes state told step.PortEnd t l l' r x = (x, end_order t (ended_silent t l l' x r))
goes state told step.PortFailed t l l' r x = let both = failed_by t x.0 in (lead_calm t t.said x.1 both.0, both.1)
goes state told step.Refused t l l' r x = (x.0, blind_order t x.0 x.1)

-- the same rule, behind a gate and notes
ruled_behind : (h : StreamCame) (t : StreamTurn) (shown : ℕ) (notes : List ℕ) (l l' : TalkState) → IsRuled h l t l' → IsRuled h l (record t { shown = shown; notes = notes }) l'
ruled_behind idle t shown notes l l' x = x
ruled_behind ended t shown notes l l' x = x
ruled_behind missed t shown notes l l' x = x
ruled_behind (come peer) t shown notes l l' x = x
ruled_behind (got octets) t shown notes l l' x = (x.0, record { from = x.1.from; rest = x.1.rest; ending = x.1.ending; parts = x.1.parts; short = x.1.short; over = x.1.over; closes = x.1.closes; known = x.1.known; left = x.1.left })
ruled_behind quiet t shown notes l l' x = x
ruled_behind shut t shown notes l l' x = x
ruled_behind broke t shown notes l l' x = x

-- an answer of accept or read brings no message itself
lead_bare : (h : StreamCame) → IsBare (lane_came h)
lead_bare idle = tt
lead_bare ended = tt
lead_bare missed = tt
lead_bare (come peer) = tt
lead_bare (got octets) = tt
lead_bare quiet = tt
lead_bare shut = tt
lead_bare broke = tt

pub took_by : {S Q : Type 0} (state : S → TalkState) (told : Q → DeviceState StreamsTold) (w n n' : ℕ) (s : Step) (e f : Eyes Version) (r r' : S) (x y : Q) → IsTaken w n n' (state r) (state r') s e f (told x) (told y)
    → IsTook (conversations state told) w s (record { room = r; port = x; eyes = e; count = n }) (record { room = r'; port = y; eyes = f; count = n' })
took_by state told w n n' s e f r r' x y q = record {
  known = q.t.known;
  came = lane_came q.t.came;
  more = map (turn_of q.t.peer) q.t.said;
  session = (alone e n q.middle, bare_turn Stream w q.t.known (lane_came q.t.came) e n (told x).faults q.middle (lead_bare q.t.came) q.known_is q.faults q.stays, q.session);
  take = λ shown notes.
      let t : StreamTurn = record q.t { shown = shown; notes = notes } in
      let ruled = ruled_behind q.t.came q.t shown notes (state r) (state r') q.ruled in
      (t, refl, refl, (q.told, ruled), goes state told s t (state r) (state r') ruled q.step);
}
