-- Datagrams, as what a lane takes.
use Rattle.std.proofs.Common.{◌≡◌, ℕ, ◌+◌, ◌<◌, ◌≤◌, true, false, List, [], ◌∷◌, length, map, fold, take, Option, refl, sym, ap, subst, ◌∙◌, arith}
use Rattle.std.specs.List.{flat_map}
use Rattle.std.proofs.lemmas.List.Elements.{All-cons, All-nil}
use Rattle.std.proofs.lemmas.List.Sums.{sum_by-cons, sum_by_push}
use Rattle.addr_text.specs.declared.address.Peer.{Peer}
use Rattle.answer_core.specs.declared.way.Way.TheVariants.{Datagram}
use Rattle.outside.specs.Faults.{BothTell, DeviceState, raised}
use Rattle.outside.specs.Port.{IsRecv, Packet, PortTold, packet_in, received, taking, trying}
use Rattle.outside.specs.declared.port.Arrival.{Arrival}
use Rattle.outside.specs.declared.port.Arrival.TheVariants.{Arrived}
use Rattle.published_map.specs.Version.{Version}
use Rattle.lane_model.specs.declared.ended.Ended.{Ended}
use Rattle.lane_model.specs.declared.ended.Ended.TheVariants as end
use Rattle.lane_model.specs.Lanes.{following}
use Rattle.lane_model.specs.Turns.{AreCalm, Came, Fate, Turn, fails_of, failures, is_calm, is_refused, notes_turn, port_after, port_turn, idle, oversize, ended, failed, took, silent, refused, tried}
use Rattle.lane_model.specs.Calls.{AreTurns, Eyes, IsEnd, IsGateRun, IsLaneCall, IsLaneLog, Moment}
use Rattle.lane_model.specs.Replies.{replies}
use Rattle.lane_model.proofs.Runs.{tells_on}
use Rattle.name_workers.specs.declared.fared.Fared.{Fared}
use Rattle.name_workers.specs.declared.fared.Fared.TheVariants as fared
use Rattle.name_workers.specs.declared.ending.Step.{Step}
use Rattle.name_workers.specs.declared.ending.Step.TheVariants as step
use Rattle.name_workers.specs.Loop.{AreLoopTurns, GoesOn, IsLoopCall, IsLoopEnd, IsTook, LoopMoment, alone, alone_at}
use Rattle.name_workers.specs.Messages.{IsFared, IsFateBy, IsPut, said, step_of_fared}
use Rattle.name_workers.specs.Ports.{datagrams, puts_to}
use Rattle.name_workers.proofs.Called.{tells_as, told_after}
use Rattle.name_workers.proofs.Messages.{IsBare, bare_turn, message}

-- how a lane goes on behind a datagram, and behind any answer of its port
abbrev step_of_fate : Fate → Step
step_of_fate silent = step.On
step_of_fate refused = step.Refused
step_of_fate (tried serial octets true) = step.On
step_of_fate (tried serial octets false) = step.PortFailed

abbrev pub step_of : Came → Step
step_of idle = step.On
step_of oversize = step.On
step_of ended = step.PortEnd
step_of failed = step.PortFailed
step_of (took d fate) = step_of_fate fate

one_calm : (t : Turn) (came : Came) → t.came ≡ came → is_calm came ≡ true → AreCalm (t ∷ [])
one_calm t came e c = All-cons (λ (x : Turn). is_calm x.came ≡ true) t [] (ap is_calm e ∙ c) (All-nil (λ (x : Turn). is_calm x.came ≡ true))

one_fails : (t : Turn) (came : Came) → t.came ≡ came → failures (t ∷ []) ≡ fails_of came
one_fails t came e = let sum = sum_by-cons (λ (x : Turn). fails_of x.came) t [] in omega (arith, sum, ap fails_of e)

goes : (S : Type 0) {P : Type 0} (told : P → DeviceState PortTold) (t : Turn) (came : Came) → t.came ≡ came → GoesOn (datagrams {S = S} {P = P} told) (step_of came) t
goes S told t idle e = (one_calm t idle e refl, one_fails t idle e)
goes S told t oversize e = (one_calm t oversize e refl, one_fails t oversize e)
goes S told t ended e = (e, (λ r. refl, tt))
goes S told t failed e = (one_calm t failed e refl, one_fails t failed e)
goes S told t (took d silent) e = (one_calm t (took d silent) e refl, one_fails t (took d silent) e)
goes S told t (took d refused) e = (ap is_refused e, (λ r. refl, tt))
goes S told t (took d (tried serial octets true)) e = (one_calm t (took d (tried serial octets true)) e refl, one_fails t (took d (tried serial octets true)) e)
goes S told t (took d (tried serial octets false)) e = (one_calm t (took d (tried serial octets false)) e refl, one_fails t (took d (tried serial octets false)) e)

-- an answer without a datagram
pub took_bare : {S P : Type 0} (told : P → DeviceState PortTold) (w known n : ℕ) (buffer : List ℕ) (a : Arrival) (came : Came) (e : Eyes Version) (r r' : S) (x y : P) → IsBare came → ((b : PortTold) → received known buffer a b ≡ port_after known came b) → known + 1 ≡ length e.heard
    → BothTell (told x).past (told y).past (IsRecv known buffer a) → raised (told x).faults (fails_of came) ≤ (told y).faults → (fails_of came ≡ 0 → (told y).faults ≡ (told x).faults)
    → IsTook (datagrams told) w (step_of came) (record { room = r; port = x; eyes = e; count = n }) (record { room = r'; port = y; eyes = e; count = n })
took_bare {S = S} told w known n buffer a came e r r' x y bare same is recv faults stays = record {
  known = known;
  came = came;
  more = [];
  session = (alone e n (told y).faults, bare_turn Datagram w known came e n (told x).faults (told y).faults bare is faults stays, refl);
  take = λ shown notes.
      let t : Turn = record { shown = shown; notes = notes; known = known; came = came } in
      (t, refl, refl, tells_as (IsRecv known buffer a) (λ b c. c ≡ port_after known came b) (told x).past (told y).past (λ b c i. i.port ∙ same b) recv, goes S told t came refl);
}

-- a port behind a datagram and what became of it
put_on : (known : ℕ) (d : Packet) (fate : Fate) (x y z : Option PortTold) → BothTell x y (λ b c. c ≡ taking d known b) → IsPut (puts_to d.from) fate y z → BothTell x z (λ b c. c ≡ port_after known (took d fate) b)
put_on known d silent x y z r q = subst (λ k. BothTell x k (λ b c. c ≡ taking d known b)) (sym q) r
put_on known d refused x y z r q = subst (λ k. BothTell x k (λ b c. c ≡ taking d known b)) (sym q) r
put_on known d (tried serial reply went) x y z r q =
    tells_on x y z (λ b c. c ≡ taking d known b) (puts_to d.from serial reply went) (λ b c. c ≡ port_after known (took d (tried serial reply went)) b) (λ b c k u v. v ∙ ap (trying (record { octets = reply; to = d.from; serial = serial; went = went })) u) r q

step_same : (r : Fared) (d : Packet) (fate : Fate) → IsFateBy r fate → step_of (took d fate) ≡ step_of_fared r
step_same fared.Silent d fate e = ap step_of_fate e
step_same fared.Refused d fate e = ap step_of_fate e
step_same fared.Sent d fate e = ap step_of_fate e.2
step_same fared.Failed d fate e = ap step_of_fate e.2

-- a datagram that arrived, and what became of it
pub took_message : {S P : Type 0} (told : P → DeviceState PortTold) (w n n' known len : ℕ) (buffer : List ℕ) (from : Peer) (r : Fared) (s : Step) (e f : Eyes Version) (room room' : S) (x y z : P) → known + 1 ≡ length e.heard
    → BothTell (told x).past (told y).past (IsRecv known buffer (Arrived len from)) → (told y).faults ≡ (told x).faults → IsFared (puts_to from) Datagram w n from.addr (take len buffer) r e f (told y) (told z) → n' ≡ following n → s ≡ step_of_fared r
    → IsTook (datagrams told) w s (record { room = room; port = x; eyes = e; count = n }) (record { room = room'; port = z; eyes = f; count = n' })
took_message {S = S} told w n n' known len buffer from r s e f room room' x y z is recv same by count at =
    let one = message (puts_to from) Datagram w n n' known from (take len buffer) r e f (told y) (told z) is count by in
    let d = packet_in buffer len from in
    record {
      known = known;
      came = took d one.fate;
      more = [];
      session = subst (λ (k : ℕ). AreTurns replies w (said from (take len buffer) known one.fate ∷ []) (alone e n k) (alone f n' (told z).faults)) same (alone f n' (told z).faults, one.turn, refl);
      take = λ shown notes.
          let t : Turn = record { shown = shown; notes = notes; known = known; came = took d one.fate } in (
            t,
            refl,
            refl,
            put_on known d one.fate (told x).past (told y).past (told z).past (tells_as (IsRecv known buffer (Arrived len from)) (λ b c. c ≡ taking d known b) (told x).past (told y).past (λ b c i. i.port) recv) one.put,
            subst (λ (k : Step). GoesOn (datagrams {S = S} told) k t) (step_same r d one.fate one.fate_is ∙ sym at) (goes S told t (took d one.fate) refl),
          );
    }

-- each take is one turn
single : (log : List Turn) → flat_map (λ t. t ∷ []) log ≡ log
single [] = refl
single (t ∷ log) = ap (λ l. t ∷ l) (single log)

map_self : (log : List Turn) → map (λ t. t) log ≡ log
map_self [] = refl
map_self (t ∷ log) = ap (λ l. t ∷ l) (map_self log)

port_by : {S P : Type 0} (told : P → DeviceState PortTold) (w : ℕ) (log : List Turn) (m m' : LoopMoment S P) → AreLoopTurns (datagrams told) w log m m' → BothTell (told m.here.port).past (told m'.here.port).past (λ b c. c ≡ fold port_turn b log)
port_by told w log m m' s = told_after (datagrams told) w (λ x. (told x.here.port).past) port_turn (λ b l. fold port_turn b l) (λ b. refl) (λ b t l. refl) (λ t x y q. q.does) log m m' s

end_by : (S : Type 0) {P : Type 0} (told : P → DeviceState PortTold) (turns : ℕ) (log : List Turn) (e : Ended) → IsLoopEnd (datagrams {S = S} {P = P} told) turns log e → IsEnd turns log e
end_by S told turns log end.Stopped x = (subst AreCalm (single log) x.0, subst (λ l. failures l < 8) (single log) x.1, x.2)
end_by S told turns log end.PortEnd x = (x.0, x.1, x.2, subst AreCalm (single x.0) x.3, subst (λ l. failures l < 8) (single x.0) x.4, x.5, x.6)
end_by S told turns log end.PortFault x =
    let seven : failures x.0 ≡ 7 = ap failures (sym (single x.0)) ∙ x.4 in
    let eight : failures log ≡ 8 = ap failures (sym (single log)) ∙ x.5 in
    let sum : failures log ≡ failures x.0 + fails_of x.1.came = ap failures x.2 ∙ sum_by_push (λ (t : Turn). fails_of t.came) x.0 x.1 in
    (x.0, x.1, x.2, subst AreCalm (single log) x.3, seven, omega (arith, seven, eight, sum), x.6)
end_by S told turns log end.CellFault x = (x.0, x.1, x.2, subst AreCalm (single x.0) x.3, subst (λ l. failures l < 8) (single x.0) x.4, x.5, x.6)
end_by S told turns log (end.Above known newest) x = x
end_by S told turns log end.Spent x = (subst AreCalm (single log) x.0, subst (λ l. failures l < 8) (single log) x.1, x.2)

abbrev whole : {S P : Type 0} → (P → DeviceState PortTold) → LoopMoment S P → Moment Version
whole told m = record { port = (told m.here.port).past; gate = m.gate; notes = m.notes; eyes = m.here.eyes; count = m.here.count; port_faults = (told m.here.port).faults; gate_faults = m.gate_faults }

-- a call of the loop is a call of a lane
pub lane_call : {S P : Type 0} (told : P → DeviceState PortTold) (w turns : ℕ) (m m' : LoopMoment S P) (e : Ended) → IsLoopCall (datagrams told) w turns m m' e → IsLaneCall replies w turns (whole told m) (whole told m') e
lane_call {S = S} told w turns m m' e c =
    let x = subst (λ (l : List Turn). IsLaneLog replies w l (alone_at (datagrams told) m.here) (alone_at (datagrams told) m'.here)) (single c.log) c.all in
    record {
      log = c.log;
      shown = c.shown;
      shown_is = c.shown_is;
      all = record {
        run = x.run;
        told = x.told;
        port = subst (λ k. BothTell (told m.here.port).past (told k.port).past (λ b d. d ≡ fold port_turn b c.log)) (sym c.here) (port_by told w c.log m c.mid c.made);
        notes = subst (λ (l : List Turn). BothTell m.notes m'.notes (λ b d. d ≡ fold notes_turn b l)) (map_self c.log) c.notes;
        rise = x.rise;
        known = x.known;
        within = x.within;
        looks = x.looks;
        port_faults = x.port_faults;
        port_stays = x.port_stays;
        refusal = x.refusal;
        stays = x.stays;
        fates = x.fates;
        count = x.count;
      };
      gate = subst (λ (l : List Turn). BothTell m.gate m'.gate (IsGateRun c.shown l e)) (map_self c.log) c.gate;
      ending = end_by S told turns c.log e c.ending;
    }
