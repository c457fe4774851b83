-- What ends of stream lanes say, and stream runs over longer histories: for the crates above.
use Rattle.std.proofs.Common.{◌≡◌, ℕ, suc, ◌+◌, ◌<◌, Bool, true, false, List, [], ◌∷◌, ◌++◌, All, length, map, fold, refl, sym, ap, subst, ◌∙◌, arith, append_assoc, append-nil}
use Rattle.std.specs.Prelude.{sum_by}
use Rattle.std.specs.List.{flat_map}
use Rattle.std.proofs.lemmas.Grind.{flat_map-append}
use Rattle.std.proofs.lemmas.List.{map-append}
use Rattle.std.proofs.lemmas.List.Elements.{All-tail, All-weaker}
use Rattle.std.proofs.lemmas.List.Sums.{sum_by-append, sum_by-cons, sum_by_push}
use mathlib.Core.List.{IsPrefix}
use Rattle.outside.specs.Port.{Packet, Try}
use Rattle.addr_text.specs.declared.address.Peer.{Peer}
use Rattle.outside.specs.Faults.{raised}
use Rattle.outside.specs.Streams.{StreamsTold, Talk}
use Rattle.lane_model.specs.declared.ended.Ended.{Ended}
use Rattle.lane_model.specs.declared.ended.Ended.TheVariants as end
use Rattle.lane_model.specs.Lanes.{Answers, Entry}
use Rattle.lane_model.specs.Turns.{AreCalm, Fate, Turn, is_calm, is_refused, refused, refused_of, silent, took, tried}
use Rattle.lane_model.proofs.Runs.{run_longer}
use Rattle.tcp_lane.specs.Calls.{AreRuled, IsStreamEnd, stream_failures, stream_refusals}
use Rattle.tcp_lane.specs.Stream.{IsStreamRun}
use Rattle.tcp_lane.specs.Turns.{IsRuled, Said, StreamCame, StreamTurn, TalkState, closing_if, lane_of, lead_of, put_for, saying, stream_after, stream_turn, turn_of, turns_of, idle, ended, missed, come, got, quiet, shut, broke}
use Rattle.lane_model.proofs.Calls.{calm_not_refused}
use Rattle.name_workers.proofs.Loop.{turns_more}
use Rattle.tcp_lane.proofs.Whole.{misses_in, turn_missed}
use Rattle.tcp_lane.proofs.Took.{ended_silent}

one_refused : (d : Packet) (f : Fate) → f ≡ refused → refused_of (took d f) ≡ 1
one_refused d f is = subst (λ (k : Fate). refused_of (took d k) ≡ 1) (sym is) refl

-- a lane that a refused look ended met one
pub refused_last : (turns : ℕ) (log : List StreamTurn) → IsStreamEnd turns log end.CellFault → 0 < stream_refusals log
refused_last turns log is =
    let t = is.1 in
    let b = is.5 in
    let front = lane_of is.0 ++ (lead_of t ∷ map (turn_of t.peer) b.0) in
    let last = turn_of t.peer b.1 in
    let all : lane_of log ≡ front ++ last ∷ [] =
    (ap lane_of is.2 ∙ turns_more turns_of is.0 t) ∙ (ap (λ l. lane_of is.0 ++ (lead_of t ∷ l)) (ap (λ l. map (turn_of t.peer) l) b.2 ∙ map-append (turn_of t.peer) b.0 (b.1 ∷ [])) ∙ sym (append_assoc (lane_of is.0) (lead_of t ∷ map (turn_of t.peer) b.0) (last ∷ []))) in
    let count : sum_by (λ (x : Turn). refused_of x.came) (lane_of log) ≡ sum_by (λ (x : Turn). refused_of x.came) front + refused_of last.came = ap (sum_by (λ (x : Turn). refused_of x.came)) all ∙ sum_by_push (λ (x : Turn). refused_of x.came) front last in
    omega (arith, count, one_refused (record { octets = b.1.octets; from = t.peer }) b.1.fate b.4)

calm_free : (log : List Turn) → AreCalm log → All (λ t. is_refused t.came ≡ false) log
calm_free log c = All-weaker (λ (t : Turn). is_calm t.came ≡ true) (λ (t : Turn). is_refused t.came ≡ false) (λ t. calm_not_refused t.came) log c

free_count : (log : List Turn) → All (λ t. is_refused t.came ≡ false) log → sum_by (λ t. refused_of t.came) log ≡ 0
free_count [] free = refl
free_count (t ∷ log) free =
    let count = sum_by-cons (λ (x : Turn). refused_of x.came) t log in
    let one : refused_of t.came ≡ 0 = rw (free 0 t (omega arith)) refl in
    let rest = free_count log (All-tail (λ (x : Turn). is_refused x.came ≡ false) t log free) in
    omega (arith, count, one, rest)

-- the last of some turns has a rule
ruled_last : (before : List StreamTurn) (t : StreamTurn) (l l' : TalkState) → AreRuled l (before ++ t ∷ []) l' → (k : TalkState) × (k' : TalkState) × IsRuled t.came k t k'
ruled_last [] t l l' r = (l, r.0, r.1)
ruled_last (x ∷ before) t l l' r = ruled_last before t r.0 l' r.2

-- a lane that no refused look ended met none
pub none_refused : (turns : ℕ) (log : List StreamTurn) (l l' : TalkState) (e : Ended) → AreRuled l log l' → IsStreamEnd turns log e → (e ≡ end.CellFault → ⊥) → stream_refusals log ≡ 0
none_refused turns log l l' end.Stopped r is other = free_count (lane_of log) (calm_free (lane_of log) is.0)
none_refused turns log l l' end.PortFault r is other = free_count (lane_of log) (calm_free (lane_of log) is.3)
none_refused turns log l l' end.Spent r is other = free_count (lane_of log) (calm_free (lane_of log) is.0)
none_refused turns log l l' end.CellFault r is other = absurd (other refl)
none_refused turns log l l' (end.Above known newest) r is other = absurd is
none_refused turns log l l' end.PortEnd r is other =
    let t = is.1 in
    let last = ruled_last is.0 t l l' (subst (λ (x : List StreamTurn). AreRuled l x l') is.2 r) in
    let none : misses_in t.peer t.said ≡ 0 = ap (misses_in t.peer) (ended_silent t last.0 last.1 is.5 last.2) in
    let count = ap (sum_by (λ (x : Turn). refused_of x.came)) (ap lane_of is.2 ∙ turns_more turns_of is.0 t) ∙ sum_by-append (λ (x : Turn). refused_of x.came) (lane_of is.0) (turns_of t) in
    let before = free_count (lane_of is.0) (calm_free (lane_of is.0) is.3) in
    omega (arith, count, before, turn_missed t, none)

-- a lane that a failed call ended met eight of them
pub failed_last : (turns : ℕ) (log : List StreamTurn) → IsStreamEnd turns log end.PortFault → stream_failures log ≡ 8
failed_last turns log is = is.5

-- a stream run over a history is one over each history that begins with it
pub stream_run_longer : {V : Type 0} (a : Answers V) (h h' : List V) (w n floor refusals : ℕ) (talks : List Talk) (taken : List Entry) (tries : List Try) → IsPrefix h h' → IsStreamRun a h w n floor refusals talks taken tries → IsStreamRun a h' w n floor refusals talks taken tries
stream_run_longer a h h' w n floor refusals talks taken tries p r = record {
  conversations = r.conversations;
  talks_are = r.talks_are;
  taken_are = r.taken_are;
  tries_are = r.tries_are;
  each = r.each;
  blinds = r.blinds;
  run = run_longer a h h' w n floor taken tries p r.run;
}

-- the notes of a lane's turns are those of its leads
turns_notes : (peer : Peer) (said : List Said) → flat_map (λ (t : Turn). t.notes) (map (turn_of peer) said) ≡ []
turns_notes peer [] = refl
turns_notes peer (s ∷ said) = turns_notes peer said

pub lane_notes : (log : List StreamTurn) → flat_map (λ (t : Turn). t.notes) (lane_of log) ≡ flat_map (λ (t : Turn). t.notes) (map lead_of log)
lane_notes [] = refl
lane_notes (t ∷ log) =
    flat_map-append (λ (x : Turn). x.notes) (turns_of t) (lane_of log) ∙ (ap (λ l. l ++ flat_map (λ (x : Turn). x.notes) (lane_of log)) (ap (λ l. t.notes ++ l) (turns_notes t.peer t.said) ∙ append-nil t.notes) ∙ ap (λ l. t.notes ++ l) (lane_notes log))

-- accept and read answered once in each turn
put_answers : (cut : ℕ) (b : StreamsTold) (f : Fate) → (put_for cut b f).answers ≡ b.answers
put_answers cut b silent = refl
put_answers cut b refused = refl
put_answers cut b (tried serial octets true) = refl
put_answers cut b (tried serial octets false) = refl

said_answers : (cut : ℕ) (b : StreamsTold) (said : List Said) → (fold (saying cut) b said).answers ≡ b.answers
said_answers cut b [] = refl
said_answers cut b (s ∷ said) = said_answers cut (put_for cut b s.fate) said ∙ put_answers cut b s.fate

closed_answers : (c : Bool) (b : StreamsTold) → (closing_if c b).answers ≡ b.answers
closed_answers true b = refl
closed_answers false b = refl

one_answer : (known : ℕ) (c : StreamCame) (b : StreamsTold) → (stream_after known c b).answers ≡ raised b.answers 1
one_answer known idle b = refl
one_answer known ended b = refl
one_answer known missed b = refl
one_answer known (come peer) b = refl
one_answer known (got octets) b = refl
one_answer known quiet b = refl
one_answer known shut b = refl
one_answer known broke b = refl

turn_answers : (b : StreamsTold) (t : StreamTurn) → (stream_turn b t).answers ≡ raised b.answers 1
turn_answers b t = closed_answers t.closes (fold (saying t.cut) (stream_after t.known t.came b) t.said) ∙ (said_answers t.cut (stream_after t.known t.came b) t.said ∙ one_answer t.known t.came b)

raised_none : (n : ℕ) → n ≡ raised n 0
raised_none n = omega arith

raised_more : (n k : ℕ) → raised (raised n 1) k ≡ raised n (suc k)
raised_more n k = omega arith

log_answers : (b : StreamsTold) (log : List StreamTurn) → (fold stream_turn b log).answers ≡ raised b.answers (length log)
log_answers b [] = raised_none b.answers
log_answers b (t ∷ log) = log_answers (stream_turn b t) log ∙ (ap (λ n. raised n (length log)) (turn_answers b t) ∙ raised_more b.answers (length log))

pub all_answers : (closes : Bool) (b : StreamsTold) (log : List StreamTurn) → (closing_if closes (fold stream_turn b log)).answers ≡ raised b.answers (length log)
all_answers closes b log = closed_answers closes (fold stream_turn b log) ∙ log_answers b log
