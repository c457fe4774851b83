-- What the turns of a loop come to.
use Rattle.std.proofs.Common.{◌≡◌, ℕ, ◌+◌, ◌-◌, ◌<◌, List, [], ◌∷◌, ◌++◌, length, map, fold, Option, None, Some, sym, refl, ap, subst, ◌∙◌, arith}
use Rattle.outside.specs.Faults.{BothTell}
use Rattle.outside.specs.Gate.{GateTold, IsTurning}
use Rattle.outside.specs.declared.gate.Turning.TheVariants.{Stop}
use Rattle.lane_model.specs.declared.ended.Ended.{Ended}
use Rattle.lane_model.specs.declared.ended.Ended.TheVariants as end
use Rattle.lane_model.specs.Lanes.{Answers}
use Rattle.lane_model.specs.Turns.{Turn, gate_turn, notes_turn}
use Rattle.lane_model.specs.Calls.{IsGateRun, IsLaneLog, AreTurns, Moment}
use Rattle.lane_model.specs.Replies.{replies_by}
use Rattle.lane_model.proofs.Calls.{log_of}
use Rattle.lane_model.proofs.Prefixes.{prefix_length}
use Rattle.lane_model.proofs.Runs.{tells_on}
use Rattle.name_workers.specs.Loop.{AreLoopTurns, IsFreshCall, IsLoopCall, IsLoopLast, IsLoopTurn, IsServed, LoopMoment, Taking, alone_at, lane_in, turns_in}

turns_on : {V : Type 0} (a : Answers V) (w : ℕ) (log more : List Turn) (m mid m' : Moment V) → AreTurns a w log m mid → AreTurns a w more mid m' → AreTurns a w (log ++ more) m m'
turns_on a w [] more m mid m' s q = subst (λ k. AreTurns a w more k m') s q
turns_on a w (t ∷ log) more m mid m' s q = (s.0, s.1, turns_on a w log more s.0 mid m' s.2 q)

-- all turns as turns of a lane
lane_turns : {K S P : Type 0} (k : Taking K S P) (w : ℕ) (log : List K) (m m' : LoopMoment S P) → AreLoopTurns k w log m m' → AreTurns (replies_by k.way) w (lane_in k log) (alone_at k m.here) (alone_at k m'.here)
lane_turns k w [] m m' s = ap (λ x. alone_at k x.here) s
lane_turns k w (t ∷ log) m m' s = turns_on (replies_by k.way) w (turns_in k t) (lane_in k log) (alone_at k m.here) (alone_at k s.0.here) (alone_at k m'.here) s.1.session (lane_turns k w log s.0 m' s.2)

pub tells_as : {A : Type 0} (R S : A → A → Type 0) (x y : Option A) → ((b c : A) → R b c → S b c) → BothTell x y R → BothTell x y S
tells_as R S None None f r = tt
tells_as R S None (Some c) f r = absurd r
tells_as R S (Some b) None f r = absurd r
tells_as R S (Some b) (Some c) f r = f b c r

-- what is told at each turn is told of all of them
pub tells_same : {A : Type 0} (x : Option A) → BothTell x x (λ b c. c ≡ b)
tells_same None = tt
tells_same (Some b) = refl

pub told_after : {K S P A : Type 0} (k : Taking K S P) (w : ℕ) (tell : LoopMoment S P → Option A) (one : A → K → A) (all : A → List K → A) → ((b : A) → all b [] ≡ b) → ((b : A) (t : K) (log : List K) → all b (t ∷ log) ≡ all (one b t) log)
    → ((t : K) (m m' : LoopMoment S P) → IsLoopTurn k w t m m' → BothTell (tell m) (tell m') (λ b c. c ≡ one b t)) → (log : List K) (m m' : LoopMoment S P) → AreLoopTurns k w log m m' → BothTell (tell m) (tell m') (λ b c. c ≡ all b log)
told_after k w tell one all none more each [] m m' s = subst (λ x. BothTell (tell m) (tell x) (λ b c. c ≡ all b [])) (sym s) (tells_as (λ b c. c ≡ b) (λ b c. c ≡ all b []) (tell m) (tell m) (λ b c e. e ∙ sym (none b)) (tells_same (tell m)))
told_after k w tell one all none more each (t ∷ log) m m' s =
    tells_on (tell m) (tell s.0) (tell m') (λ b c. c ≡ one b t) (λ b c. c ≡ all b log) (λ b c. c ≡ all b (t ∷ log)) (λ b c d r q. q ∙ (ap (λ x. all x log) r ∙ sym (more b t log))) (each t m s.0 s.1) (told_after k w tell one all none more each log s.0 m' s.2)

gate_after : {K S P : Type 0} (k : Taking K S P) (w : ℕ) (log : List K) (m m' : LoopMoment S P) → AreLoopTurns k w log m m' → BothTell m.gate m'.gate (λ b c. c ≡ fold gate_turn b (map k.lead log))
gate_after k w log m m' s = told_after k w (λ x. x.gate) (λ b t. gate_turn b (k.lead t)) (λ b l. fold gate_turn b (map k.lead l)) (λ b. refl) (λ b t l. refl) (λ t x y q. q.gate) log m m' s

notes_after : {K S P : Type 0} (k : Taking K S P) (w : ℕ) (log : List K) (m m' : LoopMoment S P) → AreLoopTurns k w log m m' → BothTell m.notes m'.notes (λ b c. c ≡ fold notes_turn b (map k.lead log))
notes_after k w log m m' s = told_after k w (λ x. x.notes) (λ b t. notes_turn b (k.lead t)) (λ b l. fold notes_turn b (map k.lead l)) (λ b. refl) (λ b t l. refl) (λ t x y q. q.notes) log m m' s

-- what the end leaves as it was
last_here : {S P : Type 0} (e : Ended) (m m' : LoopMoment S P) → IsLoopLast e m m' → (m'.here ≡ m.here) × (m'.notes ≡ m.notes)
last_here end.Stopped m m' l = (ap (λ x. x.here) l.rest, ap (λ x. x.notes) l.rest)
last_here end.PortEnd m m' l = (ap (λ x. x.here) l, ap (λ x. x.notes) l)
last_here end.PortFault m m' l = (ap (λ x. x.here) l, ap (λ x. x.notes) l)
last_here end.CellFault m m' l = (ap (λ x. x.here) l, ap (λ x. x.notes) l)
last_here (end.Above known newest) m m' l = (ap (λ x. x.here) l, ap (λ x. x.notes) l)
last_here end.Spent m m' l = (ap (λ x. x.here) l, ap (λ x. x.notes) l)

gate_same : {S P : Type 0} (log : List Turn) (m mid m' : LoopMoment S P) → 0 < length mid.here.eyes.heard → BothTell m.gate mid.gate (λ b c. c ≡ fold gate_turn b log) → m' ≡ mid → (shown : ℕ) × (shown + 1 ≡ length mid.here.eyes.heard) × BothTell m.gate m'.gate (λ b c. c ≡ fold gate_turn b log)
gate_same log m mid m' some g l = (length mid.here.eyes.heard - 1, omega (arith, some), subst (λ x. BothTell m.gate x.gate (λ b c. c ≡ fold gate_turn b log)) (sym l) g)

gate_of : {S P : Type 0} (e : Ended) (log : List Turn) (m mid m' : LoopMoment S P) → 0 < length mid.here.eyes.heard → BothTell m.gate mid.gate (λ b c. c ≡ fold gate_turn b log) → IsLoopLast e mid m' → (shown : ℕ) × (shown + 1 ≡ length mid.here.eyes.heard) × BothTell m.gate m'.gate (IsGateRun shown log e)
gate_of end.Stopped log m mid m' some g l = (
  l.shown,
  l.is_known,
  tells_on m.gate mid.gate m'.gate (λ b c. c ≡ fold gate_turn b log) (IsTurning l.shown Stop) (IsGateRun l.shown log end.Stopped) (λ b c d r q. subst (λ (x : GateTold). IsTurning l.shown Stop x d) r q) g l.gate,
)
gate_of end.PortEnd log m mid m' some g l = gate_same log m mid m' some g l
gate_of end.PortFault log m mid m' some g l = gate_same log m mid m' some g l
gate_of end.CellFault log m mid m' some g l = gate_same log m mid m' some g l
gate_of (end.Above known newest) log m mid m' some g l = gate_same log m mid m' some g l
gate_of end.Spent log m mid m' some g l = gate_same log m mid m' some g l

-- Some turns and their end are what a call promises.
call_of : {K S P : Type 0} (k : Taking K S P) (w turns : ℕ) (m m' : LoopMoment S P) (e : Ended) → 0 < length m.here.eyes.heard → IsServed k w turns m m' e → IsLoopCall k w turns m m' e
call_of k w turns m m' e some s =
    let last = last_here e s.mid m' s.last in
    let all : IsLaneLog (replies_by k.way) w (lane_in k s.log) (alone_at k m.here) (alone_at k s.mid.here) = log_of (replies_by k.way) w (lane_in k s.log) (alone_at k m.here) (alone_at k s.mid.here) (lane_turns k w s.log m s.mid s.made) s.order in
    let le = prefix_length m.here.eyes.heard s.mid.here.eyes.heard all.rise.heard in
    let gate = gate_of e (map k.lead s.log) m s.mid m' (omega (arith, le, some)) (gate_after k w s.log m s.mid s.made) s.last in
    record {
      log = s.log;
      mid = s.mid;
      made = s.made;
      here = last.0;
      shown = gate.0;
      shown_is = subst (λ x. gate.0 + 1 ≡ length x.eyes.heard) (sym last.0) gate.1;
      all = subst (λ x. IsLaneLog (replies_by k.way) w (lane_in k s.log) (alone_at k m.here) (alone_at k x)) (sym last.0) all;
      notes = subst (λ x. BothTell m.notes x (λ b c. c ≡ fold notes_turn b (map k.lead s.log))) (sym last.1) (notes_after k w s.log m s.mid s.made);
      gate = gate.2;
      ending = s.ending;
    }

pub call_by : {K S P : Type 0} (k : Taking K S P) (w turns : ℕ) (from : S → LoopMoment S P) (m' : LoopMoment S P) (e : Ended) (room : S) → k.is_fresh room → 0 < length (from room).here.eyes.heard → IsServed k w turns (from room) m' e → IsFreshCall k w turns from m' e
call_by k w turns from m' e room fresh some s = (room, fresh, call_of k w turns (from room) m' e some s)
