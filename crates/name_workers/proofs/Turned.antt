-- A turn is made of a Go, the notes, and a take.
use Rattle.std.proofs.Common.{◌≡◌, ℕ, ◌+◌, ◌<◌, ◌≤◌, List, [], ◌∷◌, length, All, Option, None, Some, sym, ap, subst, ◌∙◌, arith}
use Rattle.outside.specs.Faults.{BothTell, Rose, raised}
use Rattle.outside.specs.Gate.{IsTurning}
use Rattle.outside.specs.declared.gate.Turning.TheVariants.{Go}
use Rattle.published_map.specs.Version.{Version}
use Rattle.lane_model.specs.Lanes.{Answers}
use Rattle.lane_model.specs.Turns.{Came, Turn, giving, looks_of}
use Rattle.lane_model.specs.Calls.{AreTurns, Eyes, IsRise, IsTurn, Moment}
use Rattle.lane_model.specs.Replies.{replies_by}
use Rattle.lane_model.proofs.Going.{rise_trans}
use Rattle.lane_model.proofs.Prefixes.{prefix_length}
use Rattle.name_workers.specs.declared.ending.Step.{Step}
use Rattle.name_workers.specs.declared.ending.Step.TheVariants as step
use Rattle.name_workers.specs.Loop.{GoesOn, IsLoopTurn, IsTook, IsTurned, LoopMoment, Taking, alone, alone_at}

rose_later : (x y z : ℕ) → x ≤ y → Rose y z → Rose x z
rose_later x y z le r = omega (arith, le, r)

-- who doesn't tell is in each relation to who doesn't
untold : {A : Type 0} (R S : A → A → Type 0) (x : Option A) → BothTell None x R → BothTell None x S
untold R S None r = tt
untold R S (Some b) r = absurd r

-- a turn without gate and notes, behind a gate and notes
behind : {V : Type 0} (a : Answers V) (w known shown count faults : ℕ) (notes : List ℕ) (came : Came) (e f : Eyes V) (m : Moment V) → shown + 1 ≡ length e.heard → All (λ x. x < length f.heard) notes → IsRise e f → f.looks ≡ e.looks → f.faults ≡ e.faults
    → IsTurn a w (record { shown = known; notes = []; known = known; came = came }) (alone f count faults) m → IsTurn a w (record { shown = shown; notes = notes; known = known; came = came }) (alone e count faults) m
behind a w known shown count faults notes came e f m is noted rise looks same t =
    let longer = prefix_length e.heard f.heard rise.heard in
    record {
      gate = untold _ _ m.gate t.gate;
      notes = untold _ _ m.notes t.notes;
      port = t.port;
      shown = is;
      known = omega (arith, is, longer, t.shown);
      noted = λ k d lt. let below = noted k d lt in omega (arith, below, t.shown);
      came = t.came;
      count = t.count;
      eyes = rise_trans e f m.eyes rise t.eyes;
      floor = t.floor;
      knows = t.knows;
      looks = t.looks ∙ ap (λ x. raised x (looks_of came)) looks;
      port_faults = t.port_faults;
      port_stays = t.port_stays;
      gate_later = t.gate_later;
      refusal = λ x. rose_later e.faults f.faults m.eyes.faults rise.faults (t.refusal x);
      stays = λ x. t.stays x ∙ same;
    }

turned : {K S P : Type 0} (k : Taking K S P) (w : ℕ) (s : Step) (m m' : LoopMoment S P) (t : K) → IsLoopTurn k w t m m' → GoesOn k s t → IsTurned k w s m m'
turned k w step.Stopped m m' t q e = absurd e
turned k w step.On m m' t q e = (t, q, e)
turned k w step.PortEnd m m' t q e = (t, q, e)
turned k w step.PortFailed m m' t q e = (t, q, e)
turned k w step.Refused m m' t q e = (t, q, e)

turned_at : {K S P : Type 0} (k : Taking K S P) (w shown : ℕ) (s : Step) (m m' : LoopMoment S P) (f : Eyes Version) → shown + 1 ≡ length m.here.eyes.heard → BothTell m.gate m'.gate (IsTurning shown Go) → m.gate_faults ≤ m'.gate_faults
    → ((serials : List ℕ) × BothTell m.notes m'.notes (λ b c. c ≡ giving serials b) × All (λ x. x < length f.heard) serials) → IsRise m.here.eyes f → f.looks ≡ m.here.eyes.looks → f.faults ≡ m.here.eyes.faults
    → IsTook k w s (record m.here { eyes = f }) m'.here → IsTurned k w s m m'
turned_at k w shown s m m' f is gate gl given rise looks faults q =
    let t = q.take shown given.0 in
    let lead : Turn = record { shown = shown; notes = given.0; known = q.known; came = q.came } in
    let first : IsTurn (replies_by k.way) w lead (alone_at k m.here) q.session.0 = behind (replies_by k.way) w q.known shown m.here.count (k.faults m.here.port) given.0 q.came m.here.eyes f q.session.0 is given.2 rise looks faults q.session.1 in
    let all : AreTurns (replies_by k.way) w (lead ∷ q.more) (alone_at k m.here) (alone_at k m'.here) = (q.session.0, first, q.session.2) in
    turned k w s m m' t.0 (record {
      gate = subst (λ (x : Turn). BothTell m.gate m'.gate (IsTurning x.shown Go)) (sym t.1) gate;
      notes = subst (λ (x : Turn). BothTell m.notes m'.notes (λ b c. c ≡ giving x.notes b)) (sym t.1) given.1;
      session = subst (λ (x : Turn). AreTurns (replies_by k.way) w (x ∷ k.more t.0) (alone_at k m.here) (alone_at k m'.here)) (sym t.1) (subst (λ (x : List Turn). AreTurns (replies_by k.way) w (lead ∷ x) (alone_at k m.here) (alone_at k m'.here)) (sym t.2) all);
      gate_later = gl;
      does = t.3;
    }) t.4

pub turn_of : {K S P : Type 0} (k : Taking K S P) (w w1 n1 shown : ℕ) (s : Step) (f : Eyes Version) (m m' : LoopMoment S P) → shown + 1 ≡ length m.here.eyes.heard → BothTell m.gate m'.gate (IsTurning shown Go) → m.gate_faults ≤ m'.gate_faults
    → ((serials : List ℕ) × BothTell m.notes m'.notes (λ b c. c ≡ giving serials b) × All (λ x. x < length f.heard) serials) → IsRise m.here.eyes f → f.looks ≡ m.here.eyes.looks → f.faults ≡ m.here.eyes.faults → w1 ≡ w → n1 ≡ m.here.count
    → IsTook k w1 s (record m.here { eyes = f; count = n1 }) m'.here → IsTurned k w s m m'
turn_of k w w1 n1 shown s f m m' is gate gl given rise looks faults same count q =
    turned_at k w shown s m m' f is gate gl given rise looks faults (subst (λ (x : ℕ). IsTook k x s (record m.here { eyes = f }) m'.here) same (subst (λ (x : ℕ). IsTook k w1 s (record m.here { eyes = f; count = x }) m'.here) count q))
