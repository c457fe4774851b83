-- What the turns of a stream lane come to.
use Rattle.std.proofs.Common.{◌≡◌, ℕ, Bool, true, false, List, [], ◌∷◌, fold, Option, refl, sym, ap, subst, ◌∙◌}
use Rattle.outside.specs.Faults.{BothTell, DeviceState}
use Rattle.outside.specs.Streams.{StreamsTold, closing}
use Rattle.published_map.specs.Version.{Version}
use Rattle.lane_model.specs.declared.ended.Ended.{Ended}
use Rattle.lane_model.specs.declared.ended.Ended.TheVariants as end
use Rattle.lane_model.specs.Calls.{IsLaneLog}
use Rattle.lane_model.proofs.Runs.{tells_on}
use Rattle.name_workers.specs.Loop.{AreLoopTurns, IsLoopCall, IsLoopEnd, LoopMoment}
use Rattle.name_workers.proofs.Called.{told_after}
use Rattle.tcp_lane.specs.Replies.{stream_replies}
use Rattle.tcp_lane.specs.Turns.{StreamTurn, TalkState, closing_if, lane_of, no_talk, stream_turn}
use Rattle.tcp_lane.specs.Calls.{AreRuled, IsStreamCall, IsStreamEnd, StreamMoment, inner}
use Rattle.tcp_lane.specs.Steps.{AreHeld, conversations}
use Rattle.tcp_lane.proofs.Whole.{runs_of}

streams_after : {S Q : Type 0} (state : S → TalkState) (told : Q → DeviceState StreamsTold) (w : ℕ) (log : List StreamTurn) (m m' : LoopMoment S Q) → AreLoopTurns (conversations state told) w log m m' → BothTell (told m.here.port).past (told m'.here.port).past (λ b c. c ≡ fold stream_turn b log)
streams_after state told w log m m' s = told_after (conversations state told) w (λ x. (told x.here.port).past) stream_turn (λ b l. fold stream_turn b l) (λ b. refl) (λ b t l. refl) (λ t x y q. q.does.0) log m m' s

held_after : {S Q : Type 0} (state : S → TalkState) (told : Q → DeviceState StreamsTold) (w : ℕ) (log : List StreamTurn) (m m' : LoopMoment S Q) → AreLoopTurns (conversations state told) w log m m' → AreHeld w log (state m.here.room) (state m'.here.room)
held_after state told w [] m m' s = ap (λ k. state k.here.room) s
held_after state told w (t ∷ log) m m' s =
    (state s.0.here.room, s.1.does.1, (s.1.session.0, inner s.0.here.eyes s.0.here.count (told s.0.here.port).faults, s.1.session.2), held_after state told w log s.0 m' s.2)

rules_of : (w : ℕ) (log : List StreamTurn) (l l' : TalkState) → AreHeld w log l l' → AreRuled l log l'
rules_of w [] l l' s = s
rules_of w (t ∷ log) l l' s = (s.0, s.1, rules_of w log s.0 l' s.3)

end_by : {S Q : Type 0} (state : S → TalkState) (told : Q → DeviceState StreamsTold) (turns : ℕ) (log : List StreamTurn) (e : Ended) → IsLoopEnd (conversations state told) turns log e → IsStreamEnd turns log e
end_by state told turns log end.Stopped x = x
end_by state told turns log end.PortEnd x = x
end_by state told turns log end.PortFault x = x
end_by state told turns log end.CellFault x = x
end_by state told turns log (end.Above known newest) x = x
end_by state told turns log end.Spent x = x

-- the conversation is closed at the end where it is open
closed_at : (open_ : Bool) (x y z : Option StreamsTold) (f : StreamsTold → StreamsTold) → BothTell x y (λ b c. c ≡ f b) → (open_ ≡ true → BothTell y z (λ b c. c ≡ closing b)) → (open_ ≡ false → z ≡ y) → BothTell x z (λ b c. c ≡ closing_if open_ (f b))
closed_at true x y z f p q r = tells_on x y z (λ b c. c ≡ f b) (λ b c. c ≡ closing b) (λ b c. c ≡ closing (f b)) (λ b c d u v. v ∙ ap closing u) p (q refl)
closed_at false x y z f p q r = subst (λ (k : Option StreamsTold). BothTell x k (λ b c. c ≡ f b)) (sym (r refl)) p

-- a moment of the loop, as one of a stream lane without a conversation, by what its streams tell
abbrev pub moment_by : {S Q : Type 0} → DeviceState StreamsTold → LoopMoment S Q → StreamMoment Version
moment_by streams m = record { streams = streams.past; gate = m.gate; notes = m.notes; eyes = m.here.eyes; count = m.here.count; stream_faults = streams.faults; gate_faults = m.gate_faults; talk = no_talk }

-- A call of the loop, and the close of an open conversation, are what a call promises.
pub call_of : {S Q : Type 0} (state : S → TalkState) (told : Q → DeviceState StreamsTold) (w turns : ℕ) (m m' : LoopMoment S Q) (e : Ended) (q : DeviceState StreamsTold) → state m.here.room ≡ no_talk → IsLoopCall (conversations state told) w turns m m' e
    → ((state m'.here.room).is_open ≡ true → BothTell (told m'.here.port).past q.past (λ b c. c ≡ closing b)) → ((state m'.here.room).is_open ≡ false → q.past ≡ (told m'.here.port).past) → q.faults ≡ (told m'.here.port).faults
    → IsStreamCall stream_replies w turns (moment_by (told m.here.port) m) (moment_by q m') e
call_of state told w turns m m' e q fresh c closes stays faults =
    let talk = state m'.here.room in
    let held : AreHeld w c.log no_talk talk = subst (λ (l : TalkState). AreHeld w c.log l talk) fresh (subst (λ x. AreHeld w c.log (state m.here.room) (state x.room)) (sym c.here) (held_after state told w c.log m c.mid c.made)) in
    let all : IsLaneLog stream_replies w (lane_of c.log) (inner m.here.eyes m.here.count (told m.here.port).faults) (inner m'.here.eyes m'.here.count q.faults) =
    subst (λ (k : ℕ). IsLaneLog stream_replies w (lane_of c.log) (inner m.here.eyes m.here.count (told m.here.port).faults) (inner m'.here.eyes m'.here.count k)) (sym faults) c.all in
    let streams : BothTell (told m.here.port).past (told m'.here.port).past (λ b d. d ≡ fold stream_turn b c.log) = subst (λ x. BothTell (told m.here.port).past (told x.port).past (λ b d. d ≡ fold stream_turn b c.log)) (sym c.here) (streams_after state told w c.log m c.mid c.made) in
    record {
      log = c.log;
      closes = talk.is_open;
      shown = c.shown;
      shown_is = c.shown_is;
      all = all;
      streams = closed_at talk.is_open (told m.here.port).past (told m'.here.port).past q.past (λ b. fold stream_turn b c.log) streams closes stays;
      notes = c.notes;
      gate = c.gate;
      runs = λ b none floor lt. runs_of w m.here.count floor m'.here.eyes.seen c.log no_talk talk b held refl none (all.run floor lt);
      rules = (talk, rules_of w c.log no_talk talk held, refl);
      ending = end_by state told turns c.log e c.ending;
    }
