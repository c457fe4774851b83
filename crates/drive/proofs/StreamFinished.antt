-- A call of a lane for conversations and its closing look make a lane that is done.
use Rattle.std.proofs.Common.{◌≡◌, ℕ, ◌<◌, ◌≤◌, List, [], ◌∷◌, fold, length, map, Option, Some, ap, subst, ◌∙◌, arith}
use Rattle.outside.specs.Faults.{BothTell}
use Rattle.outside.specs.Gate.{GateTold}
use Rattle.outside.specs.Notes.{NotesTold}
use Rattle.past_log.specs.Notes.{no_notes}
use Rattle.map_cell.specs.Rows.{AreFirst}
use Rattle.outside.specs.Limits.{most_notes}
use Rattle.outside.specs.Streams.{StreamsTold}
use Rattle.published_map.specs.Version.{Version}
use Rattle.lane_model.specs.declared.ended.Ended.{Ended}
use Rattle.lane_model.specs.Turns.{entries_of, notes_turn, tries_of}
use Rattle.lane_model.specs.Calls.{Eyes}
use Rattle.tcp_lane.specs.Calls.{AreRuled, IsStreamCall, IsStreamEnd, StreamMoment, inner, stream_refusals}
use Rattle.tcp_lane.specs.Replies.{stream_replies}
use Rattle.tcp_lane.specs.Stream.{IsStreamRun}
use Rattle.tcp_lane.specs.Turns.{TalkState, lane_of, lead_of, no_talk}
use Rattle.tcp_lane.proofs.Ends.{lane_notes, refused_last, stream_run_longer}
use Rattle.drive.specs.Closing.{IsClosing}
use Rattle.drive.specs.Done.{StreamLaneTold}
use Rattle.drive.specs.Streams.{IsStreamDone}
use Rattle.drive.proofs.Finished.{served_log, told_by}
use Rattle.drive.proofs.Noted.{notes_are, notes_by}

stream_of : (turns : ℕ) (first : Version) (rest : List Version) (w : ℕ) (m m' : StreamMoment Version) (f : Eyes Version) (served e : Ended) (n n' : ℕ) (j k : NotesTold) → n' ≡ n → m.eyes.seen ≡ first ∷ [] → m.eyes.heard ≡ first ∷ [] → m.count ≡ 0 → m.talk ≡ no_talk
    → (c : IsStreamCall stream_replies w turns m m' served) → AreFirst k → k ≡ fold notes_turn no_notes (map lead_of c.log) → IsClosing (first ∷ rest) m'.eyes f served e
    → IsStreamDone turns first rest w (told_by m.streams m.stream_faults m.gate m.gate_faults m.eyes n j) (told_by m'.streams m'.stream_faults m'.gate m'.gate_faults f n' k) e
stream_of turns first rest w m m' f served e n n' j k asked seen heard count fresh c begin are q =
    let some : 0 < length m.eyes.heard = omega (arith, ap length heard) in
    let logged = served_log stream_replies first rest w (lane_of c.log) c.shown (inner m.eyes m.count m.stream_faults) (inner m'.eyes m'.count m'.stream_faults) f served e n n' j k m.streams m'.streams m.gate m'.gate m.gate_faults m'.gate_faults (record {
      shown_is = c.shown_is;
      all = c.all;
      numbers = begin;
      notes = lane_notes c.log ∙ notes_are (map lead_of c.log) k begin are;
      closing = q;
      refusing = λ is. refused_last turns c.log (subst (IsStreamEnd turns c.log) is c.ending);
      asked = asked;
      seen = seen;
      heard = heard;
      count = count;
    }) in
    record {
      log = c.log;
      closes = c.closes;
      served = served;
      shown = c.shown;
      served_log = logged.0;
      streams = c.streams;
      gate = c.gate;
      notes = are;
      runs = λ b none. let r = c.runs b none 0 some in (
        r.0,
        r.1,
        r.2,
        stream_run_longer stream_replies m'.eyes.seen logged.0.over w 0 0 (stream_refusals c.log) r.0 (entries_of stream_replies.way (lane_of c.log)) (tries_of (lane_of c.log)) logged.1
            (subst (λ (x : ℕ). IsStreamRun stream_replies m'.eyes.seen w x 0 (stream_refusals c.log) r.0 (entries_of stream_replies.way (lane_of c.log)) (tries_of (lane_of c.log))) count r.3),
      );
      rules = (c.rules.0, subst (λ (x : TalkState). AreRuled x c.log c.rules.0) fresh c.rules.1, c.rules.2);
      ending = c.ending;
    }

-- the same, where some things are told by equations
pub stream_by : (turns : ℕ) (first : Version) (rest : List Version) (i w t : ℕ) (m m' : StreamMoment Version) (f : Eyes Version) (served e : Ended) (h0 h : List Version) (streams : Option StreamsTold) (faults : ℕ) (gate : Option GateTold) (gate_faults n n' n'' : ℕ) (j k l : NotesTold) → AreFirst k → w ≡ i → t ≡ turns → h ≡ first ∷ rest → h0 ≡ first ∷ []
    → m.eyes.seen ≡ h0 → m.eyes.heard ≡ h0 → m.count ≡ 0 → m.talk ≡ no_talk → m.notes ≡ Some no_notes → m'.notes ≡ Some k → length k.given ≤ most_notes
    → IsStreamCall stream_replies w t m m' served → IsClosing h m'.eyes f served e → streams ≡ m'.streams → faults ≡ m'.stream_faults → gate ≡ m'.gate → n' ≡ n → n'' ≡ n' → l ≡ k → gate_faults ≡ m'.gate_faults
    → IsStreamDone turns first rest i (told_by m.streams m.stream_faults m.gate m.gate_faults m.eyes n j) (told_by streams faults gate gate_faults f n'' l) e
stream_by turns first rest i w t m m' f served e h0 h streams faults gate gate_faults n n' n'' j k l begin same long is opened seen heard count fresh b a le c q p1 p2 p3 p4 p5 p6 p7 =
    let call = subst (λ (x : ℕ). IsStreamCall stream_replies i x m m' served) long (subst (λ (x : ℕ). IsStreamCall stream_replies x t m m' served) same c) in
    let done = stream_of turns first rest i m m' f served e n n' j k p4 (seen ∙ opened) (heard ∙ opened) count fresh call begin (notes_by (map lead_of call.log) m.notes m'.notes k b a call.notes) (subst (λ (x : List Version). IsClosing x m'.eyes f served e) is q) in
    subst (λ (x : StreamLaneTold). IsStreamDone turns first rest i (told_by m.streams m.stream_faults m.gate m.gate_faults m.eyes n j) x e) (cc (p1, p2, p3, p5, p6, p7)) done
