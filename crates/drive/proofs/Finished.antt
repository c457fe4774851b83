-- A lane's call and its closing look make a lane that is done.
use Rattle.std.proofs.Common.{◌≡◌, ◌⊎◌, ℕ, ◌+◌, ◌<◌, ◌≤◌, List, [], ◌∷◌, fold, length, max, Option, Some, inl, inr, refl, sym, ap, subst, ◌∙◌, arith, ⊎_elim}
use Rattle.std.specs.Prelude.{sum_by}
use Rattle.std.specs.List.{flat_map, range_with_len}
use Rattle.std.proofs.lemmas.List.{append-nil}
use mathlib.Core.List.{IsPrefix}
use Rattle.std.proofs.Math.Nat.{eq-or-lt_of_le}
use Rattle.outside.specs.Faults.{BothTell, Rose, raised}
use Rattle.outside.specs.Gate.{GateTold}
use Rattle.outside.specs.Limits.{most_notes}
use Rattle.outside.specs.Notes.{NotesTold}
use Rattle.outside.specs.Port.{PortTold}
use Rattle.published_map.specs.Version.{Version}
use Rattle.map_cell.specs.Histories.{IsHistory}
use Rattle.map_cell.specs.Rows.{AreFirst}
use Rattle.past_log.specs.Notes.{no_notes}
use Rattle.lane_model.specs.declared.ended.Ended.{Ended}
use Rattle.lane_model.specs.declared.ended.Ended.TheVariants.{CellFault}
use Rattle.lane_model.specs.Lanes.{Answers, IsLaneRun}
use Rattle.lane_model.specs.Replies.{replies}
use Rattle.lane_model.specs.Turns.{Turn, entries_of, notes_turn, refused_of, tries_of}
use Rattle.lane_model.specs.Calls.{Eyes, IsEnd, IsLaneCall, IsLaneLog, Moment}
use Rattle.lane_model.proofs.Calls.{refused_last}
use Rattle.lane_model.proofs.Prefixes.{prefix_length}
use Rattle.lane_model.proofs.Going.{rise_trans}
use Rattle.lane_model.proofs.Runs.{run_longer}
use Rattle.drive.specs.Closing.{IsClosing, IsPast, IsShut, IsWithin}
use Rattle.drive.proofs.Noted.{behind_within, noted_within, notes_are, notes_by}
use Rattle.drive.specs.Done.{IsDone, IsOverNewest, IsOverPast, IsOverSeen, IsServedLog, LaneTold, ServerTold}

rose_later : (x y z : ℕ) → x ≤ y → Rose y z → Rose x z
rose_later x y z le r = omega (arith, le, r)

later_rose : (x y z : ℕ) → Rose x y → y ≤ z → Rose x z
later_rose x y z r le = omega (arith, le, r)

rose_twice : (x y z : ℕ) → Rose x y → Rose y z → raised x 2 ≤ z
rose_twice x y z r q = omega (arith, r, q)

-- what a lane tells, by its port and gate, its viewer's door, the places that were asked for and its worker's notes
abbrev pub told_by : {T : Type 0} → Option T → ℕ → Option GateTold → ℕ → Eyes Version → ℕ → NotesTold → ServerTold T
told_by port faults gate gate_faults e n notes = record { port = port; port_faults = faults; gate = gate; gate_faults = gate_faults; asked = n; looks = e.looks; greatest = e.greatest; door_faults = e.faults; notes = notes }

-- a call of a lane and its closing look, by its log: what both kinds of lanes have of it
pub record HasLogged (a : Answers Version) (first : Version) (rest : List Version) (w : ℕ) (log : List Turn) (shown : ℕ) (m m' : Moment Version) (f : Eyes Version) (served e : Ended) (n n' : ℕ) (k : NotesTold) : Type 0 where
  pub shown_is : shown + 1 ≡ length m'.eyes.heard
  pub all : IsLaneLog a w log m m'
  pub numbers : AreFirst k
  pub notes : flat_map (λ t. t.notes) log ≡ range_with_len 0 (length k.given)
  pub closing : IsClosing (first ∷ rest) m'.eyes f served e
  pub refusing : served ≡ CellFault → 0 < sum_by (λ t. refused_of t.came) log
  pub asked : n' ≡ n
  pub seen : m.eyes.seen ≡ first ∷ []
  pub heard : m.eyes.heard ≡ first ∷ []
  pub count : m.count ≡ 0

-- the same of a lane over one history or another
log_over : {T : Type 0} (a : Answers Version) (first : Version) (rest : List Version) (w : ℕ) (log : List Turn) (shown : ℕ) (m m' : Moment Version) (f : Eyes Version) (served e : Ended) (n n' : ℕ) (j k : NotesTold) (port port' : Option T) (gate gate' : Option GateTold) (g g' : ℕ) → length m.eyes.heard ≡ 1
    → HasLogged a first rest w log shown m m' f served e n n' k → (over : List Version) → IsLaneRun a over w 0 0 (entries_of a.way log) (tries_of log)
    → (IsOverNewest (first ∷ rest) over log served e (told_by port m.port_faults gate g m.eyes n j) (told_by port' m'.port_faults gate' g' f n' k) ⊎ IsOverSeen first (first ∷ rest) over served e (told_by port m.port_faults gate g m.eyes n j) (told_by port' m'.port_faults gate' g' f n' k) ⊎ IsOverPast (first ∷ rest) over log e (told_by port m.port_faults gate g m.eyes n j) (told_by port' m'.port_faults gate' g' f n' k))
    → IsServedLog a first rest w log served e shown (told_by port m.port_faults gate g m.eyes n j) (told_by port' m'.port_faults gate' g' f n' k)
log_over a first rest w log shown m m' f served e n n' j k port port' gate gate' g g' one h over run which =
    let some : 0 < length m.eyes.heard = omega (arith, one) in
    let rise = rise_trans m.eyes m'.eyes f h.all.rise h.closing.rise in
    record {
      over = over;
      run = run;
      told = h.all.told 0 some;
      numbers = h.numbers;
      noted = let few = noted_within log (length k.given) (length m'.eyes.heard) h.notes (h.all.told 0 some) h.all.known in omega (arith, one, few, h.all.rise.above, h.closing.rise.rising);
      within = λ k d lt. let known = h.all.within k d lt in omega (arith, one, known, h.all.rise.above, h.closing.rise.rising);
      last = (
        (let behind = behind_within log 0 (length m'.eyes.heard) (omega (arith, h.shown_is)) h.all.within in omega (arith, h.shown_is, behind)),
        omega (arith, one, h.shown_is, h.all.rise.above, h.closing.rise.rising),
      );
      asked = h.asked;
      looks = omega (arith, h.all.looks, h.closing.looks);
      port_faults = h.all.port_faults;
      port_stays = h.all.port_stays;
      refusal = λ x. later_rose m.eyes.faults m'.eyes.faults f.faults (h.all.refusal x) h.closing.rise.faults;
      fates = h.all.fates;
      learned = let known = prefix_length (first ∷ rest) f.heard h.closing.learned in omega (arith, one, known, rise.above);
      rising = (rise.rising, rise.faults);
      which = which;
    }

-- a door that showed less than what is known behind it had shown as much before
shown_past : (known before after : ℕ) → known ≤ after + 1 → after + 1 ≤ max (before + 1) known → (after + 1 ≡ known) ⊎ (known ≤ before)
shown_past known before after le most = ⊎_elim (λ (is : known ≡ after + 1). inl (sym is)) (λ (lt : known < after + 1). inr (omega (arith, lt, most))) (eq-or-lt_of_le le)

pub served_log : {T : Type 0} (a : Answers Version) (first : Version) (rest : List Version) (w : ℕ) (log : List Turn) (shown : ℕ) (m m' : Moment Version) (f : Eyes Version) (served e : Ended) (n n' : ℕ) (j k : NotesTold) (port port' : Option T) (gate gate' : Option GateTold) (g g' : ℕ)
    → HasLogged a first rest w log shown m m' f served e n n' k
    → (logged : IsServedLog a first rest w log served e shown (told_by port m.port_faults gate g m.eyes n j) (told_by port' m'.port_faults gate' g' f n' k)) × IsPrefix m'.eyes.seen logged.over
unfolding log_over
served_log a first rest w log shown m m' f served e n n' j k port port' gate gate' g g' h =
    let one : length m.eyes.heard ≡ 1 = ap length h.heard in
    let some : 0 < length m.eyes.heard = omega (arith, one) in
    let run : IsLaneRun a m'.eyes.seen w 0 0 (entries_of a.way log) (tries_of log) = subst (λ (n : ℕ). IsLaneRun a m'.eyes.seen w n 0 (entries_of a.way log) (tries_of log)) h.count (h.all.run 0 some) in
    let begins : IsPrefix (first ∷ []) m'.eyes.seen = subst (λ (l : List Version). IsPrefix l m'.eyes.seen) h.seen h.all.rise.seen in
    let rise = rise_trans m.eyes m'.eyes f h.all.rise h.closing.rise in
    let by = log_over a first rest w log shown m m' f served e n n' j k port port' gate gate' g g' one h in
    ⊎_elim
    (λ (s : IsShut (first ∷ rest) m'.eyes f served e).
    (by m'.eyes.seen run (inr (inl (record { first_is = begins; beside = subst (λ l. IsPrefix l (first ∷ rest) ⊎ IsPrefix (first ∷ rest) l) s.seen s.beside; history = subst IsHistory s.seen s.history; rose = rose_later m.eyes.faults m'.eyes.faults f.faults h.all.rise.faults s.rose; twice = λ is. rose_twice m.eyes.faults m'.eyes.faults f.faults (h.all.refusal (h.refusing is)) s.rose; ended_is = s.ended_is }))), ([], append-nil m'.eyes.seen)))
    (λ (t : IsWithin (first ∷ rest) m'.eyes f served e ⊎ IsPast (first ∷ rest) m'.eyes f e).
    ⊎_elim
    (λ (s : IsWithin (first ∷ rest) m'.eyes f served e).
    let told_le = prefix_length m'.eyes.heard f.heard h.closing.rise.heard in
    let le = prefix_length f.heard (first ∷ rest) s.heard in (
      by (first ∷ rest) (run_longer a m'.eyes.seen (first ∷ rest) w 0 0 (entries_of a.way log) (tries_of log) s.seen run)
          (inl (record { same = refl; known = λ k d lt. let r = h.all.known k d lt in omega (arith, r, told_le, le); noted = let few = noted_within log (length k.given) (length m'.eyes.heard) h.notes (h.all.told 0 some) h.all.known in omega (arith, few, told_le, le); shown = omega (arith, rise.greatest, le); stays = λ none. s.stays ∙ h.all.stays none; ended_is = s.ended_is })),
      s.seen,
    ))
    (λ (s : IsPast (first ∷ rest) m'.eyes f e).
    let is : length f.heard ≡ length f.seen = ap length s.heard in (
      by f.seen (run_longer a m'.eyes.seen f.seen w 0 0 (entries_of a.way log) (tries_of log) s.seen run)
          (inr (inr (record { begins = s.begins; longer = s.longer; history = s.history; shown = shown_past (length f.seen) m.eyes.greatest f.greatest (omega (arith, one, is, rise.above, s.longer)) (omega (arith, is, rise.greatest)); stays = λ none. s.stays ∙ h.all.stays none; last = s.known; newest = s.newest; last_is = s.known_is; newest_is = s.newest_is; ended_is = s.ended_is }))),
      s.seen,
    ))
    t)
    h.closing.case

pub done_of : (turns : ℕ) (first : Version) (rest : List Version) (w : ℕ) (m m' : Moment Version) (f : Eyes Version) (served e : Ended) (n n' : ℕ) (j k : NotesTold) → n' ≡ n → m.eyes.seen ≡ first ∷ [] → m.eyes.heard ≡ first ∷ [] → m.count ≡ 0
    → (c : IsLaneCall replies w turns m m' served) → AreFirst k → k ≡ fold notes_turn no_notes c.log → IsClosing (first ∷ rest) m'.eyes f served e → IsDone turns first rest w (told_by m.port m.port_faults m.gate m.gate_faults m.eyes n j) (told_by m'.port m'.port_faults m'.gate m'.gate_faults f n' k) e
done_of turns first rest w m m' f served e n n' j k asked seen heard count c begin are q = record {
  log = c.log;
  served = served;
  shown = c.shown;
  served_log = (served_log replies first rest w c.log c.shown m m' f served e n n' j k m.port m'.port m.gate m'.gate m.gate_faults m'.gate_faults (record {
    shown_is = c.shown_is;
    all = c.all;
    numbers = begin;
    notes = notes_are c.log k begin are;
    closing = q;
    refusing = λ is. refused_last turns c.log (subst (IsEnd turns c.log) is c.ending);
    asked = asked;
    seen = seen;
    heard = heard;
    count = count;
  })).0;
  port = c.all.port;
  gate = c.gate;
  notes = are;
  ending = c.ending;
}

-- the same, where some things are told by equations
pub done_by : (turns : ℕ) (first : Version) (rest : List Version) (i w t : ℕ) (m m' : Moment Version) (f : Eyes Version) (served e : Ended) (h0 h : List Version) (port : Option PortTold) (faults : ℕ) (gate : Option GateTold) (gate_faults n n' n'' : ℕ) (j k l : NotesTold) → AreFirst k → w ≡ i → t ≡ turns → h ≡ first ∷ rest → h0 ≡ first ∷ []
    → m.eyes.seen ≡ h0 → m.eyes.heard ≡ h0 → m.count ≡ 0 → m.notes ≡ Some no_notes → m'.notes ≡ Some k → length k.given ≤ most_notes
    → IsLaneCall replies w t m m' served → IsClosing h m'.eyes f served e → port ≡ m'.port → faults ≡ m'.port_faults → gate ≡ m'.gate → n' ≡ n → n'' ≡ n' → l ≡ k → gate_faults ≡ m'.gate_faults
    → IsDone turns first rest i (told_by m.port m.port_faults m.gate m.gate_faults m.eyes n j) (told_by port faults gate gate_faults f n'' l) e
done_by turns first rest i w t m m' f served e h0 h port faults gate gate_faults n n' n'' j k l begin same long is opened seen heard count b a le c q p1 p2 p3 p4 p5 p6 p7 =
    let call = subst (λ (x : ℕ). IsLaneCall replies i x m m' served) long (subst (λ (x : ℕ). IsLaneCall replies x t m m' served) same c) in
    let done = done_of turns first rest i m m' f served e n n' j k p4 (seen ∙ opened) (heard ∙ opened) count call begin (notes_by call.log m.notes m'.notes k b a call.all.notes) (subst (λ (x : List Version). IsClosing x m'.eyes f served e) is q) in
    subst (λ (x : LaneTold). IsDone turns first rest i (told_by m.port m.port_faults m.gate m.gate_faults m.eyes n j) x e) (cc (p1, p2, p3, p5, p6, p7)) done
