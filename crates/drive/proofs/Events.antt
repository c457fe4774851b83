-- The lanes of a drive as lane runs over its history.
use Rattle.std.proofs.Common.{◌≡◌, ◌⊎◌, ℕ, zero, suc, ◌+◌, ◌<◌, Bool, true, false, List, [], ◌∷◌, ◌++◌, length, All, Option, None, Some, inl, inr, refl, ap, subst, arith}
use Rattle.std.specs.Prelude.{MatchBool}
use Rattle.published_map.specs.Version.{Version}
use Rattle.lane_model.specs.declared.ended.Ended.{Ended}
use Rattle.outside.specs.Port.{Try}
use Rattle.answer_core.specs.declared.way.Way.{Way}
use Rattle.answer_core.specs.declared.way.Way.TheVariants.{Datagram, Stream}
use Rattle.demand_feed.specs.declared.run.FeedEnd.{FeedEnd}
use Rattle.lane_model.specs.Lanes.{Entry, IsLaneRun, IsTryOf, following}
use Rattle.lane_model.specs.Machine.{AreRuns, LaneLog}
use Rattle.lane_model.specs.Replies.{is_silent, replies, replies_by}
use Rattle.lane_model.specs.Turns.{Turn, Came, entries_of, entries_of_came, tries_of, idle, oversize, ended, failed, took, silent, refused, tried}
use Rattle.tcp_lane.specs.Replies.{stream_replies}
use Rattle.tcp_lane.specs.Turns.{lane_of}
use Rattle.drive.specs.Done.{IsOverNewest, IsOverPast, IsOverSeen, LaneTold, ServerTold, StreamLaneTold}
use Rattle.drive.specs.Driven.{AreDone, IsDriven, LentTold}
use Rattle.drive.specs.Streams.{AreStreamsDone}
use Rattle.drive.specs.Laws.{all_logs, log_over, logs_of, stream_logs}

all_cons : {A : Type 0} (P : A → Type 0) (x : A) (xs : List A) → P x → All P xs → All P (x ∷ xs)
all_cons P x xs p q zero d lt = p
all_cons P x xs p q (suc k) d lt = q k d (omega (arith, lt))

-- what is known of turns is known of their datagrams
entry_known : (way : Way) (n known : ℕ) (came : Came) (es : List Entry) → known < n → All (λ e. e.known < n) es → All (λ e. e.known < n) (entries_of_came way known came ++ es)
entry_known way n known idle es lt p = p
entry_known way n known oversize es lt p = p
entry_known way n known ended es lt p = p
entry_known way n known failed es lt p = p
entry_known way n known (took d silent) es lt p = all_cons (λ e. e.known < n) (record { packet = d; known = known; way = way }) es lt p
entry_known way n known (took d refused) es lt p = p
entry_known way n known (took d (tried serial octets went)) es lt p = all_cons (λ e. e.known < n) (record { packet = d; known = known; way = way }) es lt p

entries_known : (way : Way) (n : ℕ) (log : List Turn) → All (λ t. t.known < n) log → All (λ e. e.known < n) (entries_of way log)
entries_known way n [] p = λ k d lt. absurd (omega (arith, lt))
entries_known way n (t ∷ log) p = entry_known way n t.known t.came (entries_of way log) (p 0 t (omega arith)) (entries_known way n log (λ k d lt. p (suc k) d (omega (arith, lt))))

-- what a lane's turns took and tried, as a run over the history
abbrev pub IsOne : List Version → ℕ → LaneLog → Type 0
IsOne h w l = IsLaneRun replies h w 0 0 l.taken l.tries × All (λ e. e.known < length h) l.taken

one_run : {T : Type 0} (way : Way) (first : Version) (rest : List Version) (w : ℕ) (log : List Turn) (over : List Version) (served e : Ended) (before after : ServerTold T) → IsLaneRun replies over w 0 0 (entries_of way log) (tries_of log)
    → (which : IsOverNewest (first ∷ rest) over log served e before after ⊎ IsOverSeen first (first ∷ rest) over served e before after ⊎ IsOverPast (first ∷ rest) over log e before after) → IsOne (first ∷ rest) w (log_over way log which)
one_run way first rest w log over served e before after run (inl newest) = (subst (λ h. IsLaneRun replies h w 0 0 (entries_of way log) (tries_of log)) newest.same run, entries_known way (length (first ∷ rest)) log newest.known)
one_run way first rest w log over served e before after run (inr other) = (tt, λ k d lt. absurd (omega (arith, lt)))

-- a try is that of a reply, whatever the way of the lanes is that are spoken of
any_try : (a b : Way) (h : List Version) (w n : ℕ) (e : Entry) (s : Try) → IsTryOf (replies_by a) h w n e s → IsTryOf (replies_by b) h w n e s
any_try a b h w n e s t = record { to = t.to; fresh = t.fresh; version = t.version }

any_run : (a b : Way) (h : List Version) (w n floor : ℕ) (taken : List Entry) (tries : List Try) → IsLaneRun (replies_by a) h w n floor taken tries → IsLaneRun (replies_by b) h w n floor taken tries
any_run a b h w n floor [] [] r = r
any_run a b h w n floor [] (s ∷ tries) r = r
any_run a b h w n floor (e ∷ taken) [] r = (r.0, r.1, any_run a b h w (following n) e.known taken [] r.2)
any_run a b h w n floor (e ∷ taken) (s ∷ tries) r = (r.0, go (is_silent e.packet.octets) (any_run a b h w (following n) e.known taken (s ∷ tries)) (any_run a b h w (following n) s.serial taken tries) r.1)
  where
    go : (x : Bool) → (IsLaneRun (replies_by a) h w (following n) e.known taken (s ∷ tries) → IsLaneRun (replies_by b) h w (following n) e.known taken (s ∷ tries))
        → (IsLaneRun (replies_by a) h w (following n) s.serial taken tries → IsLaneRun (replies_by b) h w (following n) s.serial taken tries) → MatchBool x (IsLaneRun (replies_by a) h w (following n) e.known taken (s ∷ tries)) (IsTryOf (replies_by a) h w n e s × IsLaneRun (replies_by a) h w (following n) s.serial taken tries)
        → MatchBool x (IsLaneRun (replies_by b) h w (following n) e.known taken (s ∷ tries)) (IsTryOf (replies_by b) h w n e s × IsLaneRun (replies_by b) h w (following n) s.serial taken tries)
    go true quiet spoken r = quiet r
    go false quiet spoken r = (any_try a b h w n e s r.0, spoken r.1)

-- lanes and then others
runs_append : (h : List Version) (w : ℕ) (ls ks : List LaneLog) → AreRuns replies h w ls → AreRuns replies h (w + length ls) ks → AreRuns replies h w (ls ++ ks)
runs_append h w [] ks p q = let same : w + 0 ≡ w = omega arith in subst (λ x. AreRuns replies h x ks) same q
runs_append h w (l ∷ ls) ks p q = let next : w + suc (length ls) ≡ (w + 1) + length ls = omega arith in (p.0, p.1, runs_append h (w + 1) ls ks p.2 (subst (λ x. AreRuns replies h x ks) next q))

logs_length : (turns : ℕ) (first : Version) (rest : List Version) (w : ℕ) (ends : List Ended) (before after : List LaneTold) (d : AreDone turns first rest w ends before after) → length (logs_of turns first rest w ends before after d) ≡ length ends
logs_length turns first rest w [] before after d = refl
logs_length turns first rest w (e ∷ ends) [] after d = absurd d
logs_length turns first rest w (e ∷ ends) (b ∷ before) [] d = absurd d
logs_length turns first rest w (e ∷ ends) (b ∷ before) (c ∷ after) d = ap suc (logs_length turns first rest (w + 1) ends before after d.1)

lane_runs : (turns : ℕ) (first : Version) (rest : List Version) (w : ℕ) (ends : List Ended) (before after : List LaneTold) (d : AreDone turns first rest w ends before after) → AreRuns replies (first ∷ rest) w (logs_of turns first rest w ends before after d)
lane_runs turns first rest w [] before after d = tt
lane_runs turns first rest w (e ∷ ends) [] after d = absurd d
lane_runs turns first rest w (e ∷ ends) (b ∷ before) [] d = absurd d
lane_runs turns first rest w (e ∷ ends) (b ∷ before) (c ∷ after) d =
    let one = one_run replies.way first rest w d.0.log d.0.served_log.over d.0.served e b c d.0.served_log.run d.0.served_log.which in (one.0, one.1, lane_runs turns first rest (w + 1) ends before after d.1)

stream_runs : (turns : ℕ) (first : Version) (rest : List Version) (w : ℕ) (stream_end : Option Ended) (before after : StreamLaneTold) (d : AreStreamsDone turns first rest w stream_end before after)
    → AreRuns replies (first ∷ rest) w (stream_logs turns first rest w stream_end before after d)
stream_runs turns first rest w None before after d = tt
stream_runs turns first rest w (Some e) before after d =
    let run = any_run Stream Datagram d.served_log.over w 0 0 (entries_of stream_replies.way (lane_of d.log)) (tries_of (lane_of d.log)) d.served_log.run in
    let one = one_run stream_replies.way first rest w (lane_of d.log) d.served_log.over d.served e before after run d.served_log.which in (one.0, one.1, tt)

pub are_runs : (turns : ℕ) (first : Version) (end : FeedEnd) (ends : List Ended) (stream_end : Option Ended) (before after : LentTold) (d : IsDriven turns first end ends stream_end before after) → AreRuns replies (first ∷ d.rest) 0 (all_logs turns first end ends stream_end before after d)
are_runs turns first end ends stream_end before after d =
    let size : length ends ≡ 0 + length (logs_of turns first d.rest 0 ends before.lanes after.lanes d.lanes) = omega (arith, logs_length turns first d.rest 0 ends before.lanes after.lanes d.lanes) in
    runs_append (first ∷ d.rest) 0 (logs_of turns first d.rest 0 ends before.lanes after.lanes d.lanes) (stream_logs turns first d.rest (length ends) stream_end before.stream after.stream d.stream)
    (lane_runs turns first d.rest 0 ends before.lanes after.lanes d.lanes)
    (subst (λ x. AreRuns replies (first ∷ d.rest) x (stream_logs turns first d.rest (length ends) stream_end before.stream after.stream d.stream)) size (stream_runs turns first d.rest (length ends) stream_end before.stream after.stream d.stream))
