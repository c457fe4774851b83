-- A run of `serve` with status 0.
use Rattle.std.proofs.Common.{◌≡◌, ◌⊎◌, inl, inr, ℕ, ◌+◌, Bool, true, false, List, [], ◌∷◌, length, refl, ap, sym, ◌∙◌, subst}
use Rattle.std.specs.Prelude.{Option, None, Some, ◌||◌, take}
use Rattle.std.specs.List.{list_any}
use Rattle.topology_text.specs.Plan.{IsPlan, Plan}
use Rattle.published_map.specs.Version.{Version}
use Rattle.lane_model.specs.declared.ended.Ended.{Ended}
use Rattle.lane_model.specs.declared.ended.Ended.TheVariants as lane
use Rattle.lane_model.specs.Lanes.{Answers, IsLaneRun}
use Rattle.lane_model.specs.Replies.{replies}
use Rattle.lane_model.specs.Turns.{Turn, entries_of, tries_of}
use Rattle.demand_feed.specs.declared.run.FeedEnd.{FeedEnd}
use Rattle.demand_feed.specs.declared.run.FeedEnd.TheVariants as feed
use Rattle.drive.specs.Feeds.{AreFed}
use Rattle.mapper.specs.Scenes.{IsPrinted}
use Rattle.drive.specs.Closing.{shut}
use Rattle.drive.specs.Done.{IsDone, IsOverNewest, IsServedLog, LaneTold, ServerTold, StreamLaneTold}
use Rattle.drive.specs.Streams.{AreStreamsDone, IsStreamDone}
use Rattle.addr_text.specs.declared.address.Listen.{Listen}
use Rattle.tcp_lane.specs.Replies.{stream_replies}
use Rattle.tcp_lane.specs.Calls.{stream_refusals}
use Rattle.tcp_lane.specs.Stream.{IsStreamRun}
use Rattle.tcp_lane.specs.Turns.{lane_of, no_talk}
use Rattle.tcp_lane.proofs.Ends.{none_refused}
use Rattle.std.proofs.lemmas.List.Folds.{list_any-append}
use Rattle.std.specs.Option.{option_to_list}
use Rattle.drive.specs.Driven.{AreDone}
use Rattle.glb.specs.declared.status.Status.TheVariants as status
use Rattle.glb.specs.Words.{Service, streams_of}
use Rattle.glb.specs.Outcome.{Outcome, RunsBy}
use Rattle.glb.specs.Files.{IsRefused, Says, topology_file}
use Rattle.glb.specs.Loads.{files_between}
use Rattle.drive.specs.Driven.{LentTold, scene_at}
use Rattle.outside.specs.Faults.{BothTell, DeviceState}
use Rattle.outside.specs.Sink.{Written}
use Rattle.mapper.specs.Words.{map_text}
use Rattle.glb.specs.Told.{Surroundings}
use Rattle.glb.specs.Serve.{IsFirstOf, IsPlaced, IsServeRun, IsServed, IsStarted, all_ends, is_cell_fault, is_port_fault, is_spent, status_by, status_of}
use Rattle.glb.specs.Served.{AreWellDone, IsStreamWell, IsStreamWellDone, IsWellDone, IsWellServed}
use Rattle.glb.proofs.Histories.{texts_of}

well_end : (e : Ended) → is_port_fault e ≡ false → is_spent e ≡ false → is_cell_fault e ≡ false → (e ≡ lane.Stopped) ⊎ (e ≡ lane.PortEnd)
well_end lane.Stopped p s c = inl refl
well_end lane.PortEnd p s c = inr refl
well_end lane.PortFault p s c = absurd (cc)
well_end lane.CellFault p s c = absurd (cc)
well_end (lane.Above known newest) p s c = absurd (cc)
well_end lane.Spent p s c = absurd (cc)

-- a lane whose closing look was refused did not end well
not_shut : (served e : Ended) → e ≡ shut served → (e ≡ lane.Stopped) ⊎ (e ≡ lane.PortEnd) → ⊥
not_shut lane.Stopped e is (inl h) = cc
not_shut lane.Stopped e is (inr h) = cc
not_shut lane.PortEnd e is (inl h) = cc
not_shut lane.PortEnd e is (inr h) = cc
not_shut lane.PortFault e is (inl h) = cc
not_shut lane.PortFault e is (inr h) = cc
not_shut lane.CellFault e is (inl h) = cc
not_shut lane.CellFault e is (inr h) = cc
not_shut (lane.Above known newest) e is (inl h) = cc
not_shut (lane.Above known newest) e is (inr h) = cc
not_shut lane.Spent e is (inl h) = cc
not_shut lane.Spent e is (inr h) = cc

not_past : (e : Ended) (known newest : ℕ) → e ≡ lane.Above known newest → (e ≡ lane.Stopped) ⊎ (e ≡ lane.PortEnd) → ⊥
not_past e known newest is (inl h) = cc
not_past e known newest is (inr h) = cc

none_of : (test : Ended → Bool) (e : Ended) (ends : List Ended) → list_any test (e ∷ ends) ≡ false → (test e ≡ false) × (list_any test ends ≡ false)
none_of test e ends = go (test e) refl
  where
    go : (b : Bool) → test e ≡ b → list_any test (e ∷ ends) ≡ false → (test e ≡ false) × (list_any test ends ≡ false)
    go true is h = let other : true ≡ false = subst (λ (x : Bool). (x || list_any test ends) ≡ false) is h in absurd (cc)
    go false is h = (is, subst (λ (x : Bool). (x || list_any test ends) ≡ false) is h)

-- a lane that ended well stands over the newest history
over_newest : {T : Type 0} (a : Answers Version) (first : Version) (rest : List Version) (w : ℕ) (log : List Turn) (served e : Ended) (shown : ℕ) (b c : ServerTold T) → (d : IsServedLog a first rest w log served e shown b c) → (e ≡ lane.Stopped) ⊎ (e ≡ lane.PortEnd)
    → IsOverNewest (first ∷ rest) d.over log served e b c
over_newest a first rest w log served e shown b c d well = elim d.which [
  | inl newest ↦ newest
  | inr (inl seen) ↦ absurd (not_shut served e seen.ended_is well)
  | inr (inr past) ↦ absurd (not_past e past.last past.newest past.ended_is well)
]

well_done : (turns : ℕ) (first : Version) (rest : List Version) (w : ℕ) (b c : LaneTold) (e : Ended) → IsDone turns first rest w b c e → (e ≡ lane.Stopped) ⊎ (e ≡ lane.PortEnd) → IsWellDone turns (first ∷ rest) w b c
well_done turns first rest w b c e d well =
    let newest = over_newest replies first rest w d.log d.served e d.shown b c d.served_log well in
    record {
      log = d.log;
      ended = d.served;
      shown = d.shown;
      run = subst (λ h. IsLaneRun replies h w 0 0 (entries_of replies.way d.log) (tries_of d.log)) newest.same d.served_log.run;
      told = d.served_log.told;
      fates = d.served_log.fates;
      numbers = d.served_log.numbers;
      notes = d.notes;
      noted = newest.noted;
      last = d.served_log.last.0;
      port = d.port;
      gate = d.gate;
      port_faults = d.served_log.port_faults;
      port_stays = d.served_log.port_stays;
      ending = d.ending;
      well = subst (λ (x : Ended). (x ≡ lane.Stopped) ⊎ (x ≡ lane.PortEnd)) newest.ended_is well;
    }

-- no look of a lane that ended well was refused
not_blind : (e : Ended) → (e ≡ lane.Stopped) ⊎ (e ≡ lane.PortEnd) → e ≡ lane.CellFault → ⊥
not_blind e (inl h) is = cc
not_blind e (inr h) is = cc

-- the same of the lane for conversations
stream_well_done : (turns : ℕ) (first : Version) (rest : List Version) (w : ℕ) (b c : StreamLaneTold) (e : Ended) → IsStreamDone turns first rest w b c e → (e ≡ lane.Stopped) ⊎ (e ≡ lane.PortEnd) → IsStreamWellDone turns (first ∷ rest) w b c
stream_well_done turns first rest w b c e d well =
    let newest = over_newest stream_replies first rest w (lane_of d.log) d.served e d.shown b c d.served_log well in
    let served = subst (λ (x : Ended). (x ≡ lane.Stopped) ⊎ (x ≡ lane.PortEnd)) newest.ended_is well in
    let none : stream_refusals d.log ≡ 0 = none_refused turns d.log no_talk d.rules.0 d.served d.rules.1 d.ending (not_blind d.served served) in
    record {
      log = d.log;
      closes = d.closes;
      ended = d.served;
      shown = d.shown;
      runs = λ s fresh. let r = d.runs s fresh in (
        r.0,
        r.1,
        r.2,
        subst (λ (k : ℕ). IsStreamRun stream_replies (first ∷ rest) w 0 0 k r.0 (entries_of stream_replies.way (lane_of d.log)) (tries_of (lane_of d.log))) none
            (subst (λ h. IsStreamRun stream_replies h w 0 0 (stream_refusals d.log) r.0 (entries_of stream_replies.way (lane_of d.log)) (tries_of (lane_of d.log))) newest.same r.3),
      );
      rules = d.rules;
      told = d.served_log.told;
      fates = d.served_log.fates;
      numbers = d.served_log.numbers;
      notes = d.notes;
      noted = newest.noted;
      last = d.served_log.last.0;
      streams = d.streams;
      gate = d.gate;
      port_faults = d.served_log.port_faults;
      port_stays = d.served_log.port_stays;
      ending = d.ending;
      well = served;
    }

stream_well : (turns : ℕ) (first : Version) (rest : List Version) (w : ℕ) (tcp : Option Listen) (e : Option Ended) (b c : StreamLaneTold) → length (option_to_list e) ≡ streams_of tcp → AreStreamsDone turns first rest w e b c
    → list_any is_port_fault (option_to_list e) ≡ false → list_any is_spent (option_to_list e) ≡ false → list_any is_cell_fault (option_to_list e) ≡ false → IsStreamWell tcp turns (first ∷ rest) w b c
stream_well turns first rest w None None b c same d p s f = d
stream_well turns first rest w None (Some e) b c same d p s f = absurd (cc)
stream_well turns first rest w (Some at) None b c same d p s f = absurd (cc)
stream_well turns first rest w (Some at) (Some e) b c same d p s f = stream_well_done turns first rest w b c e d (well_end e (none_of is_port_fault e [] p).0 (none_of is_spent e [] s).0 (none_of is_cell_fault e [] f).0)

all_well : (turns : ℕ) (first : Version) (rest : List Version) (w : ℕ) (ends : List Ended) (before after : List LaneTold) → AreDone turns first rest w ends before after
    → list_any is_port_fault ends ≡ false → list_any is_spent ends ≡ false → list_any is_cell_fault ends ≡ false → AreWellDone turns (first ∷ rest) w (length ends) before after
all_well turns first rest w [] before after h p s c = h
all_well turns first rest w (e ∷ ends) (b ∷ before) (a ∷ after) h p s c =
    let ports = none_of is_port_fault e ends p in
    let spents = none_of is_spent e ends s in
    let cells = none_of is_cell_fault e ends c in
    (well_done turns first rest w b a e h.0 (well_end e ports.0 spents.0 cells.0), all_well turns first rest (w + 1) ends before after h.1 ports.1 spents.1 cells.1)
all_well turns first rest w (e ∷ ends) [] after h p s c = absurd h
all_well turns first rest w (e ∷ ends) (b ∷ before) [] h p s c = absurd h

-- of both kinds of lanes
both_none : (test : Ended → Bool) (ends : List Ended) (e : Option Ended) → list_any test (all_ends ends e) ≡ false → (list_any test ends ≡ false) × (list_any test (option_to_list e) ≡ false)
both_none test ends e h = parts (list_any test ends) (list_any test (option_to_list e)) (sym (list_any-append test ends (option_to_list e)) ∙ h)
  where
    parts : (x y : Bool) → (x || y) ≡ false → (x ≡ false) × (y ≡ false)
    parts true y h = absurd (cc)
    parts false y h = (refl, h)

by_parts : (p s m c : Bool) → status.Ok ≡ status_by p s m c → (p ≡ false) × (s ≡ false) × (m ≡ false) × (c ≡ false)
by_parts false false false false h = (refl, refl, refl, refl)
by_parts true s m c h = absurd (cc)
by_parts false true m c h = absurd (cc)
by_parts false false true c h = absurd (cc)
by_parts false false false true h = absurd (cc)

ok_parts : (end : FeedEnd) (p s c : Bool) → status.Ok ≡ status_of end p s c → (end ≡ feed.Ended) × (p ≡ false) × (s ≡ false) × (c ≡ false)
ok_parts feed.Ended p s c h = let parts = by_parts p s false c h in (refl, parts.0, parts.1, parts.3)
ok_parts feed.Spent p s c h = let parts = by_parts p true false c h in absurd (cc)
ok_parts feed.SourceFault p s c h = absurd (cc)
ok_parts feed.SinkFault p s c h = absurd (cc)
ok_parts feed.NoMemory p s c h = let parts = by_parts p s true c h in absurd (cc)

-- a session over a topology
session_well : (turns : ℕ) (ask : Service) (topology : Plan) (before after : Surroundings) → IsPlan topology → Says topology_file (files_between before.files.past after.files.past) ask.topology topology
    → (placed started : LentTold) (first : Version) → IsPlaced ask before.lent placed → IsFirstOf topology first → IsStarted ask first placed started
    → IsServed turns ask first started after.lent status.Ok → IsWellServed turns ask before after
session_well turns ask topology before after plan says placed started first place is_first start served =
    let parts = ok_parts served.end (list_any is_port_fault (all_ends served.ends served.stream_end)) (list_any is_spent (all_ends served.ends served.stream_end)) (list_any is_cell_fault (all_ends served.ends served.stream_end)) served.result_is in
    let ports = both_none is_port_fault served.ends served.stream_end parts.1 in
    let spents = both_none is_spent served.ends served.stream_end parts.2 in
    let cells = both_none is_cell_fault served.ends served.stream_end parts.3 in
    let d = served.driven in
    let count = length ask.more in
    let fed : AreFed topology turns feed.Ended started.feed (take count started.more) after.lent.feed (take count after.lent.more) (scene_at first (first ∷ []) started) (scene_at d.newest (first ∷ d.rest) after.lent) =
    subst (λ (t : Plan). AreFed t turns feed.Ended started.feed (take count started.more) after.lent.feed (take count after.lent.more) (scene_at first (first ∷ []) started) (scene_at d.newest (first ∷ d.rest) after.lent)) is_first.0.plan
    (subst (λ (e : FeedEnd). AreFed first.plan turns e started.feed (take count started.more) after.lent.feed (take count after.lent.more) (scene_at first (first ∷ []) started) (scene_at d.newest (first ∷ d.rest) after.lent)) parts.0 d.feed) in
    let placed_maps : placed.maps ≡ before.lent.maps = ap (λ (l : LentTold). l.maps) place.rest in
    record {
      topology = topology;
      is_plan = plan;
      says = says;
      first = first;
      rest = d.rest;
      newest = d.newest;
      is_first = is_first;
      goes_on = d.goes_on;
      texts = texts_of topology turns started.feed after.lent.feed (take count started.more) (take count after.lent.more) first d.rest before.lent.maps.past (scene_at first (first ∷ []) started) (scene_at d.newest (first ∷ d.rest) after.lent) refl refl
          (subst (λ (m : DeviceState Written). BothTell m.past started.maps.past (IsPrinted (map_text first ∷ []))) placed_maps start.put) fed;
      placed = placed;
      started = started;
      place = place;
      start = start;
      fed = fed;
      lanes = subst (λ (n : ℕ). AreWellDone turns (first ∷ d.rest) 0 n started.lanes after.lent.lanes) served.as_many
          (all_well turns first d.rest 0 served.ends started.lanes after.lent.lanes d.lanes ports.0 spents.0 cells.0);
      stream = stream_well turns first d.rest ask.workers ask.tcp served.stream_end started.stream after.lent.stream served.as_asked
          (subst (λ (n : ℕ). AreStreamsDone turns first d.rest n served.stream_end started.stream after.lent.stream) served.as_many d.stream) ports.1 spents.1 cells.1;
      served = served;
      one = refl;
    }

-- what status 0 says
pub well_served : (turns : ℕ) (ask : Service) (before after : Surroundings) → IsServeRun turns ask before after status.Ok → IsWellServed turns ask before after
well_served turns ask before after (inl unread) = absurd (not_read unread.run)
  where
    not_read : RunsBy (IsRefused topology_file (files_between before.files.past after.files.past) ask.topology) before.lent.out.past after.lent.out.past status.Ok → ⊥
    not_read (inl whole) = let is : whole.due.status ≡ status.Refused = ap (λ (o : Outcome). o.status) whole.is_due.4 in let same = whole.status in cc
    not_read (inr (inl cut)) = let is = cut.status in cc
    not_read (inr (inr silent)) = elim silent.status [ inl is ↦ cc | inr is ↦ cc ]
well_served turns ask before after (inr (topology, plan, says, inl unopened)) = elim unopened.why [ inl is ↦ absurd (cc) | inr is ↦ let fault = is.0 in absurd (cc) ]
well_served turns ask before after (inr (topology, plan, says, inr (placed, first, place, is_first, inl shut))) = let is = shut.why in absurd (cc)
well_served turns ask before after (inr (topology, plan, says, inr (placed, first, place, is_first, inr (inl shut)))) = let is = shut.why in absurd (cc)
well_served turns ask before after (inr (topology, plan, says, inr (placed, first, place, is_first, inr (inr (inl unput))))) = let is = unput.why in absurd (cc)
well_served turns ask before after (inr (topology, plan, says, inr (placed, first, place, is_first, inr (inr (inr (inl h)))))) = let is = h.0 in absurd (cc)
well_served turns ask before after (inr (topology, plan, says, inr (placed, first, place, is_first, inr (inr (inr (inr (started, start, served))))))) = session_well turns ask topology before after plan says placed started first place is_first start served
