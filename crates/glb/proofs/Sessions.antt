-- Counts of faults over a session.
use Rattle.std.proofs.Common.{◌≡◌, inl, inr, ℕ, Bool, true, false, length, map, refl, ap, sym, ◌∙◌, arith}
use Rattle.std.specs.List.{list_any}
use Rattle.glb.specs.Words.{Service}
use Rattle.topology_text.specs.Plan.{Plan}
use Rattle.published_map.specs.Version.{Version}
use Rattle.demand_feed.specs.declared.run.FeedEnd.{FeedEnd}
use Rattle.demand_feed.specs.declared.run.FeedEnd.TheVariants as feed
use Rattle.outside.specs.Faults.{DeviceState}
use Rattle.outside.specs.Source.{Fed}
use Rattle.outside.specs.Sink.{Written}
use Rattle.glb.specs.declared.status.Status.{Status}
use Rattle.glb.specs.declared.status.Status.TheVariants as status
use Rattle.glb.specs.Serve.{IsFirstSession, IsSession, IsServed, IsStarted, all_ends, all_ready, is_cell_fault, is_port_fault, is_spent, status_by, status_of, then_failed}
use Rattle.glb.specs.Starting.{IsSessionLater}
use Rattle.drive.specs.Driven.{LentTold}
use Rattle.drive.specs.Feeds.{AllStand}
use Rattle.glb.proofs.Named.{failed_feed, fault_from, fell_from, opened_fell, opened_stand, stand_fell, stand_on}

by_source : (p s m c : Bool) → status.SourceFault ≡ status_by p s m c → ⊥
by_source true s m c h = cc
by_source false true m c h = cc
by_source false false true c h = cc
by_source false false false true h = cc
by_source false false false false h = cc

by_sink : (p s m c : Bool) → status.SinkFault ≡ status_by p s m c → ⊥
by_sink true s m c h = cc
by_sink false true m c h = cc
by_sink false false true c h = cc
by_sink false false false true h = cc
by_sink false false false false h = cc

source_means : (end : FeedEnd) (p s c : Bool) → status.SourceFault ≡ status_of end p s c → end ≡ feed.SourceFault
source_means feed.SourceFault p s c h = refl
source_means feed.SinkFault p s c h = absurd (cc)
source_means feed.Ended p s c h = absurd (by_source p s false c h)
source_means feed.NoMemory p s c h = absurd (by_source p s true c h)
source_means feed.Spent p s c h = absurd (by_source p true false c h)

sink_means : (end : FeedEnd) (p s c : Bool) → status.SinkFault ≡ status_of end p s c → end ≡ feed.SinkFault
sink_means feed.SinkFault p s c h = refl
sink_means feed.SourceFault p s c h = absurd (cc)
sink_means feed.Ended p s c h = absurd (by_sink p s false c h)
sink_means feed.NoMemory p s c h = absurd (by_sink p s true c h)
sink_means feed.Spent p s c h = absurd (by_sink p true false c h)

-- the counts of two moments are the same
record IsSameCounts (before after : LentTold) : Type 0 where
  feed : after.feed.faults ≡ before.feed.faults
  more : AllStand before.more after.more
  out : after.out.faults ≡ before.out.faults
  maps : after.maps.faults ≡ before.maps.faults

-- no feed and no output was touched
untouched : (before after : LentTold) → after.feed ≡ before.feed → after.more ≡ before.more → after.out ≡ before.out → after.maps ≡ before.maps → IsSameCounts before after
untouched before after feed more out maps = record {
  feed = ap (λ (x : DeviceState Fed). x.faults) feed;
  more = ap (map (λ (x : DeviceState Fed). x.faults)) more;
  out = ap (λ (x : DeviceState Written). x.faults) out;
  maps = ap (λ (x : DeviceState Written). x.faults) maps;
}

-- all that was to be opened is open
all_open : (ask : Service) (first : Version) (before after : LentTold) → IsStarted ask first before after → IsSameCounts before after
all_open ask first before after start = record {
  feed = ap (λ (l : LentTold). l.feed.faults) start.rest;
  more = opened_stand ask.more (length ask.more) before.more after.more start.named;
  out = ap (λ (l : LentTold). l.out.faults) start.rest;
  maps = start.stays;
}

no_fault : (ask : Service) (before after : LentTold) (result : Status) → IsSameCounts before after → (result ≡ status.SourceFault → ⊥) → (result ≡ status.SinkFault → ⊥) → IsSessionLater ask before after result
no_fault ask before after result same source sink = record {
  feed = omega (arith, same.feed);
  more = stand_fell before.more after.more same.more;
  out = omega (arith, same.out);
  maps = omega (arith, same.maps);
  source = λ h. absurd (source h);
  sink = λ h. absurd (sink h);
  feed_stays = λ none one. (same.feed, same.more);
  out_stays = λ none. same.out;
  maps_stay = λ none. same.maps;
}

served_later : (turns : ℕ) (ask : Service) (first : Version) (before after : LentTold) (result : Status) → IsServed turns ask first before after result → IsSessionLater ask before after result
served_later turns ask first before after result s = record {
  feed = s.later.0;
  more = s.later.3;
  out = s.later.1;
  maps = s.later.2;
  source = λ h. s.source (source_means s.end (list_any is_port_fault (all_ends s.ends s.stream_end)) (list_any is_spent (all_ends s.ends s.stream_end)) (list_any is_cell_fault (all_ends s.ends s.stream_end)) (sym h ∙ s.result_is));
  sink = λ h. s.sink (sink_means s.end (list_any is_port_fault (all_ends s.ends s.stream_end)) (list_any is_spent (all_ends s.ends s.stream_end)) (list_any is_cell_fault (all_ends s.ends s.stream_end)) (sym h ∙ s.result_is));
  feed_stays = λ none one. s.source_stays (λ e. none (ended e)) (λ e. one (ended e));
  out_stays = λ none. (s.sink_stays (λ e. none (ended e))).0;
  maps_stay = λ none. (s.sink_stays (λ e. none (ended e))).1;
}
  where
    ended : {end : FeedEnd} → s.end ≡ end → result ≡ status_of end (list_any is_port_fault (all_ends s.ends s.stream_end)) (list_any is_spent (all_ends s.ends s.stream_end)) (list_any is_cell_fault (all_ends s.ends s.stream_end))
    ended e = s.result_is ∙ ap (λ x. status_of x (list_any is_port_fault (all_ends s.ends s.stream_end)) (list_any is_spent (all_ends s.ends s.stream_end)) (list_any is_cell_fault (all_ends s.ends s.stream_end))) e

-- what is so from a moment on is so from one with the same counts
from_same : (ask : Service) (a b c : LentTold) (result : Status) → IsSameCounts a b → IsSessionLater ask b c result → IsSessionLater ask a c result
from_same ask a b c result same later = record {
  feed = omega (arith, same.feed, later.feed);
  more = fell_from a.more b.more c.more same.more later.more;
  out = omega (arith, same.out, later.out);
  maps = omega (arith, same.maps, later.maps);
  source = λ h. elim (later.source h) [ inl rose ↦ inl (omega (arith, same.feed, rose)) | inr rose ↦ inr (fault_from (length ask.more) a.more b.more c.more same.more rose) ];
  sink = λ h. elim (later.sink h) [ inl r ↦ inl (omega (arith, same.out, r)) | inr r ↦ inr (omega (arith, same.maps, r)) ];
  feed_stays = λ none one. let stays = later.feed_stays none one in (stays.0 ∙ same.feed, stand_on a.more b.more c.more same.more stays.1);
  out_stays = λ none. later.out_stays none ∙ same.out;
  maps_stay = λ none. later.maps_stay none ∙ same.maps;
}

started_later : (turns : ℕ) (ask : Service) (first : Version) (before after : LentTold) (result : Status) → IsFirstSession turns ask first before after result → IsSessionLater ask before after result
started_later turns ask first before after result (inl shut) =
    no_fault ask before after result (untouched before after (ap (λ (l : LentTold). l.feed) shut.rest) (ap (λ (l : LentTold). l.more) shut.rest) (ap (λ (l : LentTold). l.out) shut.rest) (ap (λ (l : LentTold). l.maps) shut.rest)) (λ h. let is = shut.why in cc) (λ h. let is = shut.why in cc)
started_later turns ask first before after result (inr (inl shut)) = record {
  feed = let same = ap (λ (l : LentTold). l.feed.faults) shut.rest in omega (arith, same);
  more = opened_fell ask.more (then_failed shut.named.0) before.more after.more shut.named.2;
  out = let same = ap (λ (l : LentTold). l.out.faults) shut.rest in omega (arith, same);
  maps = let same = ap (λ (l : LentTold). l.maps.faults) shut.rest in omega (arith, same);
  source = λ h. inr (failed_feed ask.more shut.named.0 (length ask.more) before.more after.more shut.named.1 shut.named.2);
  sink = λ h. let is = shut.why in absurd (cc);
  feed_stays = λ none one. absurd (none shut.why);
  out_stays = λ none. ap (λ (l : LentTold). l.out.faults) shut.rest;
  maps_stay = λ none. ap (λ (l : LentTold). l.maps.faults) shut.rest;
}
started_later turns ask first before after result (inr (inr (inl unput))) = record {
  feed = let same = ap (λ (l : LentTold). l.feed.faults) unput.rest in omega (arith, same);
  more = opened_fell ask.more (all_ready (length ask.more)) before.more after.more unput.named;
  out = let same = ap (λ (l : LentTold). l.out.faults) unput.rest in omega (arith, same);
  maps = let rose = unput.rose in omega (arith, rose);
  source = λ h. let is = unput.why in absurd (cc);
  sink = λ h. inr unput.rose;
  feed_stays = λ none one. (ap (λ (l : LentTold). l.feed.faults) unput.rest, opened_stand ask.more (length ask.more) before.more after.more unput.named);
  out_stays = λ none. ap (λ (l : LentTold). l.out.faults) unput.rest;
  maps_stay = λ none. absurd (none unput.why);
}
started_later turns ask first before after result (inr (inr (inr (inl h)))) =
    no_fault ask before after result (all_open ask first before after h.1) (λ k. let is = h.0 in cc) (λ k. let is = h.0 in cc)
started_later turns ask first before after result (inr (inr (inr (inr (started, start, served))))) =
    from_same ask before started after result (all_open ask first before started start) (served_later turns ask first started after result served)

pub session_later : (turns : ℕ) (ask : Service) (t : Plan) (before after : LentTold) (result : Status) → IsSession turns ask t before after result → IsSessionLater ask before after result
session_later turns ask t before after result (inl unopened) =
    no_fault ask before after result (untouched before after (ap (λ (l : LentTold). l.feed) unopened.rest) (ap (λ (l : LentTold). l.more) unopened.rest) (ap (λ (l : LentTold). l.out) unopened.rest) (ap (λ (l : LentTold). l.maps) unopened.rest))
    (λ h. elim unopened.why [ inl is ↦ cc | inr is ↦ let fault = is.0 in cc ]) (λ h. elim unopened.why [ inl is ↦ cc | inr is ↦ let fault = is.0 in cc ])
session_later turns ask t before after result (inr (placed, first, place, is_first, session)) =
    from_same ask before placed after result (untouched before placed (ap (λ (l : LentTold). l.feed) place.rest) (ap (λ (l : LentTold). l.more) place.rest) (ap (λ (l : LentTold). l.out) place.rest) (ap (λ (l : LentTold). l.maps) place.rest)) (started_later turns ask first placed after result session)
