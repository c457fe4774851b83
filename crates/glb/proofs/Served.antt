-- What a drive comes to, as a session.
use Rattle.std.proofs.Common.{◌≡◌, ◌≢◌, ◌⊎◌, inl, inr, ℕ, ◌≤◌, Bool, true, false, List, [], ◌∷◌, length, refl, ap, ap₂, sym, subst, ◌∙◌}
use Rattle.std.specs.Prelude.{Option, None, Some, ◌-◌, ◌||◌, drop}
use Rattle.std.specs.List.{list_any}
use Rattle.std.specs.Option.{option_to_list}
use Rattle.addr_text.specs.declared.address.Listen.{Listen}
use Rattle.outside.specs.Faults.{Rose}
use Rattle.published_map.specs.Version.{Version}
use Rattle.lane_model.specs.declared.ended.Ended.{Ended}
use Rattle.demand_feed.specs.declared.run.FeedEnd.{FeedEnd}
use Rattle.demand_feed.specs.declared.run.FeedEnd.TheVariants as feed
use Rattle.drive.specs.Done.{LaneTold, StreamLaneTold}
use Rattle.drive.specs.Streams.{AreStreamsDone, IsStreamDone}
use Rattle.drive.specs.Driven.{AreEnds, IsDriven, LentTold}
use Rattle.drive.specs.Feeds.{AllStand, NoneFell}
use Rattle.glb.specs.Feeds.{with_feeds}
use Rattle.glb.specs.Words.{Service, streams_of}
use Rattle.glb.specs.declared.status.Status.{Status}
use Rattle.glb.specs.Causes.{AnyFeed, AnyLane, AnyServer, HasCellFault, HasEightPortFaults, HasFeedFault, HasHeard, HasTaken, OfStream}
use Rattle.glb.specs.Serve.{IsServed, all_ends, is_cell_fault, is_port_fault, is_spent, status_of}
use Rattle.glb.specs.Starting.{at_place, has_any, status_at}
use Rattle.glb.proofs.Causes.{any_cell, any_port, any_spent, cell_means, port_means, spent_means}
use Rattle.glb.proofs.StreamCauses.{stream_cell, stream_port, stream_spent}
use Rattle.std.proofs.lemmas.List.Folds.{list_any-append}
use Rattle.glb.proofs.Places.{any_at}

-- a test of the ends at the places and of one more is that of all ends
by_test : (test : Ended → Bool) (ends : List Ended) (places : List (Option Ended)) (stream_end : Option Ended) → AreEnds ends places → has_any test places stream_end ≡ list_any test (all_ends ends stream_end)
by_test test ends places stream_end are =
    let first : list_any (at_place test) places ≡ list_any test ends = ap (list_any (at_place test)) are ∙ any_at test ends (16 - length ends) in
    ap₂ (λ (x y : Bool). x || y) first (one stream_end) ∙ sym (list_any-append test ends (option_to_list stream_end))
  where
    one : (e : Option Ended) → list_any (at_place test) (e ∷ []) ≡ list_any test (option_to_list e)
    one None = refl
    one (Some e) = refl

-- the status by places is that by ends
by_ends : (end : FeedEnd) (ends : List Ended) (places : List (Option Ended)) (stream_end : Option Ended) → AreEnds ends places
    → status_at end places stream_end ≡ status_of end (list_any is_port_fault (all_ends ends stream_end)) (list_any is_spent (all_ends ends stream_end)) (list_any is_cell_fault (all_ends ends stream_end))
by_ends end ends places stream_end are = rw (by_test is_port_fault ends places stream_end are, by_test is_spent ends places stream_end are, by_test is_cell_fault ends places stream_end are) refl

-- where some lane ended so, a lane for datagrams or that for conversations has that
any_server : (test : Ended → Bool) (P : LaneTold → LaneTold → Type 0) (Q : StreamLaneTold → StreamLaneTold → Type 0) (ask : Service) (ends : List Ended) (stream_end : Option Ended) (before after : LentTold) → length ends ≡ ask.workers → length (option_to_list stream_end) ≡ streams_of ask.tcp
    → (list_any test ends ≡ true → AnyLane (length ends) P before.lanes after.lanes) → ((e : Ended) → stream_end ≡ Some e → test e ≡ true → Q before.stream after.stream) → list_any test (all_ends ends stream_end) ≡ true → AnyServer ask P Q before after
any_server test P Q ask ends stream_end before after as_many as_asked lanes stream some =
    elim (or_parts (list_any test ends) (list_any test (option_to_list stream_end)) (sym (list_any-append test ends (option_to_list stream_end)) ∙ some)) [
      | inl h ↦ inl (subst (λ (n : ℕ). AnyLane n P before.lanes after.lanes) as_many (lanes h))
      | inr h ↦ inr (of_stream ask.tcp stream_end as_asked stream h)
    ]
  where
    or_parts : (x y : Bool) → (x || y) ≡ true → (x ≡ true) ⊎ (y ≡ true)
    or_parts true y h = inl refl
    or_parts false y h = inr h

    is_true : (x : Bool) → (x || false) ≡ true → x ≡ true
    is_true true h = refl
    is_true false h = h

    of_stream : (tcp : Option Listen) (e : Option Ended) → length (option_to_list e) ≡ streams_of tcp → ((x : Ended) → e ≡ Some x → test x ≡ true → Q before.stream after.stream) → list_any test (option_to_list e) ≡ true → OfStream tcp Q before.stream after.stream
    of_stream None None same f h = absurd (cc)
    of_stream None (Some x) same f h = absurd (cc)
    of_stream (Some at) None same f h = absurd (cc)
    of_stream (Some at) (Some x) same f h = f x refl (is_true (test x) h)

pub is_served : (turns : ℕ) (ask : Service) (first : Version) (before after : LentTold) (end : FeedEnd) (places : List (Option Ended)) (stream_end : Option Ended) (result : Status)
    → (ends : List Ended) × (length ends ≡ ask.workers) × AreEnds ends places × IsDriven turns first end ends stream_end (with_feeds (length ask.more) before) (with_feeds (length ask.more) after) → drop (length ask.more) after.more ≡ drop (length ask.more) before.more → length (option_to_list stream_end) ≡ streams_of ask.tcp
    → result ≡ status_at end places stream_end → (end ≡ feed.SourceFault → Rose before.feed.faults after.feed.faults ⊎ AnyFeed (length ask.more) HasFeedFault before.more after.more)
    → (end ≢ feed.SourceFault → (end ≡ feed.SinkFault → ask.more ≡ []) → (after.feed.faults ≡ before.feed.faults) × AllStand before.more after.more) → (end ≡ feed.SinkFault → Rose before.out.faults after.out.faults ⊎ Rose before.maps.faults after.maps.faults)
    → (end ≢ feed.SinkFault → (after.out.faults ≡ before.out.faults) × (after.maps.faults ≡ before.maps.faults))
    → (before.feed.faults ≤ after.feed.faults) × (before.out.faults ≤ after.out.faults) × (before.maps.faults ≤ after.maps.faults) × NoneFell before.more after.more → IsServed turns ask first before after result
is_served turns ask first before after end places stream_end result (ends, as_many, are, driven) behind as_asked answer source stays sink sink_stays later =
    let all = all_ends ends stream_end in
    let p = list_any is_port_fault all in
    let s = list_any is_spent all in
    let c = list_any is_cell_fault all in
    let is : result ≡ status_of end p s c = answer ∙ by_ends end ends places stream_end are in
    record {
      end = end;
      ends = ends;
      stream_end = stream_end;
      as_many = as_many;
      as_asked = as_asked;
      driven = driven;
      behind = behind;
      result_is = is;
      source = source;
      source_stays = stays;
      sink = sink;
      sink_stays = sink_stays;
      port = λ h. any_server is_port_fault HasEightPortFaults HasEightPortFaults ask ends stream_end before after as_many as_asked (any_port turns first driven.rest ends before.lanes after.lanes driven.lanes)
          (λ e same fault. stream_port turns first driven.rest (length ends) before.stream after.stream e fault (done_by e same)) (port_means end p s c (sym h ∙ is));
      spent = λ h. spent_by (spent_means end p s c (sym h ∙ is));
      cell = λ h. any_server is_cell_fault (HasCellFault (length (first ∷ driven.rest))) (HasCellFault (length (first ∷ driven.rest))) ask ends stream_end before after as_many as_asked (any_cell turns first driven.rest ends before.lanes after.lanes driven.lanes)
          (λ e same fault. stream_cell turns first driven.rest (length ends) before.stream after.stream e fault (done_by e same)) (cell_means end p s c (sym h ∙ is));
      later = later;
    }
  where
    done_by : (e : Ended) → stream_end ≡ Some e → IsStreamDone turns first driven.rest (length ends) before.stream after.stream e
    done_by e same = subst (λ (x : Option Ended). AreStreamsDone turns first driven.rest (length ends) x before.stream after.stream) same driven.stream

    spent_by : (end ≡ feed.Spent) ⊎ (list_any is_spent (all_ends ends stream_end) ≡ true) → (end ≡ feed.Spent) ⊎ AnyServer ask (HasTaken turns) (HasHeard turns) before after
    spent_by (inl h) = inl h
    spent_by (inr h) = inr (any_server is_spent (HasTaken turns) (HasHeard turns) ask ends stream_end before after as_many as_asked (any_spent turns first driven.rest ends before.lanes after.lanes driven.lanes)
        (λ e same fault. stream_spent turns first driven.rest (length ends) before.stream after.stream e fault (done_by e same)) h)
