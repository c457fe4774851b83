-- Sessions behind the opening of the cell.
use Rattle.std.proofs.Common.{◌≡◌, ◌≢◌, ◌⊎◌, inl, inr, ℕ, ◌≤◌, List, [], ◌++◌, length, refl, ap, sym, subst, ◌∙◌}
use Rattle.std.specs.Prelude.{Option, take, drop}
use Rattle.std.specs.Option.{option_to_list}
use Rattle.outside.specs.Faults.{DeviceState, Rose}
use Rattle.outside.specs.Sink.{Written}
use Rattle.outside.specs.Source.{Fed}
use Rattle.outside.specs.declared.pace.PaceCall.{PaceCall}
use Rattle.topology_text.specs.Plan.{Plan}
use Rattle.map_cell.specs.Ends.{PublisherState}
use Rattle.map_cell.specs.declared.door.OpenFault.{OpenFault}
use Rattle.map_cell.specs.declared.door.OpenFault.TheVariants as open_fault
use Rattle.lane_model.specs.declared.ended.Ended.{Ended}
use Rattle.demand_feed.specs.declared.run.FeedEnd.{FeedEnd}
use Rattle.demand_feed.specs.declared.run.FeedEnd.TheVariants as feed
use Rattle.published_map.specs.Version.{Version}
use Rattle.mapper.specs.Words.{map_text}
use Rattle.mapper.specs.Mappers.{IsFirst, IsFromScratch}
use Rattle.drive.specs.Done.{LaneTold, StreamLaneTold}
use Rattle.drive.specs.Driven.{AreEnds, IsDriven, LentTold}
use Rattle.drive.specs.Feeds.{AllStand, AnyRose, NoneFell}
use Rattle.glb.specs.Causes.{AnyFeed, HasFeedFault}
use Rattle.glb.specs.Feeds.{with_feeds}
use Rattle.glb.specs.declared.starting.Start.TheVariants as start
use Rattle.glb.specs.declared.status.Status.{Status}
use Rattle.glb.specs.declared.status.Status.TheVariants as status
use Rattle.glb.specs.Serve.{IsFirstSession, IsSession, IsStarted, PlacedFirst}
use Rattle.glb.specs.Starting.{Begun, IsAskedSome, IsStart, status_at}
use Rattle.glb.specs.Words.{Service, lanes_of, streams_of}
use Rattle.std.proofs.Math.Seq.{drop-append_seam, take-append_seam}
use Rattle.glb.proofs.Named.{all_stand_more, any_rose, fell_more}
use Rattle.glb.proofs.Served.{is_served}

-- what a start touches, of all that is lent
abbrev pub begun_of : LentTold → Begun
begun_of s = record { more = s.more; maps = s.maps; lanes = s.lanes; stream = s.stream }

-- the same behind it
abbrev pub with_begun : LentTold → Begun → LentTold
with_begun s b = record s { more = b.more; maps = b.maps; lanes = b.lanes; stream = b.stream }

-- the session was started
pub starts : (ask : Service) (first : Version) (text : List ℕ) (before : LentTold) (b : Begun) → text ≡ map_text first → IsStart ask text start.Ready (begun_of before) b → IsStarted ask first before (with_begun before b)
starts ask first text before b is h =
    let k = subst (λ t. IsStart ask t start.Ready (begun_of before) b) is h in
    record { opened = k.0; stream = k.1; named = k.2; put = k.3; stays = k.4; rest = refl }

-- all that is lent, by its parts
abbrev lent_with : DeviceState Fed → List (DeviceState Fed) → DeviceState Written → DeviceState Written → DeviceState (List PaceCall) → List LaneTold → StreamLaneTold → LentTold
lent_with feed more out maps pace lanes stream = record { feed = feed; more = more; out = out; maps = maps; pace = pace; lanes = lanes; stream = stream }

-- what is lent, of the same parts
pub same_lent : (feed feed' : DeviceState Fed) (more more' : List (DeviceState Fed)) (out out' maps maps' : DeviceState Written) (pace pace' : DeviceState (List PaceCall)) (lanes lanes' : List LaneTold) (stream stream' : StreamLaneTold)
    → feed ≡ feed' → more ≡ more' → out ≡ out' → maps ≡ maps' → pace ≡ pace' → lanes ≡ lanes' → stream ≡ stream'
    → lent_with feed more out maps pace lanes stream ≡ lent_with feed' more' out' maps' pace' lanes' stream'
same_lent feed feed' more more' out out' maps maps' pace pace' lanes lanes' stream stream' a b c d e f g = rw (a, b, c, d, e, f, g) refl

-- it was started, and then memory was wanting
pub unfed_session : (turns : ℕ) (ask : Service) (first : Version) (before started after : LentTold) → IsStarted ask first before started → after ≡ started → IsFirstSession turns ask first before after status.NoMemory
unfed_session turns ask first before started after start same = inr (inr (inr (inl (refl, subst (IsStarted ask first before) (sym same) start))))

-- the first of two lists one behind the other, and what is behind them
front_is : (front behind : List (DeviceState Fed)) (n : ℕ) → length front ≡ n → take n (front ++ behind) ≡ front
front_is front behind n is = subst (λ (k : ℕ). take k (front ++ behind) ≡ front) is (take-append_seam front behind)

behind_is : {A : Type 0} (front behind : List A) (n : ℕ) → length front ≡ n → drop n (front ++ behind) ≡ behind
behind_is front behind n is = subst (λ (k : ℕ). drop k (front ++ behind) ≡ behind) is (drop-append_seam front behind)

-- what is behind as many others is the same
pub behind_same : {A : Type 0} (n : ℕ) (before after front then behind : List A) → before ≡ front ++ behind → after ≡ then ++ behind → length front ≡ n → length then ≡ length front → drop n after ≡ drop n before
behind_same n before after front then behind was is count same = ap (drop n) is ∙ behind_is then behind n (same ∙ count) ∙ sym (ap (drop n) was ∙ behind_is front behind n count)

-- it was started and served, with these further feeds ahead of those that were not opened
pub served_session : (turns : ℕ) (ask : Service) (first : Version) (before started after : LentTold) (front then behind : List (DeviceState Fed)) (end : FeedEnd) (places : List (Option Ended)) (stream_end : Option Ended) (result : Status) → IsStarted ask first before started
    → started.more ≡ front ++ behind → after.more ≡ then ++ behind → length front ≡ length ask.more → length then ≡ length front
    → (ends : List Ended) × (length ends ≡ ask.workers) × AreEnds ends places × IsDriven turns first end ends stream_end (record started { more = front }) (record after { more = then }) → length (option_to_list stream_end) ≡ streams_of ask.tcp
    → result ≡ status_at end places stream_end → (end ≡ feed.SourceFault → Rose started.feed.faults after.feed.faults ⊎ AnyRose front then) → (end ≢ feed.SourceFault → (end ≡ feed.SinkFault → ask.more ≡ []) → (after.feed.faults ≡ started.feed.faults) × AllStand front then)
    → (end ≡ feed.SinkFault → Rose started.out.faults after.out.faults ⊎ Rose started.maps.faults after.maps.faults) → (end ≢ feed.SinkFault → (after.out.faults ≡ started.out.faults) × (after.maps.faults ≡ started.maps.faults))
    → (started.feed.faults ≤ after.feed.faults) × (started.out.faults ≤ after.out.faults) × (started.maps.faults ≤ after.maps.faults) × NoneFell front then → IsFirstSession turns ask first before after result
served_session turns ask first before started after front then behind end places stream_end result start more past count same (ends, as_many, are, driven) asked answer source stays sink sink_stays later =
    inr (inr (inr (inr (
      started,
      start,
      is_served turns ask first started after end places stream_end result (ends, as_many, are, whole) untouched asked answer (λ h. elim (source h) [ inl rose ↦ inl rose | inr rose ↦ inr (some rose) ])
          (λ h k. let s = stays h k in (s.0, subst (λ (xs : List (DeviceState Fed)). AllStand xs after.more) (sym more) (subst (λ (xs : List (DeviceState Fed)). AllStand (front ++ behind) xs) (sym past) (all_stand_more front then behind s.1))))
          sink sink_stays (later.0, later.1, later.2, subst (λ (xs : List (DeviceState Fed)). NoneFell xs after.more) (sym more) (subst (λ (xs : List (DeviceState Fed)). NoneFell (front ++ behind) xs) (sym past) (fell_more front then behind later.3))),
    ))))
  where
    n : ℕ
    n = length ask.more

    was : front ≡ take n started.more
    was = sym (ap (take n) more ∙ front_is front behind n count)

    is : then ≡ take n after.more
    is = sym (ap (take n) past ∙ front_is then behind n (same ∙ count))

    whole : IsDriven turns first end ends stream_end (with_feeds n started) (with_feeds n after)
    whole = subst (λ (xs : List (DeviceState Fed)). IsDriven turns first end ends stream_end (record started { more = xs }) (with_feeds n after)) was (subst (λ (xs : List (DeviceState Fed)). IsDriven turns first end ends stream_end (record started { more = front }) (record after { more = xs })) is driven)

    untouched : drop n after.more ≡ drop n started.more
    untouched = behind_same n started.more after.more front then behind more past count same

    some : AnyRose front then → AnyFeed n HasFeedFault started.more after.more
    some rose = subst (λ (xs : List (DeviceState Fed)). AnyFeed n HasFeedFault xs after.more) (sym more) (subst (λ (xs : List (DeviceState Fed)). AnyFeed n HasFeedFault (front ++ behind) xs) (sym past) (any_rose n front then behind behind count rose))

-- a session that begins with the first map of a topology
pub begun : (turns : ℕ) (ask : Service) (t : Plan) (m : PublisherState) (before : LentTold) (lanes : List LaneTold) (after : LentTold) (result : Status)
    → PlacedFirst (lanes_of ask) before.lanes lanes → IsFirst t m → IsFromScratch t.market m.newest.lines → IsFirstSession turns ask m.newest (record before { lanes = lanes }) after result
    → IsSession turns ask t before after result
begun turns ask t m before lanes after result placed first scratch session = inr (
  record before { lanes = lanes },
  m.newest,
  record { asked = placed; rest = refl },
  (record { history = refl; serial = first.serial; plan = first.plan; market = first.market; good = first.good; best = first.best }, scratch),
  session,
)

-- a session whose map cell was not opened
pub unopened : (turns : ℕ) (ask : Service) (t : Plan) (fault : OpenFault) (before : LentTold) (lanes : List LaneTold) (result : Status)
    → IsAskedSome (lanes_of ask) fault before.lanes lanes → (fault ≡ open_fault.NoMemory → result ≡ status.NoMemory) → (fault ≡ open_fault.CellFault → result ≡ status.CellFault)
    → IsSession turns ask t before (record before { lanes = lanes }) result
unopened turns ask t open_fault.NoMemory before lanes result asked memory refused = inl (record {
  why = inl (memory refl);
  stays = λ _. asked.2 (λ same. cc);
  asked = asked.0;
  rest = refl;
})
unopened turns ask t open_fault.CellFault before lanes result asked memory refused = inl (record {
  why = inr (refused refl, asked.1 refl);
  stays = λ other. absurd (other (refused refl));
  asked = asked.0;
  rest = refl;
})
