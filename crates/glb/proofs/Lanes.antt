-- Why a session answers a fault of its lanes, from before its opening on.
use Rattle.std.proofs.Common.{◌≡◌, ◌⊎◌, inl, inr, ℕ, zero, suc, ◌<◌, ◌≤◌, Bool, true, false, List, [], ◌∷◌, length, refl, ap, sym, ◌∙◌, subst, arith, map}
use Rattle.std.specs.Prelude.{Option, None, Some, take}
use Rattle.std.specs.List.{list_any}
use Rattle.std.proofs.lemmas.List.{length-map}
use Rattle.addr_text.specs.declared.address.Listen.{Listen}
use Rattle.outside.specs.Faults.{BothTell, DeviceState, Rose, raised}
use Rattle.outside.specs.Port.{IsOpen, PortTold}
use Rattle.glb.specs.Loads.{Files}
use Rattle.outside.specs.Sink.{Written}
use Rattle.outside.specs.Source.{Fed}
use Rattle.outside.specs.declared.port.Opening.{Opening}
use Rattle.outside.specs.declared.port.Opening.TheVariants as opening
use Rattle.topology_text.specs.Plan.{Plan}
use Rattle.published_map.specs.Version.{Version}
use Rattle.lane_model.proofs.Runs.{tells_on}
use Rattle.demand_feed.specs.declared.run.FeedEnd.{FeedEnd}
use Rattle.demand_feed.specs.declared.run.FeedEnd.TheVariants as feed
use Rattle.mapper.specs.Scenes.{IsPrinted}
use Rattle.mapper.specs.Words.{map_text}
use Rattle.drive.specs.Done.{LaneTold, StreamLaneTold}
use Rattle.outside.specs.Streams.{StreamsTold, IsOpening as AreStreamsOpened}
use Rattle.glb.specs.Words.{Service, lanes_of}
use Rattle.drive.specs.Driven.{LentTold, scene_at}
use Rattle.drive.specs.Feeds.{AreFed}
use Rattle.glb.specs.declared.status.Status.{Status}
use Rattle.glb.specs.declared.status.Status.TheVariants as status
use Rattle.glb.specs.Causes.{AnyFeed, AnyLane, AnyServer, AreSpent, HasCellFault, HasDoorFault, HasEightPortFaults, HasFeedGiven, HasHeard, HasLaneCauses, HasPortFault, HasShown, HasTaken, IsPastMaps, OfStream}
use Rattle.glb.specs.Outcome.{Outcome, RunsBy}
use Rattle.glb.specs.Files.{Kind, IsRefused}
use Rattle.glb.specs.Serve.{AreOpened, FirstDoorRose, IsFirstSession, IsOpening, IsPlaced, IsServed, IsSession, IsStarted, IsStreamReady, IsStreamShut, PlacedFirst, all_ends, all_ready, is_cell_fault, is_port_fault, is_spent, status_by, status_of, then_failed}
use Rattle.glb.proofs.Loads.{tell_weaker}
use Rattle.glb.proofs.Histories.{texts_of}
use Rattle.glb.proofs.Named.{any_taken, given_from}
use Rattle.glb.proofs.Several.{fed_given}

-- a lane whose port and door were opened at most: no count is lower, and its port gave no answer of recv
pub record IsBegun (x y : LaneTold) : Type 0 where
  pub port : BothTell x.port y.port (λ b c. c.recvs ≡ b.recvs)
  pub port_faults : x.port_faults ≤ y.port_faults
  pub door_faults : x.door_faults ≤ y.door_faults

abbrev pub AreBegun : List LaneTold → List LaneTold → Type 0
AreBegun [] [] = Unit {0}
AreBegun (x ∷ xs) (y ∷ ys) = IsBegun x y × AreBegun xs ys
AreBegun _ _ = ⊥

tells_same : (p : Option PortTold) → BothTell p p (λ b c. c.recvs ≡ b.recvs)
tells_same None = tt
tells_same (Some b) = refl

begun_same : (xs : List LaneTold) → AreBegun xs xs
begun_same [] = tt
begun_same (x ∷ xs) = (record { port = tells_same x.port; port_faults = omega arith; door_faults = omega arith }, begun_same xs)

pub door_begun : (k : ℕ) (xs ys : List LaneTold) → PlacedFirst k xs ys → AreBegun xs ys
door_begun k [] ys h = subst (AreBegun []) (sym h) tt
door_begun k (x ∷ xs) ys h = subst (AreBegun (x ∷ xs)) (sym h) (record { port = tells_same x.port; port_faults = omega arith; door_faults = omega arith }, begun_same xs)

open_same : (listen : Listen) (r : Opening) (b c : PortTold) → IsOpen listen r b c → c.recvs ≡ b.recvs
open_same listen opening.Ready b c h = ap (λ (p : PortTold). p.recvs) h
open_same listen opening.Failed b c h = ap (λ (p : PortTold). p.recvs) h.1

one_begun : (listen : Listen) (r : Opening) (x y : LaneTold) → IsOpening listen r x y → IsBegun x y
one_begun listen r x y h = record {
  port = tell_weaker (IsOpen listen r) (λ b c. c.recvs ≡ b.recvs) x.port y.port (λ b c o. open_same listen r b c o) h.port;
  port_faults = h.later;
  door_faults = let same : y.door_faults ≡ x.door_faults = ap (λ (l : LaneTold). l.door_faults) h.rest in omega (arith, same);
}

pub opened_begun : (listen : Listen) (rs : List Opening) (xs ys : List LaneTold) → AreOpened listen rs xs ys → AreBegun xs ys
opened_begun listen [] xs ys h = subst (AreBegun xs) (sym h) (begun_same xs)
opened_begun listen (r ∷ rs) (x ∷ xs) (y ∷ ys) h = (one_begun listen r x y h.0, opened_begun listen rs xs ys h.1)
opened_begun listen (r ∷ rs) [] ys h = absurd h
opened_begun listen (r ∷ rs) (x ∷ xs) [] h = absurd h

-- the lane for conversations, whose streams were opened at most: no count is lower, and its streams gave no answer of accept and read
pub record IsStreamBegun (x y : StreamLaneTold) : Type 0 where
  pub port : BothTell x.port y.port (λ b c. c.answers ≡ b.answers)
  pub port_faults : x.port_faults ≤ y.port_faults
  pub door_faults : x.door_faults ≤ y.door_faults

streams_same : (p : Option StreamsTold) → BothTell p p (λ b c. c.answers ≡ b.answers)
streams_same None = tt
streams_same (Some b) = refl

stream_same : (x y : StreamLaneTold) → y ≡ x → IsStreamBegun x y
stream_same x y is = subst (IsStreamBegun x) (sym is) (record { port = streams_same x.port; port_faults = omega arith; door_faults = omega arith })

heard_same : (listen : Listen) (r : Opening) (b c : StreamsTold) → AreStreamsOpened listen r b c → c.answers ≡ b.answers
heard_same listen opening.Ready b c h = ap (λ (s : StreamsTold). s.answers) h
heard_same listen opening.Failed b c h = ap (λ (s : StreamsTold). s.answers) h.1

pub stream_begun : (tcp : Option Listen) (x y : StreamLaneTold) → IsStreamReady tcp x y → IsStreamBegun x y
stream_begun None x y h = stream_same x y h
stream_begun (Some at) x y h = record {
  port = tell_weaker (AreStreamsOpened at opening.Ready) (λ b c. c.answers ≡ b.answers) x.port y.port (λ b c o. heard_same at opening.Ready b c o) h.port;
  port_faults = h.later;
  door_faults = let same : y.door_faults ≡ x.door_faults = ap (λ (l : StreamLaneTold). l.door_faults) h.rest in omega (arith, same);
}

-- all lanes
pub record AreAllBegun (before mid : LentTold) : Type 0 where
  pub lanes : AreBegun before.lanes mid.lanes
  pub stream : IsStreamBegun before.stream mid.stream

-- what is so of some lane from a moment on is so from the one before
any_from : (P Q : LaneTold → LaneTold → Type 0) (n : ℕ) (xs ys zs : List LaneTold) → ((x y z : LaneTold) → IsBegun x y → P y z → Q x z) → AreBegun xs ys → AnyLane n P ys zs → AnyLane n Q xs zs
any_from P Q zero xs ys zs f b h = absurd h
any_from P Q (suc n) (x ∷ xs) (y ∷ ys) (z ∷ zs) f b (inl h) = inl (f x y z b.0 h)
any_from P Q (suc n) (x ∷ xs) (y ∷ ys) (z ∷ zs) f b (inr h) = inr (any_from P Q n xs ys zs f b.1 h)
any_from P Q (suc n) xs [] zs f b h = absurd h
any_from P Q (suc n) xs (y ∷ ys) [] f b h = absurd h
any_from P Q (suc n) [] (y ∷ ys) (z ∷ zs) f b h = absurd b

of_stream_from : (P Q : StreamLaneTold → StreamLaneTold → Type 0) (tcp : Option Listen) (x y z : StreamLaneTold) → (P y z → Q x z) → OfStream tcp P y z → OfStream tcp Q x z
of_stream_from P Q None x y z f h = h
of_stream_from P Q (Some at) x y z f h = f h

server_from : (P P' : LaneTold → LaneTold → Type 0) (Q Q' : StreamLaneTold → StreamLaneTold → Type 0) (ask : Service) (before mid after : LentTold) → ((x y z : LaneTold) → IsBegun x y → P y z → P' x z) → ((x y z : StreamLaneTold) → IsStreamBegun x y → Q y z → Q' x z)
    → AreAllBegun before mid → AnyServer ask P Q mid after → AnyServer ask P' Q' before after
server_from P P' Q Q' ask before mid after f g b (inl h) = inl (any_from P P' ask.workers before.lanes mid.lanes after.lanes f b.lanes h)
server_from P P' Q Q' ask before mid after f g b (inr h) = inr (of_stream_from Q Q' ask.tcp before.stream mid.stream after.stream (λ q. g before.stream mid.stream after.stream b.stream q) h)

pub port_from : (ask : Service) (before mid after : LentTold) → AreAllBegun before mid → AnyServer ask HasPortFault HasPortFault mid after → AnyServer ask HasPortFault HasPortFault before after
port_from ask before mid after b h = server_from HasPortFault HasPortFault HasPortFault HasPortFault ask before mid after (λ x y z o r. omega (arith, o.port_faults, r)) (λ x y z o r. omega (arith, o.port_faults, r)) b h

eight_from : (ask : Service) (before mid after : LentTold) → AreAllBegun before mid → AnyServer ask HasEightPortFaults HasEightPortFaults mid after → AnyServer ask HasPortFault HasPortFault before after
eight_from ask before mid after b h = server_from HasEightPortFaults HasPortFault HasEightPortFaults HasPortFault ask before mid after (λ x y z o r. omega (arith, o.port_faults, r)) (λ x y z o r. omega (arith, o.port_faults, r)) b h

pub door_from : (ask : Service) (before mid after : LentTold) → AreAllBegun before mid → AnyServer ask HasDoorFault HasDoorFault mid after → AnyServer ask HasDoorFault HasDoorFault before after
door_from ask before mid after b h = server_from HasDoorFault HasDoorFault HasDoorFault HasDoorFault ask before mid after (λ x y z o r. omega (arith, o.door_faults, r)) (λ x y z o r. omega (arith, o.door_faults, r)) b h

pub shown_from : (k : ℕ) (ask : Service) (before mid after : LentTold) → AreAllBegun before mid → AnyServer ask (HasShown k) (HasShown k) mid after → AnyServer ask (HasShown k) (HasShown k) before after
shown_from k ask before mid after b h = server_from (HasShown k) (HasShown k) (HasShown k) (HasShown k) ask before mid after (λ x y z o r. r) (λ x y z o r. r) b h

taken_on : (turns : ℕ) (x y z : LaneTold) → IsBegun x y → HasTaken turns y z → HasTaken turns x z
taken_on turns x y z o r =
    tells_on x.port y.port z.port (λ (b c : PortTold). c.recvs ≡ b.recvs) (λ (b c : PortTold). c.recvs ≡ raised b.recvs turns) (λ (b c : PortTold). c.recvs ≡ raised b.recvs turns) (λ b c d u v. v ∙ ap (λ (k : ℕ). raised k turns) u) o.port r

heard_on : (turns : ℕ) (x y z : StreamLaneTold) → IsStreamBegun x y → HasHeard turns y z → HasHeard turns x z
heard_on turns x y z o r =
    tells_on x.port y.port z.port (λ (b c : StreamsTold). c.answers ≡ b.answers) (λ (b c : StreamsTold). c.answers ≡ raised b.answers turns) (λ (b c : StreamsTold). c.answers ≡ raised b.answers turns) (λ b c d u v. v ∙ ap (λ (k : ℕ). raised k turns) u) o.port r

pub taken_from : (turns : ℕ) (ask : Service) (before mid after : LentTold) → AreAllBegun before mid → AnyServer ask (HasTaken turns) (HasHeard turns) mid after → AnyServer ask (HasTaken turns) (HasHeard turns) before after
taken_from turns ask before mid after b h = server_from (HasTaken turns) (HasTaken turns) (HasHeard turns) (HasHeard turns) ask before mid after (λ x y z o r. taken_on turns x y z o r) (λ x y z o r. heard_on turns x y z o r) b h

-- a fault of the cell is a fault of a door or a serial past the versions
any_parts : (k n : ℕ) (xs ys : List LaneTold) → AnyLane n (HasCellFault k) xs ys → AnyLane n HasDoorFault xs ys ⊎ AnyLane n (HasShown k) xs ys
any_parts k zero xs ys h = absurd h
any_parts k (suc n) (x ∷ xs) (y ∷ ys) (inl (inl h)) = inl (inl h)
any_parts k (suc n) (x ∷ xs) (y ∷ ys) (inl (inr h)) = inr (inl h)
any_parts k (suc n) (x ∷ xs) (y ∷ ys) (inr h) = elim (any_parts k n xs ys h) [ inl r ↦ inl (inr r) | inr r ↦ inr (inr r) ]
any_parts k (suc n) [] ys h = absurd h
any_parts k (suc n) (x ∷ xs) [] h = absurd h

stream_parts : (k : ℕ) (tcp : Option Listen) (x y : StreamLaneTold) → OfStream tcp (HasCellFault k) x y → OfStream tcp HasDoorFault x y ⊎ OfStream tcp (HasShown k) x y
stream_parts k None x y h = absurd h
stream_parts k (Some at) x y h = h

server_parts : (k : ℕ) (ask : Service) (before after : LentTold) → AnyServer ask (HasCellFault k) (HasCellFault k) before after → AnyServer ask HasDoorFault HasDoorFault before after ⊎ AnyServer ask (HasShown k) (HasShown k) before after
server_parts k ask before after (inl h) = elim (any_parts k ask.workers before.lanes after.lanes h) [ inl r ↦ inl (inl r) | inr r ↦ inr (inl r) ]
server_parts k ask before after (inr h) = elim (stream_parts k ask.tcp before.stream after.stream h) [ inl r ↦ inl (inr r) | inr r ↦ inr (inr r) ]

-- a port that failed to open has a fault
failed_port : (listen : Listen) (k n : ℕ) (xs ys : List LaneTold) → k < n → AreOpened listen (then_failed k) xs ys → AnyLane n HasPortFault xs ys
failed_port listen k zero xs ys lt h = absurd (omega (arith, lt))
failed_port listen zero (suc n) (x ∷ xs) (y ∷ ys) lt h = inl (h.0.cause refl)
failed_port listen zero (suc n) [] ys lt h = absurd h
failed_port listen zero (suc n) (x ∷ xs) [] lt h = absurd h
failed_port listen (suc k) (suc n) (x ∷ xs) (y ∷ ys) lt h = inr (failed_port listen k n xs ys (omega (arith, lt)) h.1)
failed_port listen (suc k) (suc n) [] ys lt h = absurd h
failed_port listen (suc k) (suc n) (x ∷ xs) [] lt h = absurd h

-- and so have streams that failed to open
failed_stream : (tcp : Option Listen) (x y : StreamLaneTold) → IsStreamShut tcp x y → OfStream tcp HasPortFault x y
failed_stream None x y h = h
failed_stream (Some at) x y h = h.cause refl

once_rose : (b c : ℕ) → c ≡ raised b 1 → Rose b c
once_rose b c is = omega (arith, is)

-- a first lane whose door counted one more has a fault
first_door : (n : ℕ) (xs ys : List LaneTold) → 1 ≤ n → FirstDoorRose xs ys → AnyLane n HasDoorFault xs ys
first_door zero xs ys some h = absurd (omega (arith, some))
first_door (suc n) (x ∷ xs) (y ∷ ys) some h = inl (once_rose x.door_faults y.door_faults h)
first_door (suc n) [] ys some h = absurd h
first_door (suc n) (x ∷ xs) [] some h = absurd h

-- an answer that is none of these has no cause to tell
other : (turns : ℕ) (ask : Service) (before after : LentTold) (result : Status) → (result ≡ status.PortFault → ⊥) → (result ≡ status.Spent → ⊥) → (result ≡ status.CellFault → ⊥) → HasLaneCauses turns ask before after result
other turns ask before after result port spent cell = record { port = λ h. absurd (port h); spent = λ h. absurd (spent h); cell = λ h. absurd (cell h) }

pub unread_causes : {T : Type 0} (kind : Kind T) (turns : ℕ) (ask : Service) (before after : LentTold) (name : List ℕ) (files : Option Files) (out out' : Option Written) (result : Status) → RunsBy (IsRefused kind files name) out out' result → HasLaneCauses turns ask before after result
unread_causes kind turns ask before after name files out out' result (inl whole) =
    let is : whole.due.status ≡ status.Refused = ap (λ (o : Outcome). o.status) whole.is_due.4 in
    let same : result ≡ status.Refused = whole.status ∙ is in other turns ask before after result (λ h. cc) (λ h. cc) (λ h. cc)
unread_causes kind turns ask before after name files out out' result (inr (inl cut)) = let is = cut.status in other turns ask before after result (λ h. cc) (λ h. cc) (λ h. cc)
unread_causes kind turns ask before after name files out out' result (inr (inr silent)) =
    elim silent.status [ inl is ↦ other turns ask before after result (λ h. cc) (λ h. cc) (λ h. cc) | inr is ↦ other turns ask before after result (λ h. cc) (λ h. cc) (λ h. cc) ]

-- a fault of the cell is answered only where the feed ended
by_spent : (p m c : Bool) → status.CellFault ≡ status_by p true m c → ⊥
by_spent true m c h = cc
by_spent false m c h = cc

by_memory : (p s c : Bool) → status.CellFault ≡ status_by p s true c → ⊥
by_memory true s c h = cc
by_memory false true c h = cc
by_memory false false c h = cc

pub cell_ends : (end : FeedEnd) (p s c : Bool) → status.CellFault ≡ status_of end p s c → end ≡ feed.Ended
cell_ends feed.Ended p s c h = refl
cell_ends feed.Spent p s c h = absurd (by_spent p false c h)
cell_ends feed.SourceFault p s c h = absurd (cc)
cell_ends feed.SinkFault p s c h = absurd (cc)
cell_ends feed.NoMemory p s c h = absurd (by_memory p s c h)

-- a session that was started and served
served_causes : (turns : ℕ) (ask : Service) (first : Version) (before started after : LentTold) (result : Status) → IsStarted ask first before started → IsServed turns ask first started after result → HasLaneCauses turns ask before after result
served_causes turns ask first before started after result start served = record {
  port = λ h. eight_from ask before started after begun (served.port h);
  spent = λ h. spent_of (served.spent h);
  cell = λ h. cell_of h (server_parts (length (first ∷ served.driven.rest)) ask started after (served.cell h));
}
  where
    begun : AreAllBegun before started
    begun = record { lanes = opened_begun ask.listen (all_ready ask.workers) before.lanes started.lanes start.opened; stream = stream_begun ask.tcp before.stream started.stream start.stream }

    count : ℕ
    count = length ask.more

    same_feed : started.feed ≡ before.feed
    same_feed = ap (λ (l : LentTold). l.feed) start.rest

    spent_of : (served.end ≡ feed.Spent) ⊎ AnyServer ask (HasTaken turns) (HasHeard turns) started after → AreSpent turns ask before after
    spent_of (inl is) = elim (fed_given first.plan turns served.end started.feed after.feed (take count started.more) (take count after.more) _ _ is served.driven.feed) [
      | inl given ↦ inl (subst (λ (f : DeviceState Fed). HasFeedGiven turns f after.feed) same_feed given)
      | inr given ↦ inr (inl (given_from turns ask.more count count before.more started.more after.more start.named (any_taken (HasFeedGiven turns) count started.more after.more given)))
    ]
    spent_of (inr h) = inr (inr (taken_from turns ask before started after begun h))

    ended : result ≡ status.CellFault → served.end ≡ feed.Ended
    ended h = cell_ends served.end (list_any is_port_fault (all_ends served.ends served.stream_end)) (list_any is_spent (all_ends served.ends served.stream_end)) (list_any is_cell_fault (all_ends served.ends served.stream_end)) (sym h ∙ served.result_is)

    texts : served.end ≡ feed.Ended → BothTell before.maps.past after.maps.past (IsPrinted (map map_text (first ∷ served.driven.rest)))
    texts is = texts_of first.plan turns started.feed after.feed (take count started.more) (take count after.more) first served.driven.rest before.maps.past (scene_at first (first ∷ []) started) (scene_at served.driven.newest (first ∷ served.driven.rest) after) refl refl start.put
        (subst (λ (e : FeedEnd). AreFed first.plan turns e started.feed (take count started.more) after.feed (take count after.more) (scene_at first (first ∷ []) started) (scene_at served.driven.newest (first ∷ served.driven.rest) after)) is served.driven.feed)

    cell_of : result ≡ status.CellFault → AnyServer ask HasDoorFault HasDoorFault started after ⊎ AnyServer ask (HasShown (length (first ∷ served.driven.rest))) (HasShown (length (first ∷ served.driven.rest))) started after
        → AnyServer ask HasDoorFault HasDoorFault before after ⊎ IsPastMaps ask before after
    cell_of is (inl h) = inl (door_from ask before started after begun h)
    cell_of is (inr h) = inr (
      map map_text (first ∷ served.driven.rest),
      texts (ended is),
      subst (λ (k : ℕ). AnyServer ask (HasShown k) (HasShown k) before after) (sym (length-map (first ∷ served.driven.rest) map_text)) (shown_from (length (first ∷ served.driven.rest)) ask before started after begun h),
    )

first_causes : (turns : ℕ) (ask : Service) (first : Version) (before after : LentTold) (result : Status) → IsFirstSession turns ask first before after result → HasLaneCauses turns ask before after result
first_causes turns ask first before after result (inl shut) = record {
  port = λ h. elim shut.opened [ inl some ↦ inl (failed_port ask.listen some.0 ask.workers before.lanes after.lanes some.1 some.2) | inr all ↦ inr (failed_stream ask.tcp before.stream after.stream all.1) ];
  spent = λ h. let is = shut.why in absurd (cc);
  cell = λ h. let is = shut.why in absurd (cc);
}
first_causes turns ask first before after result (inr (inl shut)) = let is = shut.why in other turns ask before after result (λ h. cc) (λ h. cc) (λ h. cc)
first_causes turns ask first before after result (inr (inr (inl unput))) = let is = unput.why in other turns ask before after result (λ h. cc) (λ h. cc) (λ h. cc)
first_causes turns ask first before after result (inr (inr (inr (inl k)))) = let is = k.0 in other turns ask before after result (λ h. cc) (λ h. cc) (λ h. cc)
first_causes turns ask first before after result (inr (inr (inr (inr (started, start, served))))) = served_causes turns ask first before started after result start served

-- what is so from the opened cell on is so from before it
placed_causes : (turns : ℕ) (ask : Service) (before placed after : LentTold) (result : Status) → IsPlaced ask before placed → HasLaneCauses turns ask placed after result → HasLaneCauses turns ask before after result
placed_causes turns ask before placed after result place causes = record {
  port = λ h. port_from ask before placed after begun (causes.port h);
  spent = λ h. elim (causes.spent h) [
    | inl given ↦ inl (subst (λ (f : DeviceState Fed). HasFeedGiven turns f after.feed) same_feed given)
    | inr (inl given) ↦ inr (inl (subst (λ (fs : List (DeviceState Fed)). AnyFeed (length ask.more) (HasFeedGiven turns) fs after.more) (ap (λ (l : LentTold). l.more) place.rest) given))
    | inr (inr some) ↦ inr (inr (taken_from turns ask before placed after begun some))
  ];
  cell = λ h. elim (causes.cell h) [
    | inl some ↦ inl (door_from ask before placed after begun some)
    | inr past ↦ inr (past.0, subst (λ (m : DeviceState Written). BothTell m.past after.maps.past (IsPrinted past.0)) same_maps past.1, shown_from (length past.0) ask before placed after begun past.2)
  ];
}
  where
    begun : AreAllBegun before placed
    begun = record { lanes = door_begun (lanes_of ask) before.lanes placed.lanes place.asked; stream = stream_same before.stream placed.stream (ap (λ (l : LentTold). l.stream) place.rest) }

    same_feed : placed.feed ≡ before.feed
    same_feed = ap (λ (l : LentTold). l.feed) place.rest

    same_maps : placed.maps ≡ before.maps
    same_maps = ap (λ (l : LentTold). l.maps) place.rest

pub session_causes : (turns : ℕ) (ask : Service) (t : Plan) (before after : LentTold) (result : Status) → 1 ≤ ask.workers → IsSession turns ask t before after result → HasLaneCauses turns ask before after result
session_causes turns ask t before after result some (inl unopened) = elim unopened.why [
  | inl is ↦ other turns ask before after result (λ h. cc) (λ h. cc) (λ h. cc)
  | inr is ↦ record {
    port = λ h. let fault = is.0 in absurd (cc);
    spent = λ h. let fault = is.0 in absurd (cc);
    cell = λ h. inl (inl (first_door ask.workers before.lanes after.lanes some is.1));
  }
]
session_causes turns ask t before after result some (inr (placed, first, place, is_first, session)) = placed_causes turns ask before placed after result place (first_causes turns ask first placed after result session)
