-- Inside this crate alone: how ports were opened, and a session was started.
use Rattle.std.specs.Prelude.{◌≡◌, ◌≢◌, ◌⊎◌, ℕ, ◌<◌, ◌≤◌, Bool, false, List, [], ◌∷◌, length, ◌||◌, Option, None, Some}
use Rattle.std.specs.List.{list_any}
use Rattle.lane_model.specs.declared.ended.Ended.{Ended}
use Rattle.demand_feed.specs.declared.run.FeedEnd.{FeedEnd}
use Rattle.glb.specs.declared.status.Status.{Status}
use Rattle.glb.specs.declared.status.Status.TheVariants as status
use Rattle.addr_text.specs.declared.address.Listen.{Listen}
use Rattle.outside.specs.Faults.{BothTell, DeviceState, Rose}
use Rattle.outside.specs.Sink.{Written}
use Rattle.outside.specs.Source.{Fed}
use Rattle.outside.specs.declared.port.Opening.{Opening}
use Rattle.outside.specs.declared.port.Opening.TheVariants as opening
use Rattle.mapper.specs.Scenes.{IsCutBehind, IsPrinted}
use Rattle.drive.specs.Done.{LaneTold, StreamLaneTold}
use Rattle.drive.specs.Driven.{LentTold}
use Rattle.glb.specs.Words.{Service}
use Rattle.glb.specs.declared.starting.Start.{Start}
use Rattle.glb.specs.declared.starting.Start.TheVariants as start
use Rattle.map_cell.specs.declared.door.OpenFault.{OpenFault}
use Rattle.map_cell.specs.declared.door.OpenFault.TheVariants.{CellFault as Shut}
use Rattle.drive.specs.Feeds.{AllStand, NoneFell}
use Rattle.glb.specs.Causes.{AnyFeed, HasFeedFault}
use Rattle.glb.specs.Feeds.{AreNamed}
use Rattle.glb.specs.Serve.{AreOpened, AskedFirst, FirstDoorRose, FirstDoorStands, IsStreamReady, IsStreamShut, all_ready, is_cell_fault, is_port_fault, is_spent, status_of, then_failed}

-- the ports of the first n lanes were opened, or those up to one that failed
abbrev pub HasOpened : Listen → ℕ → Opening → List LaneTold → List LaneTold → Type 0
HasOpened listen n opening.Ready before after = AreOpened listen (all_ready n) before after
HasOpened listen n opening.Failed before after = (k : ℕ) × (k < n) × AreOpened listen (then_failed k) before after

-- what a start touches: the further feeds, the maps and the lanes
pub record Begun : Type 0 where
  pub more : List (DeviceState Fed)
  pub maps : DeviceState Written
  pub lanes : List LaneTold
  pub stream : StreamLaneTold

-- The ports of the first lanes were opened, the streams where that is asked for, and the further feeds, and a text was put; or one of them failed to open; or the put failed.
abbrev pub IsStart : Service → List ℕ → Start → Begun → Begun → Type 0
IsStart ask text start.Ready before after =
    AreOpened ask.listen (all_ready ask.workers) before.lanes after.lanes × IsStreamReady ask.tcp before.stream after.stream × AreNamed ask.more (all_ready (length ask.more)) before.more after.more × BothTell before.maps.past after.maps.past (IsPrinted (text ∷ [])) × (after.maps.faults ≡ before.maps.faults)
IsStart ask text start.NoPort before after =
    (((k : ℕ) × (k < ask.workers) × AreOpened ask.listen (then_failed k) before.lanes after.lanes × (after.stream ≡ before.stream))
    ⊎ (AreOpened ask.listen (all_ready ask.workers) before.lanes after.lanes × IsStreamShut ask.tcp before.stream after.stream))
    × (after.more ≡ before.more) × (after.maps ≡ before.maps)
IsStart ask text start.NoFeed before after =
    AreOpened ask.listen (all_ready ask.workers) before.lanes after.lanes × IsStreamReady ask.tcp before.stream after.stream × ((k : ℕ) × (k < length ask.more) × AreNamed ask.more (then_failed k) before.more after.more)
    × (after.maps ≡ before.maps)
IsStart ask text start.NoSink before after =
    AreOpened ask.listen (all_ready ask.workers) before.lanes after.lanes × IsStreamReady ask.tcp before.stream after.stream × AreNamed ask.more (all_ready (length ask.more)) before.more after.more × BothTell before.maps.past after.maps.past (IsCutBehind [] text) × Rose before.maps.faults after.maps.faults

-- the further feeds were opened under these names, or those up to one that failed
abbrev pub HasNamed : List (List ℕ) → Opening → List (DeviceState Fed) → List (DeviceState Fed) → Type 0
HasNamed names opening.Ready before after = AreNamed names (all_ready (length names)) before after
HasNamed names opening.Failed before after = (k : ℕ) × (k < length names) × AreNamed names (then_failed k) before after

-- the streams were opened where that is asked for, and that came out so
abbrev pub IsStreamStart : Option Listen → Opening → StreamLaneTold → StreamLaneTold → Type 0
IsStreamStart tcp opening.Ready before after = IsStreamReady tcp before after
IsStreamStart tcp opening.Failed before after = IsStreamShut tcp before after

-- Where the first door was not to give a place or memory was wanting, it was asked for no more than n, and its count rose by one where it was the door, and else stands.
abbrev pub IsAskedSome : ℕ → OpenFault → List LaneTold → List LaneTold → Type 0
IsAskedSome n fault before after = ((k : ℕ) × (k ≤ n) × AskedFirst k before after) × (fault ≡ Shut → FirstDoorRose before after) × (fault ≢ Shut → FirstDoorStands before after)

-- a test of the end at a place, where there is one
abbrev pub at_place : (Ended → Bool) → Option Ended → Bool
at_place test None = false
at_place test (Some end) = test end

-- a test of the ends at the places, and of one more
abbrev pub has_any : (Ended → Bool) → List (Option Ended) → Option Ended → Bool
has_any test places stream = list_any (at_place test) places || list_any (at_place test) (stream ∷ [])

-- the status of a session, by the ends at the places of its lanes, and that of the lane for conversations
abbrev pub status_at : FeedEnd → List (Option Ended) → Option Ended → Status
status_at end places stream = status_of end (has_any is_port_fault places stream) (has_any is_spent places stream) (has_any is_cell_fault places stream)

-- no count of a session fell, a fault of a feed or of an output came with its count, and these counts stand where their fault is not answered, those of several feeds where no output's fault is answered either
pub record IsSessionLater (ask : Service) (before after : LentTold) (result : Status) : Type 0 where
  pub feed : before.feed.faults ≤ after.feed.faults
  pub out : before.out.faults ≤ after.out.faults
  pub maps : before.maps.faults ≤ after.maps.faults
  pub more : NoneFell before.more after.more
  pub source : result ≡ status.SourceFault → Rose before.feed.faults after.feed.faults ⊎ AnyFeed (length ask.more) HasFeedFault before.more after.more
  pub sink : result ≡ status.SinkFault → Rose before.out.faults after.out.faults ⊎ Rose before.maps.faults after.maps.faults
  pub feed_stays : result ≢ status.SourceFault → (result ≡ status.SinkFault → ask.more ≡ []) → (after.feed.faults ≡ before.feed.faults) × AllStand before.more after.more
  pub out_stays : result ≢ status.SinkFault → after.out.faults ≡ before.out.faults
  pub maps_stay : result ≢ status.SinkFault → after.maps.faults ≡ before.maps.faults
