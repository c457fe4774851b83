-- What a run of `serve` does.
use Rattle.std.specs.Prelude.{◌≡◌, ◌≢◌, ◌⊎◌, ℕ, ◌<◌, ◌≤◌, Bool, true, false, List, [], ◌∷◌, ◌++◌, length, drop, replicate, if◌then◌else◌, Option, None, Some}
use Rattle.std.specs.List.{list_any}
use Rattle.std.specs.Option.{option_to_list}
use Rattle.addr_text.specs.declared.address.Listen.{Listen}
use Rattle.outside.specs.Faults.{BothTell, Rose, raised}
use Rattle.outside.specs.Port.{IsOpen}
use Rattle.outside.specs.Streams.{IsOpening as AreStreamsOpened}
use Rattle.outside.specs.Shelf.{Load}
use Rattle.outside.specs.declared.port.Opening.{Opening}
use Rattle.outside.specs.declared.port.Opening.TheVariants as opening
use Rattle.topology_text.specs.Plan.{IsPlan, Plan}
use Rattle.published_map.specs.Version.{Version}
use Rattle.lane_model.specs.declared.ended.Ended.{Ended}
use Rattle.lane_model.specs.declared.ended.Ended.TheVariants as lane
use Rattle.demand_feed.specs.declared.run.FeedEnd.{FeedEnd}
use Rattle.demand_feed.specs.declared.run.FeedEnd.TheVariants as feed
use Rattle.mapper.specs.Scenes.{IsCutBehind, IsPrinted}
use Rattle.mapper.specs.Words.{map_text}
use Rattle.mapper.specs.Mappers.{IsFirst, IsFromScratch}
use Rattle.drive.specs.Done.{LaneTold, StreamLaneTold}
use Rattle.drive.specs.Driven.{IsDriven, LentTold}
use Rattle.drive.specs.Feeds.{AllStand, NoneFell}
use Rattle.glb.specs.Feeds.{AreNamed, with_feeds}
use Rattle.glb.specs.declared.status.Status.{Status}
use Rattle.glb.specs.declared.status.Status.TheVariants as status
use Rattle.glb.specs.Words.{Service, lanes_of, streams_of}
use Rattle.glb.specs.Causes.{AnyFeed, AnyServer, HasFeedFault, HasCellFault, HasEightPortFaults, HasHeard, HasTaken}
use Rattle.glb.specs.Outcome.{RunsBy}
use Rattle.glb.specs.Told.{IsOutAlone, Surroundings}
use Rattle.glb.specs.Loads.{DueLoad, files_between}
use Rattle.glb.specs.Files.{IsRefused, Says, only, topology_file}

-- the loads of `serve`: the topology
abbrev pub loads_of_serve : Service → List Load → List DueLoad
loads_of_serve ask = only topology_file ask.topology

-- a lane ended by a fault of its port
abbrev pub is_port_fault : Ended → Bool
is_port_fault lane.PortFault = true
is_port_fault _ = false

-- a lane took all its turns
abbrev pub is_spent : Ended → Bool
is_spent lane.Spent = true
is_spent _ = false

-- a look of a lane was refused, at a datagram or at the closing look, or its closing look showed a map past the newest one
abbrev pub is_cell_fault : Ended → Bool
is_cell_fault lane.CellFault = true
is_cell_fault (lane.Above known newest) = true
is_cell_fault _ = false

-- a port's fault comes first, then what was spent, then want of memory, then the cell's fault
abbrev pub status_by : Bool → Bool → Bool → Bool → Status
status_by port spent memory cell = if port then status.PortFault else (if spent then status.Spent else (if memory then status.NoMemory else (if cell then status.CellFault else status.Ok)))

-- the ends of all lanes that were served
abbrev pub all_ends : List Ended → Option Ended → List Ended
all_ends ends stream_end = ends ++ option_to_list stream_end

-- the status of a session: a fault of an output or of a feed comes first, then what the ends of the lanes make, and whether a feed was spent, or had no memory
abbrev pub status_of : FeedEnd → Bool → Bool → Bool → Status
status_of feed.SourceFault port spent cell = status.SourceFault
status_of feed.SinkFault port spent cell = status.SinkFault
status_of feed.Spent port spent cell = status_by port true false cell
status_of feed.NoMemory port spent cell = status_by port spent true cell
status_of feed.Ended port spent cell = status_by port spent false cell

-- the first door was asked for k places, and may have counted faults; nothing else was asked of the lanes
abbrev pub AskedFirst : ℕ → List LaneTold → List LaneTold → Type 0
AskedFirst k [] after = after ≡ []
AskedFirst k (b ∷ before) after = (faults : ℕ) × (b.door_faults ≤ faults) × (after ≡ record b { asked = raised b.asked k; door_faults = faults } ∷ before)

-- the first door was asked for k places and counted no fault; nothing else was asked of the lanes
abbrev pub PlacedFirst : ℕ → List LaneTold → List LaneTold → Type 0
PlacedFirst k [] after = after ≡ []
PlacedFirst k (b ∷ before) after = after ≡ record b { asked = raised b.asked k } ∷ before

-- there is a first lane, and the counts of its door before and after are so to each other
abbrev pub FirstDoor : (ℕ → ℕ → Type 0) → List LaneTold → List LaneTold → Type 0
FirstDoor Counts (b ∷ before) (c ∷ after) = Counts b.door_faults c.door_faults
FirstDoor Counts _ _ = ⊥

-- the count of the first lane's door rose by one
abbrev pub FirstDoorRose : List LaneTold → List LaneTold → Type 0
FirstDoorRose before after = FirstDoor (λ b c. c ≡ raised b 1) before after

-- the count of the first lane's door stands
abbrev pub FirstDoorStands : List LaneTold → List LaneTold → Type 0
FirstDoorStands before after = FirstDoor (λ b c. c ≡ b) before after

-- A lane's port was opened there, whose count of faults rose where that failed, and else stands. Nothing else was asked of the lane.
pub record IsOpening (listen : Listen) (result : Opening) (before after : LaneTold) : Type 0 where
  pub port : BothTell before.port after.port (IsOpen listen result)
  pub later : before.port_faults ≤ after.port_faults
  pub cause : result ≡ opening.Failed → Rose before.port_faults after.port_faults
  pub stays : result ≢ opening.Failed → after.port_faults ≡ before.port_faults
  pub rest : after ≡ record before { port = after.port; port_faults = after.port_faults }

-- the ports of the first lanes were opened there in order, once each, with these results; the lanes behind them are untouched
abbrev pub AreOpened : Listen → List Opening → List LaneTold → List LaneTold → Type 0
AreOpened listen [] before after = after ≡ before
AreOpened listen (r ∷ results) (b ∷ before) (c ∷ after) = IsOpening listen r b c × AreOpened listen results before after
AreOpened listen (r ∷ results) _ _ = ⊥

-- The streams of a lane were opened there, whose count of faults rose where that failed, and else stands. Nothing else was asked of the lane.
pub record IsStreamOpening (listen : Listen) (result : Opening) (before after : StreamLaneTold) : Type 0 where
  pub port : BothTell before.port after.port (AreStreamsOpened listen result)
  pub later : before.port_faults ≤ after.port_faults
  pub cause : result ≡ opening.Failed → Rose before.port_faults after.port_faults
  pub stays : result ≢ opening.Failed → after.port_faults ≡ before.port_faults
  pub rest : after ≡ record before { port = after.port; port_faults = after.port_faults }

-- the streams were opened there where that is asked for, and the lane is untouched where it isn't
abbrev pub IsStreamReady : Option Listen → StreamLaneTold → StreamLaneTold → Type 0
IsStreamReady None before after = after ≡ before
IsStreamReady (Some at) before after = IsStreamOpening at opening.Ready before after

-- they were to be opened, and that failed
abbrev pub IsStreamShut : Option Listen → StreamLaneTold → StreamLaneTold → Type 0
IsStreamShut None before after = ⊥
IsStreamShut (Some at) before after = IsStreamOpening at opening.Failed before after

-- so many ports were opened
abbrev pub all_ready : ℕ → List Opening
all_ready n = replicate n opening.Ready

-- so many ports were opened, and the next one failed
abbrev pub then_failed : ℕ → List Opening
then_failed n = all_ready n ++ opening.Failed ∷ []

-- The map cell was not opened: a place in it was refused, which the door counted once, or memory was wanting, and it counted nothing.
pub record IsUnopened (ask : Service) (before after : LentTold) (result : Status) : Type 0 where
  pub why : (result ≡ status.NoMemory) ⊎ ((result ≡ status.CellFault) × FirstDoorRose before.lanes after.lanes)
  pub stays : result ≢ status.CellFault → FirstDoorStands before.lanes after.lanes
  pub asked : (k : ℕ) × (k ≤ lanes_of ask) × AskedFirst k before.lanes after.lanes
  pub rest : after ≡ record before { lanes = after.lanes }

-- The map cell was opened, with a place for each lane, and none was refused.
pub record IsPlaced (ask : Service) (before after : LentTold) : Type 0 where
  pub asked : PlacedFirst (lanes_of ask) before.lanes after.lanes
  pub rest : after ≡ record before { lanes = after.lanes }

-- A port did not open, and none behind it was opened, nor the streams; or all ports were opened, and the streams did not open.
pub record IsPortUnopened (ask : Service) (before after : LentTold) (result : Status) : Type 0 where
  pub why : result ≡ status.PortFault
  pub opened : ((k : ℕ) × (k < ask.workers) × AreOpened ask.listen (then_failed k) before.lanes after.lanes × (after.stream ≡ before.stream))
      ⊎ (AreOpened ask.listen (all_ready ask.workers) before.lanes after.lanes × IsStreamShut ask.tcp before.stream after.stream)
  pub rest : after ≡ record before { lanes = after.lanes; stream = after.stream }

-- All ports and the streams were opened, but one of the further feeds was not, and none behind it.
pub record IsFeedUnopened (ask : Service) (before after : LentTold) (result : Status) : Type 0 where
  pub why : result ≡ status.SourceFault
  pub opened : AreOpened ask.listen (all_ready ask.workers) before.lanes after.lanes
  pub stream : IsStreamReady ask.tcp before.stream after.stream
  pub named : (k : ℕ) × (k < length ask.more) × AreNamed ask.more (then_failed k) before.more after.more
  pub rest : after ≡ record before { lanes = after.lanes; stream = after.stream; more = after.more }

-- The ports, the streams and the further feeds were opened, but the put of the first map's text failed.
pub record IsUnput (ask : Service) (first : Version) (before after : LentTold) (result : Status) : Type 0 where
  pub why : result ≡ status.SinkFault
  pub opened : AreOpened ask.listen (all_ready ask.workers) before.lanes after.lanes
  pub stream : IsStreamReady ask.tcp before.stream after.stream
  pub named : AreNamed ask.more (all_ready (length ask.more)) before.more after.more
  pub cut : BothTell before.maps.past after.maps.past (IsCutBehind [] (map_text first))
  pub rose : Rose before.maps.faults after.maps.faults
  pub rest : after ≡ record before { lanes = after.lanes; stream = after.stream; more = after.more; maps = after.maps }

-- The ports, the streams and the further feeds were opened, and the first map's text was put.
pub record IsStarted (ask : Service) (first : Version) (before after : LentTold) : Type 0 where
  pub opened : AreOpened ask.listen (all_ready ask.workers) before.lanes after.lanes
  pub stream : IsStreamReady ask.tcp before.stream after.stream
  pub named : AreNamed ask.more (all_ready (length ask.more)) before.more after.more
  pub put : BothTell before.maps.past after.maps.past (IsPrinted (map_text first ∷ []))
  pub stays : after.maps.faults ≡ before.maps.faults
  pub rest : after ≡ record before { lanes = after.lanes; stream = after.stream; more = after.more; maps = after.maps }

-- The feeds were worked and the first lanes were served, and that for conversations where it is asked for, over one history of published maps that goes on from the first one, but where the map cell failed a lane; further feeds that were not asked for are untouched. The status is that of their ends, and each fault came with what it is a fault of: the count of a feed, of an output or of a door, eight more on that of a port or of the streams, as many turns as there may be, or a serial that was not published. The feeds' counts stood where no source's fault is answered, but for several feeds where an output's is, and those of both outputs where no output's is answered. Of one worker's replies, at whatever status, `driven` speaks: each lane has its `IsServedLog` of drive there.
pub record IsServed (turns : ℕ) (ask : Service) (first : Version) (before after : LentTold) (result : Status) : Type 0 where
  pub end : FeedEnd
  pub ends : List Ended
  pub stream_end : Option Ended
  pub as_many : length ends ≡ ask.workers
  pub as_asked : length (option_to_list stream_end) ≡ streams_of ask.tcp
  pub driven : IsDriven turns first end ends stream_end (with_feeds (length ask.more) before) (with_feeds (length ask.more) after)
  pub behind : drop (length ask.more) after.more ≡ drop (length ask.more) before.more
  pub result_is : result ≡ status_of end (list_any is_port_fault (all_ends ends stream_end)) (list_any is_spent (all_ends ends stream_end)) (list_any is_cell_fault (all_ends ends stream_end))
  pub source : end ≡ feed.SourceFault → Rose before.feed.faults after.feed.faults ⊎ AnyFeed (length ask.more) HasFeedFault before.more after.more
  pub source_stays : end ≢ feed.SourceFault → (end ≡ feed.SinkFault → ask.more ≡ []) → (after.feed.faults ≡ before.feed.faults) × AllStand before.more after.more
  pub sink : end ≡ feed.SinkFault → Rose before.out.faults after.out.faults ⊎ Rose before.maps.faults after.maps.faults
  pub sink_stays : end ≢ feed.SinkFault → (after.out.faults ≡ before.out.faults) × (after.maps.faults ≡ before.maps.faults)
  pub port : result ≡ status.PortFault → AnyServer ask HasEightPortFaults HasEightPortFaults before after
  pub spent : result ≡ status.Spent → (end ≡ feed.Spent) ⊎ AnyServer ask (HasTaken turns) (HasHeard turns) before after
  pub cell : result ≡ status.CellFault → AnyServer ask (HasCellFault (length (first ∷ driven.rest))) (HasCellFault (length (first ∷ driven.rest))) before after
  pub later : (before.feed.faults ≤ after.feed.faults) × (before.out.faults ≤ after.out.faults) × (before.maps.faults ≤ after.maps.faults) × NoneFell before.more after.more

-- what follows where the map cell was opened with a first version
abbrev pub IsFirstSession : ℕ → Service → Version → LentTold → LentTold → Status → Type 0
IsFirstSession turns ask first before after result = IsPortUnopened ask before after result
    ⊎ IsFeedUnopened ask before after result
    ⊎ IsUnput ask first before after result
    ⊎ ((result ≡ status.NoMemory) × IsStarted ask first before after)
    ⊎ ((started : LentTold) × IsStarted ask first before started × IsServed turns ask first started after result)

-- the first version of a topology: serial 0, its own numbers, and a good map, mapped from scratch
abbrev pub IsFirstOf : Plan → Version → Type 0
IsFirstOf t first = IsFirst t (record { history = first ∷ []; newest = first }) × IsFromScratch t.market first.lines

-- what follows where a topology was read
abbrev pub IsSession : ℕ → Service → Plan → LentTold → LentTold → Status → Type 0
IsSession turns ask topology before after result = IsUnopened ask before after result
    ⊎ ((placed : LentTold) × (first : Version) × IsPlaced ask before placed × IsFirstOf topology first × IsFirstSession turns ask first placed after result)

-- The topology was refused, with its text on the output or a beginning of it; or it could not be loaded, or memory was wanting.
pub record IsUnread (ask : Service) (before after : Surroundings) (result : Status) : Type 0 where
  pub run : RunsBy (IsRefused topology_file (files_between before.files.past after.files.past) ask.topology) before.lent.out.past after.lent.out.past result
  pub rest : IsOutAlone before.lent after.lent

-- what a run of `serve` does
abbrev pub IsServeRun : ℕ → Service → Surroundings → Surroundings → Status → Type 0
IsServeRun turns ask before after result = IsUnread ask before after result
    ⊎ ((topology : Plan) × IsPlan topology × Says topology_file (files_between before.files.past after.files.past) ask.topology topology × IsSession turns ask topology before.lent after.lent result)
