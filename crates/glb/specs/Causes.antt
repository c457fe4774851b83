-- What came of the feed and the lanes where `serve` answers a fault of theirs.
use Rattle.std.specs.Prelude.{◌≡◌, ◌⊎◌, ℕ, zero, suc, ◌≤◌, List, ◌∷◌, length, Option, None, Some}
use Rattle.std.specs.List.{concat}
use Rattle.outside.specs.Faults.{BothTell, DeviceState, Rose, raised}
use Rattle.outside.specs.Source.{Fed}
use Rattle.demand_feed.specs.Runs.{HasRead, NoStop}
use Rattle.mapper.specs.Scenes.{IsPrinted}
use Rattle.addr_text.specs.declared.address.Listen.{Listen}
use Rattle.drive.specs.Done.{LaneTold, ServerTold, StreamLaneTold}
use Rattle.drive.specs.Driven.{LentTold}
use Rattle.glb.specs.Words.{Service}
use Rattle.glb.specs.declared.status.Status.{Status}
use Rattle.glb.specs.declared.status.Status.TheVariants.{PortFault, Spent, CellFault}

-- one of the first n lanes is so, before and after
abbrev pub AnyLane : ℕ → (LaneTold → LaneTold → Type 0) → List LaneTold → List LaneTold → Type 0
AnyLane zero P before after = ⊥
AnyLane (suc n) P (b ∷ before) (c ∷ after) = P b c ⊎ AnyLane n P before after
AnyLane (suc n) P _ _ = ⊥

-- where a lane takes conversations, it is so, before and after
abbrev pub OfStream : Option Listen → (StreamLaneTold → StreamLaneTold → Type 0) → StreamLaneTold → StreamLaneTold → Type 0
OfStream None P before after = ⊥
OfStream (Some at) P before after = P before after

-- one of the lanes that are asked for is so, before and after: one of the first lanes for datagrams, or that for conversations
abbrev pub AnyServer : Service → (LaneTold → LaneTold → Type 0) → (StreamLaneTold → StreamLaneTold → Type 0) → LentTold → LentTold → Type 0
AnyServer ask P Q before after = AnyLane ask.workers P before.lanes after.lanes ⊎ OfStream ask.tcp Q before.stream after.stream

-- the count of its port, or of its streams, rose
abbrev pub HasPortFault : {T : Type 0} → ServerTold T → ServerTold T → Type 0
HasPortFault before after = Rose before.port_faults after.port_faults

-- that count rose by eight
abbrev pub HasEightPortFaults : {T : Type 0} → ServerTold T → ServerTold T → Type 0
HasEightPortFaults before after = raised before.port_faults 8 ≤ after.port_faults

-- the count of its door rose
abbrev pub HasDoorFault : {T : Type 0} → ServerTold T → ServerTold T → Type 0
HasDoorFault before after = Rose before.door_faults after.door_faults

-- its port gave exactly so many answers of recv, where it tells them
abbrev pub HasTaken : ℕ → LaneTold → LaneTold → Type 0
HasTaken turns before after = BothTell before.port after.port (λ b c. c.recvs ≡ raised b.recvs turns)

-- its streams gave exactly so many answers of accept and read, where they tell them
abbrev pub HasHeard : ℕ → StreamLaneTold → StreamLaneTold → Type 0
HasHeard turns before after = BothTell before.port after.port (λ b c. c.answers ≡ raised b.answers turns)

-- its door has ever shown or learned a serial beyond so many versions
abbrev pub HasShown : ℕ → {T : Type 0} → ServerTold T → ServerTold T → Type 0
HasShown versions before after = versions ≤ after.greatest

-- the count of its door rose, or its door has ever shown or learned a serial beyond so many versions
abbrev pub HasCellFault : ℕ → {T : Type 0} → ServerTold T → ServerTold T → Type 0
HasCellFault versions before after = HasDoorFault before after ⊎ HasShown versions before after

-- a feed gave exactly so many pieces, in which no line `stop` ended, and may have been opened
abbrev pub HasGiven : ℕ → Option Fed → Option Fed → Type 0
HasGiven turns before after = (pieces : List (List ℕ)) × BothTell before after (λ b c. HasRead pieces (record b { names = c.names }) c) × NoStop (concat pieces) × (length pieces ≡ turns)

-- one of the first n further feeds is so, before and after
abbrev pub AnyFeed : ℕ → (DeviceState Fed → DeviceState Fed → Type 0) → List (DeviceState Fed) → List (DeviceState Fed) → Type 0
AnyFeed zero P before after = ⊥
AnyFeed (suc n) P (b ∷ before) (c ∷ after) = P b c ⊎ AnyFeed n P before after
AnyFeed (suc n) P _ _ = ⊥

-- its count rose
abbrev pub HasFeedFault : DeviceState Fed → DeviceState Fed → Type 0
HasFeedFault before after = Rose before.faults after.faults

-- it gave so many pieces
abbrev pub HasFeedGiven : ℕ → DeviceState Fed → DeviceState Fed → Type 0
HasFeedGiven turns before after = HasGiven turns before.past after.past

-- a feed gave as many pieces as there are turns, or one of the lanes took as many answers
abbrev pub AreSpent : ℕ → Service → LentTold → LentTold → Type 0
AreSpent turns ask before after = HasFeedGiven turns before.feed after.feed ⊎ AnyFeed (length ask.more) (HasFeedGiven turns) before.more after.more ⊎ AnyServer ask (HasTaken turns) (HasHeard turns) before after

-- the maps got some texts, and the door of one of the lanes has ever shown or learned a serial beyond as many versions
abbrev pub IsPastMaps : Service → LentTold → LentTold → Type 0
IsPastMaps ask before after = (texts : List (List ℕ)) × BothTell before.maps.past after.maps.past (IsPrinted texts) × AnyServer ask (HasShown (length texts)) (HasShown (length texts)) before after

-- why a fault of the lanes was answered, or that turns were spent
pub record HasLaneCauses (turns : ℕ) (ask : Service) (before after : LentTold) (result : Status) : Type 0 where
  pub port : result ≡ PortFault → AnyServer ask HasPortFault HasPortFault before after
  pub spent : result ≡ Spent → AreSpent turns ask before after
  pub cell : result ≡ CellFault → AnyServer ask HasDoorFault HasDoorFault before after ⊎ IsPastMaps ask before after
