-- What a run of the whole program does, by what its words ask for.
use Rattle.std.specs.Prelude.{◌≡◌, ◌≢◌, ◌⊎◌, ℕ, ◌≤◌, List, [], length, Option, None, Some, IsSomeAnd}
use Rattle.outside.specs.Faults.{BothTell, Rose}
use Rattle.outside.specs.Shelf.{Load, Shelved}
use Rattle.glb.specs.declared.status.Status.{Status}
use Rattle.glb.specs.declared.status.Status.TheVariants as status
use Rattle.glb.specs.Words.{Ask, Service, Task, say, serve, large}
use Rattle.glb.specs.Loads.{DueLoad, AreLoaded, AreLoadsOf}
use Rattle.glb.specs.Outcome.{HasExactCauses}
use Rattle.glb.specs.Run as short
use Rattle.glb.specs.Serve.{IsServeRun, loads_of_serve}
use Rattle.drive.specs.Feeds.{AllStand, NoneFell}
use Rattle.glb.specs.Causes.{AnyFeed, AnyServer, AreSpent, HasDoorFault, HasFeedFault, HasLaneCauses, HasPortFault, IsPastMaps}
use Rattle.glb.specs.Map.{HoldsTopology}
use Rattle.glb.specs.Large.{IsLargeRun, IsSummedRun}
use Rattle.glb.specs.Served.{IsWellServed}
use Rattle.glb.specs.Told.{IsOutAlone, Surroundings, outside_of}

-- a run that touches the files and the output alone
pub record IsShortRun (ask : Option Ask) (before after : Surroundings) (result : Status) : Type 0 where
  pub run : short.IsSayingRun ask (outside_of before) (outside_of after) result
  pub rest : IsOutAlone before.lent after.lent

-- what a run does
abbrev pub IsProgramRun : ℕ → Option Task → Surroundings → Surroundings → Status → Type 0
IsProgramRun turns None before after result = IsShortRun None before after result
IsProgramRun turns (Some (say ask)) before after result = IsShortRun (Some ask) before after result
IsProgramRun turns (Some (serve ask)) before after result = IsServeRun turns ask before after result
IsProgramRun turns (Some (large groups)) before after result = IsLargeRun groups before after result

-- the loads that are due to a run over the files
abbrev pub loads_of : Option Task → List Load → List DueLoad
loads_of None = short.loads_of None
loads_of (Some (say ask)) = short.loads_of (Some ask)
loads_of (Some (serve ask)) = loads_of_serve ask
loads_of (Some (large groups)) = λ _. []

-- no count of `serve` falls, a fault of the files, a feed or an output is answered only where its count rose, and their counts stand where it is not answered, those of several feeds where no output's is answered either; and a fault of the lanes is answered only with its cause
pub record HasServeCauses (turns : ℕ) (ask : Service) (before after : Surroundings) (result : Status) : Type 0 where
  pub files_later : before.files.faults ≤ after.files.faults
  pub feed_later : before.lent.feed.faults ≤ after.lent.feed.faults
  pub more_later : NoneFell before.lent.more after.lent.more
  pub out_later : before.lent.out.faults ≤ after.lent.out.faults
  pub maps_later : before.lent.maps.faults ≤ after.lent.maps.faults
  pub source : result ≡ status.SourceFault → Rose before.files.faults after.files.faults ⊎ Rose before.lent.feed.faults after.lent.feed.faults ⊎ AnyFeed (length ask.more) HasFeedFault before.lent.more after.lent.more
  pub sink : result ≡ status.SinkFault → Rose before.lent.out.faults after.lent.out.faults ⊎ Rose before.lent.maps.faults after.lent.maps.faults
  pub files_stay : result ≢ status.SourceFault → after.files.faults ≡ before.files.faults
  pub feed_stays : result ≢ status.SourceFault → (result ≡ status.SinkFault → ask.more ≡ []) → (after.lent.feed.faults ≡ before.lent.feed.faults) × AllStand before.lent.more after.lent.more
  pub out_stays : result ≢ status.SinkFault → after.lent.out.faults ≡ before.lent.out.faults
  pub maps_stay : result ≢ status.SinkFault → after.lent.maps.faults ≡ before.lent.maps.faults
  pub lanes : HasLaneCauses turns ask before.lent after.lent result

-- what the counts of faults say of an answer
abbrev pub AreCauses : ℕ → Option Task → Surroundings → Surroundings → Status → Type 0
AreCauses turns None before after result = HasExactCauses (outside_of before) (outside_of after) result
AreCauses turns (Some (say ask)) before after result = HasExactCauses (outside_of before) (outside_of after) result
AreCauses turns (Some (serve ask)) before after result = HasServeCauses turns ask before after result
AreCauses turns (Some (large groups)) before after result = HasExactCauses (outside_of before) (outside_of after) result

-- The files are such that all is well: it is told what they hold, and that is what the task asks for. Of `large` nothing is asked of them.
abbrev pub IsSound : Option Task → Option Shelved → Type 0
IsSound None files = ⊥
IsSound (Some (say ask)) files = IsSomeAnd files (λ f. IsSomeAnd f.holds (short.IsSound (Some ask)))
IsSound (Some (serve ask)) files = IsSomeAnd files (λ f. IsSomeAnd f.holds (HoldsTopology ask.topology))
IsSound (Some (large groups)) files = Unit {0}

-- no count of faults rose: of the files, the feeds and both outputs, of a port, the streams or a door of the lanes
pub record IsServeQuiet (ask : Service) (before after : Surroundings) : Type 0 where
  pub files : Rose before.files.faults after.files.faults → ⊥
  pub feed : Rose before.lent.feed.faults after.lent.feed.faults → ⊥
  pub more : AnyFeed (length ask.more) HasFeedFault before.lent.more after.lent.more → ⊥
  pub out : Rose before.lent.out.faults after.lent.out.faults → ⊥
  pub maps : Rose before.lent.maps.faults after.lent.maps.faults → ⊥
  pub ports : AnyServer ask HasPortFault HasPortFault before.lent after.lent → ⊥
  pub doors : AnyServer ask HasDoorFault HasDoorFault before.lent after.lent → ⊥

-- no count of faults rose of what the task asks
abbrev pub AreQuiet : Option Task → Surroundings → Surroundings → Type 0
AreQuiet None before after = Unit {0}
AreQuiet (Some (say ask)) before after = (Rose before.files.faults after.files.faults → ⊥) × (Rose before.lent.out.faults after.lent.out.faults → ⊥)
AreQuiet (Some (serve ask)) before after = IsServeQuiet ask before after
AreQuiet (Some (large groups)) before after = Rose before.lent.out.faults after.lent.out.faults → ⊥

-- The answers that are left then: status 0 or want of memory; of `serve` also that turns were spent, where they were, and a fault of the cell, where a door has ever shown or learned a serial that was not published.
abbrev pub IsLeft : ℕ → Option Task → Surroundings → Surroundings → Status → Type 0
IsLeft turns None before after result = ⊥
IsLeft turns (Some (say ask)) before after result = (result ≡ status.Ok) ⊎ (result ≡ status.NoMemory)
IsLeft turns (Some (serve ask)) before after result = (result ≡ status.Ok) ⊎ (result ≡ status.NoMemory)
    ⊎ ((result ≡ status.Spent) × AreSpent turns ask before.lent after.lent)
    ⊎ ((result ≡ status.CellFault) × IsPastMaps ask before.lent after.lent)
IsLeft turns (Some (large groups)) before after result = (result ≡ status.Ok) ⊎ (result ≡ status.NoMemory)

-- what status 0 says
abbrev pub IsGoodRun : ℕ → Option Task → Surroundings → Surroundings → Type 0
IsGoodRun turns None before after = ⊥
IsGoodRun turns (Some (say ask)) before after = short.IsGoodRun (Some ask) (outside_of before) (outside_of after)
IsGoodRun turns (Some (serve ask)) before after = IsWellServed turns ask before after
IsGoodRun turns (Some (large groups)) before after = IsSummedRun groups before after

-- what is promised of a run of the whole program, whose words ask for this task
pub record IsPromised (turns : ℕ) (task : Option Task) (before after : Surroundings) (result : Status) : Type 0 where
  -- What it does: a command that says one text puts it on the output, and touches nothing else but the files; `serve` publishes a history of good maps, and its lanes answer from it, or, where the map cell failed one, from good maps that `IsServedLog` of drive names; `large` puts the summary of a run, line by line, and ends with status 0, with a fault of the output, or with want of memory. What the files say is what the octets say that were loaded; where files or feed don't tell them, there are octets for which that is so.
  pub run : IsProgramRun turns task before after result
  -- The files of the words are loaded in their order, once each, and each only where all before it say something,
  pub noted : BothTell before.files.past after.files.past (AreLoadsOf (loads_of task))
  -- and all of these, unless the answer is a fault of the files or of a feed (status 3), or want of memory.
  pub loaded : result ≢ status.SourceFault → result ≢ status.NoMemory → BothTell before.files.past after.files.past (AreLoaded (loads_of task))
  -- A fault of the files, of a feed or of an output is answered only where its count rose, and their counts stand where it is not answered; those of several feeds where an output's fault isn't answered either. Of `serve` also: a fault of a port is answered only where the count of the port of one of the first lanes rose, or that of the streams, turns were spent only where a feed or one of the lanes took all of them, and a fault of the cell is answered only where the count of the door of one of the lanes rose, or that door showed a serial past those whose texts the maps got.
  pub causes : AreCauses turns task before after result
  -- Status 0 says, but of `large`, that a load of this run gave octets which say a topology; of `check`, `answer` and `repair` also that one gave a map that is good for it, and of `repair` that one gave changes; and that the output got, in one put, `good`, or of `map` the text of a map that is good for the topology and group-best, mapped from scratch, or of `places` how many units stand at each place by such a map, or of `answer` the reply of the map, or of `repair` the text of a map that is good for the changed numbers and keeps the rest. Of `serve` it says that the maps hold the texts of a history of good maps, the first one mapped from scratch, and nothing else, and that each of the first lanes, and that for conversations where it is asked for, answered from that history until its port's or its streams' end or its gate's stop. Of `large` it says that the output got the ten lines of the summary of a run.
  pub good : result ≡ status.Ok → IsGoodRun turns task before after
  -- Where the files are told to hold a topology, for `check`, `answer` and `repair` a map that is good, and for `repair` changes, and no count of faults rises, there is no other answer but status 0 and want of memory; of `serve` also that turns were spent, where they were, and a fault of the cell, where a door has ever shown or learned a serial that was not published. For `large` nothing is asked of the files.
  pub complete : IsSound task before.files.past → AreQuiet task before after → IsLeft turns task before after result
