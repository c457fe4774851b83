-- A mapper and its lanes, driven to their ends over one history.
use Rattle.std.specs.Prelude.{◌≡◌, ℕ, ◌+◌, ◌-◌, List, [], ◌∷◌, ◌++◌, length, map, replicate, Option, None, Some, slice_get}
use Rattle.outside.specs.Faults.{DeviceState}
use Rattle.map_model.specs.declared.change.Change.{Change}
use Rattle.outside.specs.Sink.{Written}
use Rattle.outside.specs.Source.{Fed}
use Rattle.outside.specs.declared.pace.PaceCall.{PaceCall}
use Rattle.demand_feed.specs.declared.run.FeedEnd.{FeedEnd}
use Rattle.published_map.specs.Version.{IsVersion, Version}
use Rattle.lane_model.specs.declared.ended.Ended.{Ended}
use Rattle.lane_model.specs.Machine.{GoesOn}
use Rattle.mapper.specs.Control.{IsNext}
use Rattle.mapper.specs.Scenes.{Scene, scene}
use Rattle.drive.specs.Done.{IsDone, LaneTold, StreamLaneTold}
use Rattle.drive.specs.Feeds.{AreFed}
use Rattle.drive.specs.Streams.{AreStreamsDone}

-- what is told at one moment by all that a drive is lent: the feed, the further ones, both outputs, the pace, the lanes, and that for conversations
pub record LentTold : Type 0 where
  pub feed : DeviceState Fed
  pub more : List (DeviceState Fed)
  pub out : DeviceState Written
  pub maps : DeviceState Written
  pub pace : DeviceState (List PaceCall)
  pub lanes : List LaneTold
  pub stream : StreamLaneTold

-- the newest version and the history, beside what both outputs and the pace tell of their pasts
abbrev pub scene_at : Version → List Version → LentTold → Scene
scene_at newest history lent = scene newest history lent.out.past lent.maps.past lent.pace.past

-- a version may follow on a history: some changes lead to it from the last one
abbrev pub Succeeds : List Version → Version → Type 0
Succeeds h v = (old : Version) × (changes : List Change) × (slice_get h (length h - 1) ≡ Some old) × IsNext old changes v × IsVersion v

-- the lanes from number w on: each that has an end is done, and those behind them are as before
abbrev pub AreDone : ℕ → Version → List Version → ℕ → List Ended → List LaneTold → List LaneTold → Type 0
AreDone turns first rest w [] before after = after ≡ before
AreDone turns first rest w (e ∷ ends) (b ∷ before) (c ∷ after) = IsDone turns first rest w b c e × AreDone turns first rest (w + 1) ends before after
AreDone turns first rest w (e ∷ ends) _ _ = ⊥

-- A drive from a first version on: the run of its feed, or of all feeds together, whose versions go on from the first one, and the lanes, over that history but where the map cell failed one (`IsServedLog`), the one for conversations behind the others.
pub record IsDriven (turns : ℕ) (first : Version) (end : FeedEnd) (ends : List Ended) (stream_end : Option Ended) (before after : LentTold) : Type 0 where
  pub rest : List Version
  pub newest : Version
  pub feed : AreFed first.plan turns end before.feed before.more after.feed after.more (scene_at first (first ∷ []) before) (scene_at newest (first ∷ rest) after)
  pub goes_on : GoesOn Succeeds (first ∷ []) rest
  pub lanes : AreDone turns first rest 0 ends before.lanes after.lanes
  pub stream : AreStreamsDone turns first rest (length ends) stream_end before.stream after.stream

-- sixteen places, the first of which have the ends of the lanes
abbrev pub AreEnds : List Ended → List (Option Ended) → Type 0
AreEnds ends places = places ≡ map Some ends ++ replicate (16 - length ends) None
