-- A run over the items of several feeders.
use Rattle.std.specs.Prelude.{◌≡◌, ◌⊎◌, ℕ, Bool, true, false, if◌then◌else◌, List, [], ◌∷◌, ◌++◌, map, Option}
use Rattle.std.specs.List.{list_any}
use Rattle.outside.specs.Faults.{BothTell}
use Rattle.outside.specs.Pace.{IsPaced}
use Rattle.outside.specs.declared.pace.PaceCall.{PaceCall}
use Rattle.outside.specs.declared.pace.PaceCall.TheVariants.{Done}
use Rattle.demand_feed.specs.declared.run.FeedEnd.{FeedEnd}
use Rattle.demand_feed.specs.declared.run.FeedEnd.TheVariants as ends
use Rattle.demand_feed.specs.declared.sent.Item.{Item}
use Rattle.demand_feed.specs.declared.sent.What.{What}
use Rattle.demand_feed.specs.declared.sent.What.TheVariants as what
use Rattle.feed_queue.specs.Whole.{ends_in}
use Rattle.published_map.specs.Version.{Version}
use Rattle.mapper.specs.Control.{Course, start}
use Rattle.mapper.specs.Given.{AreGiven}
use Rattle.mapper.specs.Items.{AllWork, Works}
use Rattle.mapper.specs.Merged.{Entry, IsMerged, spoken}
use Rattle.mapper.specs.Scenes.{IsAt, IsCutAt, IsPrinted, Scene}

-- a feed's end by a fault of its source, by its turns, for want of memory
abbrev pub is_source_fault : What → Bool
is_source_fault (what.End ends.SourceFault) = true
is_source_fault _ = false

abbrev pub is_spent_end : What → Bool
is_spent_end (what.End ends.Spent) = true
is_spent_end _ = false

abbrev pub is_no_memory : What → Bool
is_no_memory (what.End ends.NoMemory) = true
is_no_memory _ = false

abbrev pub has_one : (What → Bool) → List Item → Bool
has_one test items = list_any (λ (x : Item). test x.what) items

-- the first of these by which one of the feeds has ended: a fault of its source, its turns, want of memory
abbrev pub first_end : List Item → FeedEnd
first_end items =
    if has_one is_source_fault items then ends.SourceFault
    else if has_one is_spent_end items then ends.Spent
    else if has_one is_no_memory items then ends.NoMemory
    else ends.Ended

-- the items came to a course, which is what is told
pub record AllWorked (items : List Item) (before after : Scene) : Type 0 where
  pub course : Course
  pub works : AllWork items (start before.newest) course
  pub told : IsAt before course after

-- of one item a put failed; those before it came to a course, and those behind it were taken and dropped
pub record WorkWasCut (items : List Item) (before after : Scene) : Type 0 where
  pub done : List Item
  pub item : Item
  pub later : List Item
  pub course : Course
  pub next : Course
  pub parts : items ≡ done ++ item ∷ later
  pub works : AllWork done (start before.newest) course
  pub last : Works item course next
  pub cut : IsCutAt before course next after

-- How a run ended: what all items came to was put, or a put failed.
abbrev pub HaveEnded : FeedEnd → List Item → Scene → Scene → Type 0
HaveEnded end items before after =
    ((end ≡ first_end items) × AllWorked items before after) ⊎ ((end ≡ ends.SinkFault) × WorkWasCut items before after)

-- a run that took the end of each of so many feeders, behind which the pace is told that
pub record AreFeeds (feeders : ℕ) (end : FeedEnd) (items : List Item) (before after : Scene) : Type 0 where
  pub calls : Option (List PaceCall)
  pub ended : HaveEnded end items before (record after { pace = calls })
  pub all : ends_in items ≡ feeders
  pub told : IsPaced (Done after.newest.serial ∷ []) calls after.pace

-- What items come to whose puts were all done, by what is told: a merged text from the newest version on, whose versions are added to the history and whose lines were put, one by one; and which batches of each feeder it has.
pub record HasMerged (items : List Item) (before after : Scene) : Type 0 where
  pub log : List Entry
  pub vs : List Version
  pub merged : IsMerged before.newest items log vs
  pub given : AreGiven items log
  pub history : after.history ≡ before.history ++ vs
  pub out : BothTell before.out after.out (IsPrinted (map spoken log))
