-- Mappers over one topology and the same tasks agree; what items of several feeds come to.
use Rattle.std.specs.Prelude.{◌≡◌, List, ◌++◌, Contains, map}
use Rattle.map_model.specs.declared.change.Change.{Change}
use Rattle.map_model.specs.Market.{IsMarket}
use Rattle.topology_text.specs.Plan.{Plan}
use Rattle.demand_feed.specs.Task.{Task}
use Rattle.demand_feed.specs.declared.sent.Item.{Item}
use Rattle.map_cell.specs.Ends.{PublisherState}
use Rattle.published_map.specs.Version.{Version}
use Rattle.mapper.specs.Given.{AreGiven}
use Rattle.mapper.specs.Items.{AllWork}
use Rattle.mapper.specs.Merged.{Entry, IsMerged, Publishes, spoken}
use Rattle.mapper.specs.Control.{AllCome, Course, start}
use Rattle.mapper.specs.Mappers.{IsFirst}
use Rattle.mapper.specs.Texts as text

-- the line that memory was wanting was put
abbrev pub LackedMemory : Course → Type 0
LackedMemory c = Contains c.out text.memory

-- Two mappers were opened for one topology, and the same tasks came to a course of each. Where neither said that memory was wanting, the courses are the same: the same versions, the same texts of maps, the same lines and the same calls of the pace.
abbrev pub CoursesAgree : Type 0
CoursesAgree = (t : Plan) → IsMarket t.market → (a b : PublisherState) (tasks : List Task) (c d : Course) → IsFirst t a → IsFirst t b → AllCome tasks (start a.newest) c → AllCome tasks (start b.newest) d → (LackedMemory c → ⊥) → (LackedMemory d → ⊥) → c ≡ d

-- Versions that the same batches lead to from one version are the same.
abbrev pub VersionsAgree : Type 0
VersionsAgree = (old : Version) (batches : List (List Change)) (vs ws : List Version) → Publishes old batches vs → Publishes old batches ws → vs ≡ ws

-- What items come to one after another is a merged text of their lines.
abbrev pub TextsAreMerged : Type 0
TextsAreMerged = (items : List Item) (c d : Course) → AllWork items c d
    → (log : List Entry) × (vs : List Version) × IsMerged c.newest items log vs × (d.versions ≡ c.versions ++ vs) × (d.out ≡ c.out ++ map spoken log)

-- In a merged text the batches of each feeder lead to versions, but for those that are answered for want of memory.
abbrev pub BatchesAreGiven : Type 0
BatchesAreGiven = (first : Version) (items : List Item) (log : List Entry) (vs : List Version) → IsMerged first items log vs → AreGiven items log
