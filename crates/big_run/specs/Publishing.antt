-- What the tasks of a feed do to the maps of a large world: a batch publishes the map that it leads to, and nothing else changes them.
use Rattle.std.specs.Prelude.{◌≡◌, Option, None, Some}
use Rattle.map_cell.specs.Ends.{PublisherState}
use Rattle.demand_feed.specs.Task.{Task, refused, batch, empty, spoiled, query, totals}
use Rattle.mapper.specs.Mappers.{IsPublished}

-- what comes of a task
abbrev pub TaskPublishes : Task → PublisherState → PublisherState → Type 0
TaskPublishes (refused number why) a b = b ≡ a
TaskPublishes (batch changes) a b = IsPublished a changes b
TaskPublishes empty a b = b ≡ a
TaskPublishes (spoiled lines) a b = b ≡ a
TaskPublishes (query addr octets) a b = b ≡ a
TaskPublishes totals a b = b ≡ a

-- what comes of a line, if anything
abbrev pub LinePublishes : Option Task → PublisherState → PublisherState → Type 0
LinePublishes None a b = b ≡ a
LinePublishes (Some task) a b = TaskPublishes task a b
