-- What opening a mapper and committing a batch come to.
use Rattle.std.specs.Prelude.{◌≡◌, ℕ, ◌+◌, ◌*◌, ◌≤◌, List, [], ◌∷◌, ◌++◌, length, sum_by}
use Rattle.std.specs.List.{range_with_len}
use Rattle.map_model.specs.declared.change.Change.{Change}
use Rattle.map_model.specs.declared.lines.MapLine.{MapLine}
use Rattle.map_model.specs.Market.{Market, choices_of, demand_of}
use Rattle.map_model.specs.Allocation.{IsGood}
use Rattle.map_model.specs.Progress.{IsGroupBest}
use Rattle.topology_text.specs.Plan.{Plan}
use Rattle.evict.specs.Standing.{IsFresh, Standing}
use Rattle.deferred_accept.specs.Runs.{HasProposed}
use Rattle.map_repair.specs.Resumed.{HasRepaired}
use Rattle.published_map.specs.Version.{Version}
use Rattle.map_cell.specs.Ends.{PublisherState}
use Rattle.mapper.specs.Control.{IsNext}

-- one version was published, of serial 0: the group-best map for the topology's own instance
pub record IsFirst (t : Plan) (m : PublisherState) : Type 0 where
  pub history : m.history ≡ m.newest ∷ []
  pub serial : m.newest.serial ≡ 0
  pub plan : m.newest.plan ≡ t
  pub market : m.newest.market ≡ t.market
  pub good : IsGood t.market m.newest.lines m.newest.names
  pub best : IsGroupBest t.market m.newest.lines

-- how often groups may offer in a mapping from scratch: once for each unit of their demand and once more, at each place
abbrev pub most_offers : Market → ℕ
most_offers m = sum_by (λ g. length (choices_of m g) * (demand_of m g + 1)) (range_with_len 0 (length m.groups))

-- Proposals lead from nothing held to these lines, which are group-best, and a counter rose by the number of proposals.
pub record IsMapping (m : Market) (lines : List MapLine) (before after : ℕ) : Type 0 where
  pub start : Standing
  pub mapped : Standing
  pub fresh : IsFresh m start
  pub proposed : HasProposed m start mapped before after
  pub holds : mapped.lines ≡ lines
  pub best : IsGroupBest m lines

-- some number of proposals leads from nothing held to these lines, which are group-best, and it is no more than a mapping from scratch may make
pub record IsFromScratch (m : Market) (lines : List MapLine) : Type 0 where
  pub steps : ℕ
  pub counted : IsMapping m lines 0 steps
  pub few : steps ≤ most_offers m

-- A repair leads from the map of one version to that of another, and a counter rose by the number of its proposals.
abbrev pub IsRepairing : Version → Version → ℕ → ℕ → Type 0
IsRepairing old new before after = HasRepaired old.market old.lines new.market new.lines before after

-- the version that a batch leads to was published
pub record IsPublished (old : PublisherState) (changes : List Change) (new : PublisherState) : Type 0 where
  pub next : IsNext old.newest changes new.newest
  pub history : new.history ≡ old.history ++ new.newest ∷ []
