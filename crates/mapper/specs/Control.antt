-- What a feed's tasks come to: lines of control text, versions that are published with their texts, and calls of the pace.
use Rattle.std.specs.Prelude.{◌≡◌, ◌⊎◌, ℕ, ◌+◌, List, [], ◌∷◌, ◌++◌}
use Rattle.outside.specs.declared.pace.PaceCall.{PaceCall}
use Rattle.outside.specs.declared.pace.PaceCall.TheVariants.{Before}
use Rattle.map_model.specs.declared.change.Change.{Change}
use Rattle.map_model.specs.Batch.{IsApplied}
use Rattle.map_model.specs.Allocation.{IsGood}
use Rattle.demand_feed.specs.Task.{Task, refused, batch, empty, spoiled, query, totals}
use Rattle.demand_feed.specs.Taking.{AllDo}
use Rattle.map_repair.specs.Determined.{IsRepairedOf}
use Rattle.map_repair.specs.Repaired.{IsKept, IsLocal}
use Rattle.published_map.specs.Version.{Version}
use Rattle.mapper.specs.Words.{map_text, reply_by, totals_of}
use Rattle.mapper.specs.Texts as text

-- how far a feed has come: the newest version, the versions published since its start, and what was put on the two outputs, piece by piece, and asked of the pace
pub record Course : Type 0 where
  pub newest : Version
  pub versions : List Version
  pub out : List (List ℕ)
  pub maps : List (List ℕ)
  pub calls : List PaceCall

-- ahead of all lines
abbrev pub start : Version → Course
start newest = record { newest = newest; versions = []; out = []; maps = []; calls = [] }

-- one line of control text more
abbrev pub with_line : Course → List ℕ → Course
with_line c line = record c { out = c.out ++ line ∷ [] }

-- ahead of a commit line the pace is called
abbrev pub before_commit : Course → Course
before_commit c = record c { calls = c.calls ++ Before c.newest.serial ∷ [] }

-- one version more, whose map's text is put ahead of its line
abbrev pub with_version : Course → Version → Course
with_version c version = record {
  newest = version;
  versions = c.versions ++ version ∷ [];
  out = c.out ++ text.published version.serial ∷ [];
  maps = c.maps ++ map_text version ∷ [];
  calls = c.calls;
}

-- the version that a batch leads to: the next serial, the batch applied, and the repaired map of the old one, which is good and keeps what repair keeps of it
pub record IsNext (old : Version) (changes : List Change) (new : Version) : Type 0 where
  pub serial : new.serial ≡ old.serial + 1
  pub plan : new.plan ≡ old.plan
  pub applied : IsApplied old.market changes new.market
  pub good : IsGood new.market new.lines new.names
  pub kept : IsKept old.market old.lines new.market new.lines
  pub local : IsLocal old.market old.lines new.market new.lines
  pub repaired : IsRepairedOf old.market old.lines new.market new.lines

-- a batch is published: the version behind the newest one is its map
abbrev pub IsCommit : Course → List Change → Course → Type 0
IsCommit c changes d = (version : Version) × IsNext c.newest changes version × (d ≡ with_version c version)

-- what one task comes to
abbrev pub Comes : Task → Course → Course → Type 0
Comes (refused number why) c d = d ≡ with_line c (text.refused number why)
Comes (batch changes) c d = IsCommit (before_commit c) changes d ⊎ (d ≡ with_line (before_commit c) text.memory)
Comes empty c d = d ≡ with_line (before_commit c) (text.published c.newest.serial)
Comes (spoiled lines) c d = d ≡ with_line (before_commit c) (text.spoiled lines)
Comes (query addr octets) c d = d ≡ with_line c (text.answer c.newest.serial (reply_by c.newest addr octets))
Comes totals c d = d ≡ with_line c (text.show c.newest.serial (totals_of c.newest))

-- what tasks come to, one after another
abbrev pub AllCome : List Task → Course → Course → Type 0
AllCome tasks c d = AllDo Comes tasks c d
