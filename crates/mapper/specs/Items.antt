-- What items of several feeds come to, one after another.
use Rattle.std.specs.Prelude.{◌≡◌, ◌⊎◌, ℕ, List, [], ◌∷◌, ◌++◌, Option, Some}
use Rattle.map_model.specs.declared.change.Change.{Change}
use Rattle.demand_feed.specs.declared.sent.Item.{Item}
use Rattle.demand_feed.specs.declared.sent.What.{What}
use Rattle.demand_feed.specs.declared.sent.What.TheVariants as what
use Rattle.published_map.specs.Version.{Version}
use Rattle.mapper.specs.Control.{Course, IsNext, before_commit, with_line}
use Rattle.mapper.specs.Words.{map_text, reply_by, totals_of}
use Rattle.mapper.specs.Texts.{marked}
use Rattle.mapper.specs.Texts as text

-- one line more, behind its feed's mark if it has one
abbrev pub with_marked : Option ℕ → Course → List ℕ → Course
with_marked mark c line = with_line c (marked mark line)

-- one version more, whose line has that mark
abbrev pub with_published : Option ℕ → Course → Version → Course
with_published mark c version = record {
  newest = version;
  versions = c.versions ++ version ∷ [];
  out = c.out ++ marked mark (text.published version.serial) ∷ [];
  maps = c.maps ++ map_text version ∷ [];
  calls = c.calls;
}

-- what a batch that is not empty comes to
abbrev pub CommitWorks : Option ℕ → List Change → Course → Course → Type 0
CommitWorks mark changes c d =
    ((version : Version) × IsNext c.newest changes version × (d ≡ with_published mark c version))
    ⊎ (d ≡ with_marked mark c text.memory)

-- what one item of a feed comes to
abbrev pub WorksAs : Option ℕ → What → Course → Course → Type 0
WorksAs mark (what.Refused number why) c d = d ≡ with_marked mark c (text.refused number why)
WorksAs mark (what.Commit []) c d = d ≡ with_marked mark (before_commit c) (text.published c.newest.serial)
WorksAs mark (what.Commit (change ∷ changes)) c d = CommitWorks mark (change ∷ changes) (before_commit c) d
WorksAs mark what.Memory c d = d ≡ with_marked mark (before_commit c) text.memory
WorksAs mark what.Empty c d = d ≡ with_marked mark (before_commit c) (text.published c.newest.serial)
WorksAs mark (what.Lines lines) c d = d ≡ with_marked mark (before_commit c) (text.spoiled lines)
WorksAs mark (what.Ask addr octets) c d = d ≡ with_marked mark c (text.answer c.newest.serial (reply_by c.newest addr octets.items))
WorksAs mark what.Show c d = d ≡ with_marked mark c (text.show c.newest.serial (totals_of c.newest))
WorksAs mark (what.End end) c d = d ≡ c

abbrev pub Works : Item → Course → Course → Type 0
Works x c d = WorksAs (Some x.feeder) x.what c d

-- and all of them
abbrev pub AllWork : List Item → Course → Course → Type 0
AllWork [] c d = d ≡ c
AllWork (x ∷ xs) c d = (mid : Course) × Works x c mid × AllWork xs mid d
