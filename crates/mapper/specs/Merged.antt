-- The merged control text of several feeds: what its lines say, place by place, and which batches lead to the versions.
use Rattle.std.specs.Prelude.{◌≡◌, ◌⊎◌, ℕ, zero, suc, ◌+◌, Bool, true, false, if◌then◌else◌, List, [], ◌∷◌, ◌++◌, map, take, count_by, Option, None, Some, slice_get}
use Rattle.std.specs.List.{filter, filter_map}
use Rattle.map_model.specs.declared.change.Change.{Change}
use Rattle.demand_feed.specs.declared.sent.Item.{Item}
use Rattle.demand_feed.specs.declared.sent.What.{What}
use Rattle.demand_feed.specs.declared.sent.What.TheVariants as what
use Rattle.published_map.specs.Version.{Version}
use Rattle.mapper.specs.Control.{IsNext}
use Rattle.mapper.specs.Words.{reply_by, totals_of}
use Rattle.mapper.specs.Texts.{mark_of}
use Rattle.mapper.specs.Texts as text

-- an item with the line that it came to, and whether that line raised the newest serial
pub record Entry : Type 0 where
  pub item : Item
  pub line : List ℕ
  pub raises : Bool

-- a line of the merged text
abbrev pub spoken : Entry → List ℕ
spoken e = mark_of e.item.feeder ++ e.line

-- an item to which a line is due: each but an end
abbrev pub has_line : What → Bool
has_line (what.End end) = false
has_line _ = true

-- the batch of an item, where it has one that is not empty
abbrev pub changes_of : What → Option (List Change)
changes_of (what.Commit []) = None
changes_of (what.Commit (change ∷ changes)) = Some (change ∷ changes)
changes_of _ = None

abbrev pub raised_batch : Entry → Option (List Change)
raised_batch e = if e.raises then changes_of e.item.what else None

-- the batches that were published, in the order of their lines
abbrev pub batches_of : List Entry → List (List Change)
batches_of log = filter_map raised_batch log

-- how many lines raised the serial
abbrev pub raises_in : List Entry → ℕ
raises_in log = count_by (λ e. e.raises) log

-- the newest version behind so many publishes
abbrev pub newest_at : Version → List Version → ℕ → Version
newest_at first versions zero = first
newest_at first [] (suc n) = first
newest_at first (v ∷ versions) (suc n) = newest_at v versions n

-- a version for each batch, one from the other
abbrev pub Publishes : Version → List (List Change) → List Version → Type 0
Publishes old [] [] = Unit {0}
Publishes old (changes ∷ batches) (v ∷ versions) = IsNext old changes v × Publishes v batches versions
Publishes old _ _ = ⊥

-- a line that says this of the newest version, and publishes nothing
abbrev pub Says : List ℕ → Entry → Type 0
Says line e = (e.line ≡ line) × (e.raises ≡ false)

-- what a line says where v is the newest version ahead of it
abbrev pub SpeaksAs : Version → What → Entry → Type 0
SpeaksAs v (what.Refused number why) e = Says (text.refused number why) e
SpeaksAs v (what.Commit []) e = Says (text.published v.serial) e
SpeaksAs v (what.Commit (change ∷ changes)) e = ((e.line ≡ text.published (v.serial + 1)) × (e.raises ≡ true)) ⊎ Says text.memory e
SpeaksAs v what.Memory e = Says text.memory e
SpeaksAs v what.Empty e = Says (text.published v.serial) e
SpeaksAs v (what.Lines lines) e = Says (text.spoiled lines) e
SpeaksAs v (what.Ask addr octets) e = Says (text.answer v.serial (reply_by v addr octets.items)) e
SpeaksAs v what.Show e = Says (text.show v.serial (totals_of v)) e
SpeaksAs v (what.End end) e = ⊥

abbrev pub Speaks : Version → Entry → Type 0
Speaks v e = SpeaksAs v e.item.what e

-- What taken items come to, from a first version on: a line for each but the ends, in the order in which they were taken. Each line says what is due over the newest version at its place, and the versions are those of the batches whose lines raised the serial, in the order of the lines.
pub record IsMerged (first : Version) (items : List Item) (log : List Entry) (vs : List Version) : Type 0 where
  pub entries : map (λ (e : Entry). e.item) log ≡ filter (λ (x : Item). has_line x.what) items
  pub published : Publishes first (batches_of log) vs
  pub lines : (i : ℕ) (e : Entry) → slice_get log i ≡ Some e → Speaks (newest_at first vs (raises_in (take i log))) e
